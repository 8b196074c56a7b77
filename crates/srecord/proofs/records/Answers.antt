use borrow.Author.Rules.{rules}
use native.Mathlib.Omega.{arith}
use mathlib.Core.Path.{◌≡◌, sym, ap}
use mir.Facts.{to_z-of_z}
use mir.Syntax.{w64}
use lib.ListN.{length, length-take}
use Rattle.sheet_start.specs.declared.StartAt.{StartAt}
use Rattle.print_parts.specs.RefusalLaws.{refusal_is}
use Rattle.srecord_spec.specs.Printed.{sheet_records}
use Rattle.srecord_facts.specs.Printing.{printed_into}
use Rattle.srecord.specs.RecordsLaws.{recordable, recorded}
use Rattle.srecord.proofs.records.Goals as goal

pub slice_bounds-image-end : goal.slice_bounds-image-end
slice_bounds-image-end c = omega (arith, (recordable c.translate-r.ensures c.if-r-eq0.true).room)

pub slice_bounds-write_records-end : goal.slice_bounds-write_records-end
slice_bounds-write_records-end c =
    rw length-take (omega (arith, (recordable c.translate-r.ensures c.if-r-eq0.true).room))

pub returns-then-r-eq0 : goal.returns-then-r-eq0
returns-then-r-eq0 c =
    let s : 4096 ≡ length c.filled-scratch.result = c.filled-scratch.ensures.room in
    let v : 16384 ≡ length c.filled-image.result = c.filled-image.ensures.room in
    let a = c.args in
    let start = c.start-s in
    rw (s, v) (recorded a.text.now c.filled-image.result _ (recordable c.translate-r.ensures c.if-r-eq0.true) (sym v) (omega arith) (ap (λ (i : StartAt). i.address) start.ensures) c.write_records.ensures)

pub returns : goal.returns
unfolding sheet_records
returns c =
    let s : 4096 ≡ length c.filled-scratch.result = c.filled-scratch.ensures.room in
    let v : 16384 ≡ length c.filled-image.result = c.filled-image.ensures.room in
    let p = rw (to_z-of_z {w = w64} {z = c.translate-r.result.value} (search rules)) at c.put_refusal.ensures in
    (printed_into (rw (s, v, ← refusal_is c.translate-r.ensures c.if-r-eq0.false) p.0), omega arith)
