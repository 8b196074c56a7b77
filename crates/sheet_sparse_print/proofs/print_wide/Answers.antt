use borrow.Author.Rules.{rules}
use native.Mathlib.Omega.{arith}
use mir.Facts.{to_z-of_z}
use mir.Syntax.{w64}
use lib.ListN.{length-take}
use Rattle.print_spec.specs.Printed.{printed_of}
use Rattle.print_parts.specs.RefusalLaws.{refusal_is}
use Rattle.sheet_print.specs.PrintedLaws.{from_first}
use Rattle.sheet_sparse_print.specs.ListableLaws.{listable}
use Rattle.sheet_sparse_print.proofs.print_wide.Goals as goal

pub bounds-scratch-0 : goal.bounds-scratch-0
bounds-scratch-0 c = (listable c.translate_sparse-r.ensures c.if-r-eq0.true).first

pub slice_bounds-put_lines-end : goal.slice_bounds-put_lines-end
slice_bounds-put_lines-end c = (listable c.translate_sparse-r.ensures c.if-r-eq0.true).room

pub slice_bounds-put_lines-end-then-r-eq0 : goal.slice_bounds-put_lines-end-then-r-eq0
slice_bounds-put_lines-end-then-r-eq0 c = rw length-take (omega (arith, (listable c.translate_sparse-r.ensures c.if-r-eq0.true).room))

pub put_lines-requires : goal.put_lines-requires
put_lines-requires c = (omega arith, (listable c.translate_sparse-r.ensures c.if-r-eq0.true).counted _ c.lines_begin-from.ensures)

pub returns-then-r-eq0 : goal.returns-then-r-eq0
returns-then-r-eq0 c =
    let t = c.translate_sparse-r.ensures in
    let b = c.lines_begin-from.ensures in
    let l = listable t c.if-r-eq0.true in
    from_first t c.put_lines.ensures.0 (l.listing _ b) (omega (arith, (l.counted _ b).few))

pub returns : goal.returns
unfolding printed_of
returns c =
    let t = c.translate_sparse-r in
    let p = rw (to_z-of_z {w = w64} {z = t.result.value} (search rules)) at c.put_refusal.ensures in
    from_first t.ensures p.0 (refusal_is t.ensures c.if-r-eq0.false _) (omega arith)
