use native.Mathlib.Omega.{arith}
use mathlib.Core.Path.{sym}
use lib.ListN.{length-take}
use Rattle.srecord_facts.specs.Printing.{printed_into}
use Rattle.srecord_facts.specs.Loading.{loads}
use Rattle.srecord_print.specs.PrintLaws.{loaded_line, refusal_is}
use Rattle.srecord_print.proofs.print_loaded.Goals as goal

pub slice_bounds-put_image_line-end : goal.slice_bounds-put_image_line-end
slice_bounds-put_image_line-end c = (loads c.read_records-r.ensures c.if-r-eq0.true).room

pub slice_bounds-put_image_line-end-then-r-eq0 : goal.slice_bounds-put_image_line-end-then-r-eq0
slice_bounds-put_image_line-end-then-r-eq0 c =
    rw length-take (omega (arith, (loads c.read_records-r.ensures c.if-r-eq0.true).room))

pub returns-then-r-eq0-clause-printed_into : goal.returns-then-r-eq0-clause-printed_into
returns-then-r-eq0-clause-printed_into c =
    let l = c.put_image_line.ensures in
    (printed_into (rw (sym (loaded_line c.read_records-r.ensures c.if-r-eq0.true)) l.0), omega (arith, l.1))

pub returns-clause-printed_into : goal.returns-clause-printed_into
returns-clause-printed_into c =
    let p = c.put_refusal.ensures in
    (printed_into (rw (sym (refusal_is c.read_records-r.ensures c.if-r-eq0.false)) p.0), omega arith)
