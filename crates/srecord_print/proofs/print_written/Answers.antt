use native.Mathlib.Omega.{arith}
use mathlib.Core.Path.{sym}
use Rattle.srecord_facts.specs.Printing.{printed_into}
use Rattle.srecord_print.specs.PrintLaws.{written_yes, written_no}
use Rattle.srecord_print.proofs.print_written.Goals as goal

pub returns-then-r-eq0 : goal.returns-then-r-eq0
returns-then-r-eq0 c =
    let a = c.args in
    written_yes a.start a.room a.image.now a.out.now c.write_records-r.ensures (omega arith) c.if-r-eq0.true

pub returns : goal.returns
returns c =
    let a = c.args in
    let n = written_no a.start a.room a.image.now a.out.now c.write_records-r.ensures (omega arith) c.if-r-eq0.false in
    let p = c.put_refusal.ensures in
    (printed_into (rw (sym n.1) (rw n.0 at p.0)), omega arith)
