use borrow.Author.Rules.{rules}
use native.Mathlib.Omega.{arith}
use mathlib.Core.Path.{sym}
use mir.Facts.{to_z-of_z}
use mir.Syntax.{w64}
use Rattle.srecord_facts.specs.Printing.{printed_into}
use Rattle.unsheet_print.specs.PrintLaws.{found, not_found}
use Rattle.unsheet_print.proofs.print_unsheet.Goals as goal

pub returns-then-r-eq0 : goal.returns-then-r-eq0
returns-then-r-eq0 c =
    let a = c.args in
    found a.start a.room a.image.now a.out.now c.unsheet-r.ensures (omega arith) c.if-r-eq0.true

pub returns : goal.returns
returns c =
    let a = c.args in
    let n = not_found a.start a.room a.image.now a.out.now c.unsheet-r.ensures (omega arith) c.if-r-eq0.false in
    let p = rw (to_z-of_z {w = w64} {z = c.unsheet-r.result.value} (search rules)) at c.put_refusal.ensures in
    (printed_into (rw (sym n.1) (rw n.0 at p.0)), omega arith)
