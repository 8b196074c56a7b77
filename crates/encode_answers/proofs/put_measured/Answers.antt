use native.Mathlib.Omega.{arith}
use borrow.Author.Tests.{eq-eqb}
use Rattle.base_text.specs.WrittenLaws.{decimal_20}
use Rattle.base_text.specs.WroteLaws.{wrote}
use Rattle.encode_answers.proofs.put_measured.Goals as goal

pub returns-then-m-eq0 : goal.returns-then-m-eq0
returns-then-m-eq0 c =
    let m = c.args.m in
    let d = decimal_20 m.size (omega arith) in
    rw (eq-eqb m.number 0 c.if-m-eq0.true) (wrote c.put_decimal.ensures, omega arith)
