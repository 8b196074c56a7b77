use Rattle.base_text.specs.WrittenLaws.{decimal_20}
use Rattle.base_text.specs.WroteLaws.{wrote, wrote_then}
use native.Mathlib.Omega.{arith}
use Rattle.unsheet_line.proofs.put_number.Goals as goal

pub returns-then-number : goal.returns-then-number
returns-then-number c =
    let a = c.args in
    let d = decimal_20 a.number.magnitude (omega arith) in
    rw c.if-number.true
    (wrote_then (wrote c.put_byte-next.ensures) (wrote c.put_decimal.ensures) (omega arith), omega arith)

pub returns : goal.returns
returns c =
    let d = decimal_20 c.args.number.magnitude (omega arith) in
    rw c.if-number.false (wrote c.put_decimal-2.ensures, omega arith)
