use Rattle.base_text.specs.WrittenLaws.{decimal_20}
use Rattle.base_text.specs.WroteLaws.{wrote, wrote_then}
use native.Mathlib.Omega.{arith}
use Rattle.read_answers.proofs.put_number.Goals as goal

pub put_byte-requires : goal.put_byte-requires
put_byte-requires c = omega (arith, decimal_20 c.args.number.magnitude (omega arith))

pub returns : goal.returns
returns c =
    let a = c.args in
    let d = decimal_20 a.number.magnitude (omega arith) in
    let sign = c.put_sign-next.ensures.0 in
    let number = wrote c.put_decimal-next.ensures in
    (wrote_then (wrote_then sign number (omega arith)) (wrote c.put_byte.ensures) (omega arith), omega arith)
