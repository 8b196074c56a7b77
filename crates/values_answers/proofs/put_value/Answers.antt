use native.Mathlib.Omega.{arith}
use Rattle.base_text.specs.WrittenLaws.{decimal_20}
use Rattle.base_text.specs.WroteLaws.{wrote, wrote_then}
use Rattle.values_answers.proofs.put_value.Goals as goal

pub returns : goal.returns
returns c =
    let d = decimal_20 c.args.v (omega arith) in
    (wrote_then (wrote c.put_byte-next.ensures) (wrote c.put_decimal.ensures) (omega arith), omega arith)
