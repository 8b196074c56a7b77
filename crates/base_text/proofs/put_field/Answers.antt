use native.Mathlib.Omega.{arith}
use Rattle.base_text.specs.WrittenLaws.{decimal_20}
use Rattle.base_text.specs.WroteLaws.{wrote, wrote_then}
use Rattle.base_text.proofs.put_field.Goals as goal

pub put_byte-requires : goal.put_byte-requires
put_byte-requires c = omega (arith, decimal_20 c.args.n (omega arith))

pub returns : goal.returns
returns c =
    let d = decimal_20 c.args.n (omega arith) in
    (wrote_then (wrote c.put_decimal-next.ensures) (wrote c.put_byte.ensures) (omega arith), omega arith)
