use Rattle.read_answers.specs.Put.{put_text}
use Rattle.base_text.specs.WrittenLaws.{decimal_20}
use Rattle.base_text.specs.WroteLaws.{wrote, wrote_then}
use native.Mathlib.Omega.{arith}
use Rattle.read_answers.proofs.put_read.Goals as goal

pub put_byte-requires : goal.put_byte-requires
put_byte-requires c = omega (arith, decimal_20 c.args.bytes (omega arith))

pub returns : goal.returns
unfolding put_text
returns c =
    let a = c.args in
    let d = decimal_20 a.bytes (omega arith) in
    let numbers = c.put_numbers-next.ensures.0 in
    let arrow = wrote c.put-next.ensures in
    let size = wrote c.put_decimal-next.ensures in
    let end = wrote c.put_byte.ensures in
    (wrote_then (wrote_then (wrote_then numbers arrow (omega arith)) size (omega arith)) end (omega arith), omega arith)
