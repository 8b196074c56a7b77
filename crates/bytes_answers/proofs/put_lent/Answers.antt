use native.Mathlib.Omega.{arith}
use Rattle.base_text.specs.WroteLaws.{wrote, wrote_then}
use Rattle.bytes_answers.specs.BytesLaws.{bytes_next}
use Rattle.bytes_answers.proofs.put_lent.Goals as goal

pub loop-i-preserved : goal.loop-i-preserved
loop-i-preserved c =
    let l = c.loop-i in
    let lent = c.args.lent.now in
    let one = wrote_then (wrote c.put_byte-next.ensures) (wrote c.put_hex2-next.ensures) (omega arith) in
    (omega arith, omega arith, omega arith, rw (bytes_next lent l.i (omega arith)) (wrote_then l.invariant.3 one (omega arith)))
