use native.Mathlib.Omega.{arith}
use Rattle.base_text.specs.WroteLaws.{wrote, wrote_then}
use Rattle.srecord_write.specs.TextLaws.{data_next}
use Rattle.srecord_write.proofs.put_data.Goals as goal

pub loop-i-preserved : goal.loop-i-preserved
loop-i-preserved c =
    let l = c.loop-i in
    let words = c.args.words.now in
    (omega arith, omega arith, omega arith, rw (data_next words l.i (omega arith)) (wrote_then l.invariant.3 (wrote c.put_hex4-next.ensures) (omega arith)))
