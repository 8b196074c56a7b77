use native.Mathlib.Omega.{arith}
use Rattle.srecord_write.specs.TextLaws.{sum_next}
use Rattle.srecord_write.proofs.data_sum.Goals as goal

pub loop-i-preserved : goal.loop-i-preserved
loop-i-preserved c =
    let l = c.loop-i in
    let words = c.args.words.now in
    (omega arith, omega arith, omega (arith, sum_next words l.i (omega arith)))
