use native.Mathlib.Omega.{arith}
use Rattle.base_text.specs.WroteLaws.{wrote_then}
use Rattle.values_answers.specs.AskedLaws.{values_next}
use Rattle.values_answers.proofs.put_listed.Goals as goal

pub loop-i-preserved : goal.loop-i-preserved
loop-i-preserved c =
    let l = c.loop-i in
    let values = c.args.values.now in
    (omega arith, omega arith, omega arith, rw (values_next values l.i (omega arith)) (wrote_then l.invariant.3 c.put_value-next.ensures.0 (omega arith)))
