use native.Mathlib.Omega.{arith}
use Rattle.base_text.specs.WroteLaws.{wrote_then}
use Rattle.explain_sentence.proofs.Laws.{wrote_as, filled_next}
use Rattle.explain_sentence.proofs.rows.put_filled.Goals as goal

pub loop-i-preserved : goal.loop-i-preserved
loop-i-preserved c =
    let l = c.loop-i in
    let a = c.args in
    let w = c.put_filled_byte-next.ensures in
    (omega arith, omega (arith, w.1), omega arith, l.invariant.3, wrote_as (filled_next a.r a.text.now l.i (omega arith)) (wrote_then l.invariant.4 w.0 (omega (arith, w.1))))
