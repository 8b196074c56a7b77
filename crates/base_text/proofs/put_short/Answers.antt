use native.Mathlib.Omega.{arith}
use native.Mathlib.Numerals.{add-one}
use lib.ListN.{length-set}
use lib.Seq.{paste-suc}
use Rattle.base_text.proofs.put_short.Goals as goal

pub loop-i-preserved : goal.loop-i-preserved
loop-i-preserved c =
    let a = c.args in (
      omega arith,
      omega arith,
      simp length-set c.loop-i.invariant.2,
      rw (c.loop-i.invariant.3, add-one) (paste-suc a.out.now a.at a.text.now c.loop-i.i 0 (omega arith) (omega arith)),
    )
