use native.Mathlib.Omega.{arith}
use lib.ListN.{length-set}
use Rattle.m68k_encode.proofs.Laws.{turn}
use Rattle.m68k_encode.proofs.put_bytes.Goals as goal

pub loop-k-preserved : goal.loop-k-preserved
loop-k-preserved c = let l = c.loop-k in let a = c.args in (omega arith, simp length-set l.invariant.1, rw (c.low_byte.ensures, c.high_byte.ensures, l.invariant.2) (turn a.words a.lent.now l.k (omega arith) (omega arith)))
