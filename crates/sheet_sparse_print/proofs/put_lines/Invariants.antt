use Prim.Native.Nat.{◌-◌}
use lib.ListN.{length}
use Rattle.sheet_sparse_print.specs.CountedLaws.{Printing}
use Rattle.sheet_sparse_print.proofs.put_lines.Given as goal

abbrev pub invariant-loop-next : goal.invariant-loop-next
invariant-loop-next l = Printing l.text l.from l.lines l.start l.words l.initial.out l.next l.k l.begin l.at l.out

abbrev pub decreases-loop-next : goal.decreases-loop-next
decreases-loop-next l = length l.text - l.next
