use Rattle.std.proofs.Common.{◌-◌, ◌≤◌, length}
use Rattle.sheet_blocks.proofs.Laws.{Ranging}
use Rattle.sheet_blocks.proofs.ranges.Given as goal

abbrev pub invariant-loop-next : goal.invariant-loop-next
invariant-loop-next l = (l.words ≤ 45056) × Ranging l.text l.from l.next l.k l.words

abbrev pub decreases-loop-next : goal.decreases-loop-next
decreases-loop-next l = length l.text - l.next
