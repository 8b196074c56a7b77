use Rattle.std.proofs.Common.{◌-◌, ◌≤◌, length}
use Rattle.sheet_passes.proofs.Laws.{Ranging}
use Rattle.sheet_passes.proofs.ranges.Given as goal

abbrev pub invariant-loop-next : goal.invariant-loop-next
invariant-loop-next l = (l.k ≤ length l.addresses) × Ranging l.text l.from l.addresses l.settled l.next l.k

abbrev pub decreases-loop-next : goal.decreases-loop-next
decreases-loop-next l = length l.text - l.next
