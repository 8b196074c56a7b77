use Rattle.std.proofs.Common.{◌≡◌, ◌-◌, ◌≤◌, length}
use Rattle.sheet_passes.specs.Walks.{Writing}
use Rattle.sheet_passes.proofs.write.Given as goal

abbrev pub invariant-loop-next : goal.invariant-loop-next
invariant-loop-next l = (l.k ≤ length l.addresses) × (l.at ≤ length l.initial.image) × (length l.image ≡ length l.initial.image) × Writing l.text l.from l.addresses l.initial.image l.next l.k l.at l.image

abbrev pub decreases-loop-next : goal.decreases-loop-next
decreases-loop-next l = length l.text - l.next
