use Rattle.std.proofs.Common.{◌≡◌, ◌-◌, ◌≤◌, length}
use Rattle.sheet_blocks.proofs.Laws.{Writes}
use Rattle.sheet_blocks.proofs.write.Given as goal

abbrev pub invariant-loop-next : goal.invariant-loop-next
invariant-loop-next l = (l.at ≤ 45056) × (l.at ≤ length l.initial.image) × (length l.image ≡ length l.initial.image) × Writes l.text l.from l.initial.image l.next l.at l.image

abbrev pub decreases-loop-next : goal.decreases-loop-next
decreases-loop-next l = length l.text - l.next
