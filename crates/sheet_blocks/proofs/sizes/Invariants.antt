use Rattle.std.proofs.Common.{◌≡◌, ◌-◌, length}
use Rattle.sheet_blocks.proofs.Laws.{Blocking}
use Rattle.sheet_blocks.proofs.sizes.Given as goal

abbrev pub invariant-loop-next : goal.invariant-loop-next
invariant-loop-next l = (length l.places ≡ length l.initial.places) × Blocking l.text l.from l.lines l.initial.places l.next l.k l.words l.places

abbrev pub decreases-loop-next : goal.decreases-loop-next
decreases-loop-next l = length l.text - l.next
