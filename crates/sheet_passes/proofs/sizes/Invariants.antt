use Rattle.std.proofs.Common.{◌≡◌, ◌-◌, length}
use Rattle.sheet_passes.proofs.Laws.{Measuring}
use Rattle.sheet_passes.proofs.sizes.Given as goal

abbrev pub invariant-loop-next : goal.invariant-loop-next
invariant-loop-next l = (length l.scratch ≡ length l.initial.scratch) × Measuring l.text l.from l.lines l.start l.initial.scratch l.next l.k l.words l.settled l.scratch

abbrev pub decreases-loop-next : goal.decreases-loop-next
decreases-loop-next l = length l.text - l.next
