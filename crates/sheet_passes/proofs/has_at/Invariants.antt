use Rattle.std.proofs.Common.{◌≡◌, ◌-◌, length, drop}
use Rattle.sheet_passes.specs.Settle.{has_at}
use Rattle.sheet_passes.proofs.has_at.Given as goal

abbrev pub invariant-loop-i : goal.invariant-loop-i
invariant-loop-i l = has_at l.line ≡ has_at (drop l.i l.line)

abbrev pub decreases-loop-i : goal.decreases-loop-i
decreases-loop-i l = length l.line - l.i
