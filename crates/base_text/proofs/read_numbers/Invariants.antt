use mathlib.Core.Path.{◌≡◌}
use Prim.Native.Nat.{◌+◌, ◌-◌, ◌≤◌}
use lib.ListN.{length}
use Rattle.base_text.specs.Numbers.{line_numbers}
use Rattle.base_text.specs.NumbersLaws.{gathered_on, numbers_from}
use Rattle.base_text.proofs.read_numbers.Given as goal

abbrev pub invariant-loop-from : goal.invariant-loop-from
invariant-loop-from l = (l.from ≤ length l.line + 1) × (line_numbers l.line ≡ gathered_on l.r (numbers_from l.line l.from))

abbrev pub decreases-loop-from : goal.decreases-loop-from
decreases-loop-from l = length l.line + 1 - l.from
