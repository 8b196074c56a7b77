use mathlib.Core.Path.{◌≡◌}
use Prim.Native.Nat.{◌-◌, ◌≤◌}
use lib.ListN.{length}
use Rattle.explain_spec.specs.Explained.{explained_line}
use Rattle.base_text.specs.LinesLaws.{Walked}
use Rattle.explain_lines.proofs.put_lines.Given as goal

abbrev pub invariant-loop-next : goal.invariant-loop-next
invariant-loop-next l = (l.at ≤ length l.initial.out) × (length l.out ≡ length l.initial.out) × Walked explained_line 73728 l.text l.from l.initial.out l.out l.next l.at

abbrev pub decreases-loop-next : goal.decreases-loop-next
decreases-loop-next l = length l.text - l.next
