use mathlib.Core.Path.{◌≡◌}
use Prim.Native.Nat.{◌+◌, ◌*◌, ◌-◌, ◌≤◌}
use lib.ListN.{length, take}
use Rattle.base_text.specs.Wrote.{Wrote}
use Rattle.print_spec.specs.Printed.{listed_words}
use Rattle.print_parts.proofs.put_words.Given as goal

abbrev pub invariant-loop-i : goal.invariant-loop-i
invariant-loop-i l = (l.i ≤ length l.words) × (length l.out ≡ length l.initial.out) × (l.next ≡ l.at + 5 * l.i) × Wrote l.initial.out l.at (listed_words (take l.i l.words)) l.out l.next

abbrev pub decreases-loop-i : goal.decreases-loop-i
decreases-loop-i l = length l.words - l.i
