use mathlib.Core.Path.{◌≡◌}
use Prim.Native.Nat.{◌+◌, ◌*◌, ◌-◌, ◌≤◌}
use lib.ListN.{length, take}
use Rattle.base_text.specs.Wrote.{Wrote}
use Rattle.print_spec.specs.BytesAnswer.{listed_bytes}
use Rattle.bytes_answers.proofs.put_lent.Given as goal

abbrev pub invariant-loop-i : goal.invariant-loop-i
invariant-loop-i l = (l.i ≤ length l.lent) × (length l.out ≡ length l.initial.out) × (l.next ≡ l.at + 3 * l.i) × Wrote l.initial.out l.at (listed_bytes (take l.i l.lent)) l.out l.next

abbrev pub decreases-loop-i : goal.decreases-loop-i
decreases-loop-i l = length l.lent - l.i
