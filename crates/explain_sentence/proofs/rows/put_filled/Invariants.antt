use mathlib.Core.Path.{◌≡◌}
use Prim.Native.Nat.{◌+◌, ◌*◌, ◌-◌, ◌≤◌}
use lib.ListN.{length, take}
use Rattle.base_text.specs.Wrote.{Wrote}
use Rattle.explain_spec.specs.Sentence.{filled}
use Rattle.explain_sentence.proofs.rows.put_filled.Given as goal

abbrev pub invariant-loop-i : goal.invariant-loop-i
invariant-loop-i l = (l.i ≤ length l.text) × (l.next ≤ l.at + 21 * l.i) × (length l.out ≡ length l.initial.out) × (l.at + 21 * length l.text ≤ length l.initial.out) × Wrote l.initial.out l.at (filled l.r (take l.i l.text)) l.out l.next

abbrev pub decreases-loop-i : goal.decreases-loop-i
decreases-loop-i l = length l.text - l.i
