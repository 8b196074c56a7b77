use mathlib.Core.Path.{◌≡◌}
use Prim.Native.Nat.{◌+◌, ◌*◌, ◌-◌, ◌≤◌}
use lib.ListN.{length, take}
use Rattle.base_text.specs.Wrote.{Wrote}
use Rattle.print_spec.specs.EncodeAnswer.{words_text}
use Rattle.encode_answers.proofs.put_words.Given as goal

abbrev pub invariant-loop-i : goal.invariant-loop-i
invariant-loop-i l = (l.i ≤ l.count) × (length l.out ≡ length l.initial.out) × (l.next ≡ l.at + 5 * l.i) × Wrote l.initial.out l.at (words_text (take l.i l.words)) l.out l.next

abbrev pub decreases-loop-i : goal.decreases-loop-i
decreases-loop-i l = l.count - l.i
