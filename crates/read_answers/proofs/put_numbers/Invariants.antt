use Rattle.std.specs.Prelude.{◌≡◌, ◌+◌, ◌*◌, ◌≤◌, length, take}
use Rattle.base_text.specs.Wrote.{Wrote}
use Rattle.read_answers.specs.Put.{literals_text}
use Rattle.read_answers.proofs.put_numbers.Given as goal

abbrev pub invariant-loop-number : goal.invariant-loop-number
invariant-loop-number l = (length l.out ≡ length l.initial.out) × (l.next ≤ l.at + 22 * l.number-index) × Wrote l.initial.out l.at (literals_text (take l.number-index l.numbers)) l.out l.next
