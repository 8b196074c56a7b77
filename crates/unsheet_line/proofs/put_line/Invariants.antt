use Prim.Native.Nat.{◌+◌, ◌*◌, ◌-◌, ◌≤◌}
use mathlib.Core.Path.{◌≡◌}
use mathlib.Core.List.{[], ◌∷◌, ◌++◌}
use lib.ListN.{length}
use Rattle.isa.specs.declared.Instruction.{Instruction}
use Rattle.numeric_spec.specs.Form.{form_of}
use Rattle.numeric_form.specs.Numbers.{numbers_from}
use Rattle.sheet_spec.specs.Spell.{spell}
use Rattle.unsheet_spec.specs.Text.{tokens_of}
use Rattle.unsheet_line.specs.Table.{lands_in}
use Rattle.unsheet_line.specs.FieldLaws.{Spelling}
use Rattle.unsheet_line.proofs.put_line.Given as goal

abbrev pub invariant-loop-i : goal.invariant-loop-i
invariant-loop-i l =
    (l.i ≤ l.count) × (length l.out ≡ length l.initial.out) × (l.next ≤ l.at + 22 * l.i)
    × ((x : Instruction) → l.numbers ≡ numbers_from (form_of x) → Spelling (lands_in l.start l.lines) (form_of x) (spell (tokens_of (lands_in l.start l.lines) x) ++ (10 ∷ [])) l.initial.out l.at l.out l.next l.kinds l.i)

abbrev pub decreases-loop-i : goal.decreases-loop-i
decreases-loop-i l = l.count - l.i
