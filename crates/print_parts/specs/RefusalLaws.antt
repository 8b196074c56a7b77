-- What is printed of a refused sheet. Assumes nothing.
use Rattle.std.specs.Prelude.{◌≡◌, refl, List, ℕ, length}
use Rattle.sheet_spec.specs.declared.Listed.{Listed}
use Rattle.sheet_spec.specs.Translate.{ScratchRule, Outcome, in_order, refused, outcome_of, listed_of}
use Rattle.sheet_spec.specs.Promises.{Translated}
use Rattle.print_spec.specs.Printed.{line_refusal, printed_as}

-- whatever is printed of it where it is accepted
pub refusal_is : {rule : ScratchRule} {text v s v' s' : List ℕ} {r : Listed} → Translated rule text v s v' s' r → (r.number ≡ 0 → ⊥) → (t : List ℕ)
    → line_refusal r.number r.line r.detail r.value ≡ printed_as (outcome_of rule text (length s) (length v)) t
unfolding listed_of
refusal_is {rule} {text} {v} {s} {v'} {s'} {r} p h t = go (outcome_of rule text (length s) (length v)) refl
  where
    go : (w : Outcome) → outcome_of rule text (length s) (length v) ≡ w
        → line_refusal r.number r.line r.detail r.value ≡ printed_as (outcome_of rule text (length s) (length v)) t
    go in_order e = absurd (h (rw (p.listed, e)))
    go (refused number line detail value) e = rw (p.listed, e)
