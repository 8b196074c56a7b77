-- What is printed for a line is what `read` prints for it, but where its run is answered 15.
use Rattle.std.specs.Prelude.{ℕ, ◌≡◌, refl, Bool, true, false, cond, ◌&&◌, List, [], ◌∷◌, ◌++◌}
use Rattle.std.proofs.Common.{ap, ◌∙◌}
use Rattle.base_spec.specs.Parts.{fields}
use Rattle.base_spec.specs.Number.{number_of}
use Rattle.base_spec.specs.Numbers.{magnitude_of}
use Rattle.base_spec.specs.Refused.{not_in_form}
use Rattle.read_spec.specs.Reading.{Reading, Read, Short, Nothing}
use Rattle.read_spec.specs.ReadingRefusal.{refused_run}
use Rattle.read_spec.specs.Read.{read_of}
use Rattle.print_spec.specs.EncodeAnswer.{measured_text}
use Rattle.print_spec.specs.Run.{is_address_field, are_words, field_words}
use Rattle.print_spec.specs.ReadAnswer.{read_text, reading_text, answer_to, read_answer_of}
use Rattle.numeric_spec.specs.Form.{numbers_of}
use Rattle.base_facts.specs.Tests.{cond_true}
use Rattle.m68000_spec.specs.Reading68000.{First, NotOf68000}
use Rattle.m68000_spec.specs.Of68000.{of68000}
use Rattle.m68000_spec.specs.Read68000.{restricted, read_68000_of}
use Rattle.m68000_spec.specs.Answer68000.{reading_68000_text, answer_68000_to, read_68000_answer_of}

-- a line that is in the form: its address and its words
abbrev Run : List (List ℕ) → List ℕ → List (List ℕ) → Type 0
Run ps f fs = (ps ≡ f ∷ fs) × (is_address_field (number_of f) && are_words fs ≡ true)

text_as : (r : Reading) → (restricted r ≡ NotOf68000 → ⊥) → reading_68000_text (restricted r) ≡ reading_text r
text_as (Read i n) h = go (of68000 i) h
  where
    go : (t : Bool) → (cond t (First (Read i n)) NotOf68000 ≡ NotOf68000 → ⊥) → reading_68000_text (cond t (First (Read i n)) NotOf68000) ≡ read_text (numbers_of i) n
    go true g = refl
    go false g = absurd (g refl)
text_as Short h = refl
text_as Nothing h = refl

text_if : (t : Bool) (r : Reading) → (t ≡ true → restricted r ≡ NotOf68000 → ⊥)
    → cond t (reading_68000_text (restricted r)) not_in_form ≡ cond t (reading_text r) not_in_form
text_if true r h = text_as r (h refl)
text_if false r h = refl

fields_as : (ps : List (List ℕ))
    → ((f : List ℕ) (fs : List (List ℕ)) → Run ps f fs → read_68000_of (field_words fs) (magnitude_of (number_of f)) ≡ NotOf68000 → ⊥)
    → answer_68000_to ps ≡ answer_to ps
unfolding read_68000_of
fields_as [] h = refl
fields_as (f ∷ fs) h = text_if (is_address_field (number_of f) && are_words fs) (read_of (field_words fs) (magnitude_of (number_of f))) (λ e. h f fs (refl, e))

-- where no address and words of the line are answered 15, `read` prints the same
pub as_read : (line : List ℕ)
    → ((f : List ℕ) (fs : List (List ℕ)) → (fields line ≡ f ∷ fs) × (is_address_field (number_of f) && are_words fs ≡ true)
    → read_68000_of (field_words fs) (magnitude_of (number_of f)) ≡ NotOf68000 → ⊥)
    → read_68000_answer_of line ≡ read_answer_of line
unfolding read_68000_answer_of read_answer_of
as_read line h = fields_as (fields line) h

-- where they are, 15 is printed
pub refused_line : (line f : List ℕ) (fs : List (List ℕ)) → fields line ≡ f ∷ fs → is_address_field (number_of f) && are_words fs ≡ true
    → read_68000_of (field_words fs) (magnitude_of (number_of f)) ≡ NotOf68000
    → read_68000_answer_of line ≡ measured_text (refused_run 15) ++ (10 ∷ [])
unfolding read_68000_answer_of
refused_line line f fs e t r =
    ap answer_68000_to e ∙ cond_true (is_address_field (number_of f) && are_words fs) _ _ t ∙ ap reading_68000_text r
