-- What `read_68000` prints for a line: what `read` prints, or 15.
use Rattle.std.specs.Prelude.{cond, ◌&&◌, List, [], ◌∷◌, ◌++◌, ℕ}
use Rattle.base_spec.specs.Parts.{fields}
use Rattle.base_spec.specs.Number.{number_of}
use Rattle.base_spec.specs.Numbers.{magnitude_of}
use Rattle.base_spec.specs.Refused.{not_in_form}
use Rattle.print_spec.specs.EncodeAnswer.{measured_text}
use Rattle.print_spec.specs.Run.{is_address_field, are_words, field_words}
use Rattle.print_spec.specs.ReadAnswer.{reading_text}
use Rattle.m68000_spec.specs.Reading68000.{Reading68000, First, NotOf68000}
use Rattle.m68000_spec.specs.Read68000.{read_68000_of, refusal68000}

abbrev pub reading_68000_text : Reading68000 → List ℕ
reading_68000_text (First r) = reading_text r
reading_68000_text NotOf68000 = measured_text (refusal68000 NotOf68000) ++ (10 ∷ [])

-- for the fields of a line: an address, then words
abbrev pub answer_68000_to : List (List ℕ) → List ℕ
answer_68000_to [] = not_in_form
answer_68000_to (f ∷ fs) =
    cond (is_address_field (number_of f) && are_words fs) (reading_68000_text (read_68000_of (field_words fs) (magnitude_of (number_of f)))) not_in_form

-- for a line
unfoldable pub read_68000_answer_of : List ℕ → List ℕ
read_68000_answer_of line = answer_68000_to (fields line)
