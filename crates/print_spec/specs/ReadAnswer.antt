-- What `read` prints for a line: the numbers of the instruction that its words read as, `=>` and the length in bytes, or a refusal.
use Rattle.std.specs.Prelude.{cond, ◌&&◌, List, [], ◌∷◌, ◌++◌, ℕ, ℤ}
use Rattle.base_spec.specs.Written.{decimal_of, signed_of}
use Rattle.base_spec.specs.Refused.{tab, not_in_form}
use Rattle.base_spec.specs.Parts.{fields}
use Rattle.base_spec.specs.Number.{number_of}
use Rattle.base_spec.specs.Numbers.{magnitude_of}
use Rattle.numeric_spec.specs.Form.{numbers_of}
use Rattle.read_spec.specs.Reading.{Reading, Read, Short, Nothing}
use Rattle.read_spec.specs.ReadingRefusal.{reading_refusal}
use Rattle.read_spec.specs.Read.{read_of}
use Rattle.print_spec.specs.EncodeAnswer.{measured_text}
use Rattle.print_spec.specs.Run.{is_address_field, are_words, field_words}

-- each number, and a tab
abbrev pub numbers_text : List ℤ → List ℕ
numbers_text [] = []
numbers_text (z ∷ zs) = signed_of z ++ tab ++ numbers_text zs

-- the numbers, => and the length
unfoldable pub read_text : List ℤ → ℕ → List ℕ
read_text zs n = numbers_text zs ++ (61 ∷ 62 ∷ 9 ∷ []) ++ decimal_of n ++ (10 ∷ [])

abbrev pub reading_text : Reading → List ℕ
reading_text (Read i n) = read_text (numbers_of i) n
reading_text Short = measured_text (reading_refusal Short) ++ (10 ∷ [])
reading_text Nothing = measured_text (reading_refusal Nothing) ++ (10 ∷ [])

-- for the fields of a line: an address, then words
abbrev pub answer_to : List (List ℕ) → List ℕ
answer_to [] = not_in_form
answer_to (f ∷ fs) = cond (is_address_field (number_of f) && are_words fs) (reading_text (read_of (field_words fs) (magnitude_of (number_of f)))) not_in_form

-- for a line
unfoldable pub read_answer_of : List ℕ → List ℕ
read_answer_of line = answer_to (fields line)
