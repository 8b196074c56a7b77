-- An image line that is read: the start in decimal, then words of four capital hexadecimal digits, parted by tabs, ended by LF.
use Rattle.std.specs.Prelude.{Bool, true, false, ◌&&◌, List, [], ◌∷◌, map, ℕ, pred, eqb, length, take}
use Rattle.base_spec.specs.Number.{number_of}
use Rattle.base_spec.specs.Numbers.{magnitude_of}
use Rattle.base_spec.specs.Parts.{fields}
use Rattle.sheet_spec.specs.Sheet.{last}
use Rattle.print_spec.specs.Run.{is_address_field}
use Rattle.srecord_spec.specs.Record.{are_pairs, pair_bytes, number_from}

-- a field of four capital hexadecimal digits, and the word that they write
abbrev pub is_capital_word : List ℕ → Bool
is_capital_word f = eqb (length f) 4 && are_pairs f

abbrev pub are_capital_words : List (List ℕ) → Bool
are_capital_words [] = true
are_capital_words (f ∷ fs) = is_capital_word f && are_capital_words fs

abbrev pub capital_word : List ℕ → ℕ
capital_word f = number_from 0 (pair_bytes f)

-- the fields of a line, its LF taken off
abbrev pub image_fields : List ℕ → List (List ℕ)
image_fields line = fields (take (pred (length line)) line)

abbrev pub is_image : List (List ℕ) → Bool
is_image [] = false
is_image (f ∷ fs) = is_address_field (number_of f) && are_capital_words fs

unfoldable pub is_image_line : List ℕ → Bool
is_image_line line = eqb (last line) 10 && is_image (image_fields line)

abbrev pub fields_start : List (List ℕ) → ℕ
fields_start [] = 0
fields_start (f ∷ fs) = magnitude_of (number_of f)

abbrev pub fields_words : List (List ℕ) → List ℕ
fields_words [] = []
fields_words (f ∷ fs) = map capital_word fs

-- its start and its words
abbrev pub image_line_start : List ℕ → ℕ
image_line_start line = fields_start (image_fields line)

abbrev pub image_line_words : List ℕ → List ℕ
image_line_words line = fields_words (image_fields line)
