-- What is read of an image line, and what the lent words then are.
use Rattle.std.specs.Prelude.{◌≡◌, Bool, true, false, cond, ◌&&◌, List, ℕ, ◌+◌, ◌*◌, ◌^◌, leb, ltb, length}
use Rattle.base_spec.specs.Number.{Number}
use Rattle.base_spec.specs.Numbers.{magnitude_of}
use Rattle.base_spec.specs.Parts.{fields}
use Rattle.sheet_spec.specs.Translate.{over}
use Rattle.print_spec.specs.Run.{is_address_field}
use Rattle.srecord_line.specs.LineForm.{is_capital_word, are_capital_words, capital_word, is_image, is_image_line, fields_start, fields_words, image_line_start, image_line_words}
use Rattle.srecord_line.specs.declared.Fields.{Fields}
use Rattle.srecord_line.specs.declared.ImageLine.{ImageLine}

-- an address or a word, or the number past the last where there is none
unfoldable pub address_or : Number → ℕ
address_or n = cond (is_address_field n) (magnitude_of n) (2 ^ 32)

unfoldable pub four_or : ℕ → ℕ → ℕ → ℕ → ℕ
four_or a b c d = cond (ltb a 16 && ltb b 16 && ltb c 16 && ltb d 16) (a * 4096 + b * 256 + c * 16 + d) 65536

unfoldable pub word_or : List ℕ → ℕ
word_or f = cond (is_capital_word f) (capital_word f) 65536

-- whether fields are words, and how many
pub record Counts (fs : List (List ℕ)) (r : Fields) : Type 0 where
  pub all : r.ok ≡ are_capital_words fs
  pub many : r.count ≡ cond (are_capital_words fs) (length fs) 0

unfoldable pub no_line : ImageLine
no_line = record { ok = false; start = 0; count = 0 }

-- an image line whose words have room
abbrev pub has_room : List (List ℕ) → ℕ → Bool
has_room fs room = is_image fs && leb (length (fields_words fs)) room

unfoldable pub body_of : List ℕ → ℕ → ImageLine
body_of body room =
    cond (has_room (fields body) room) (record { ok = true; start = fields_start (fields body); count = length (fields_words (fields body)) }) no_line

unfoldable pub body_left : List ℕ → List ℕ → List ℕ
body_left body words = cond (has_room (fields body) (length words)) (over (fields_words (fields body)) words) words

-- the start and the count; the words lent, unchanged where it is no image line or has no room
abbrev pub is_read : List ℕ → ℕ → Bool
is_read line room = is_image_line line && leb (length (image_line_words line)) room

unfoldable pub line_of : List ℕ → ℕ → ImageLine
line_of line room =
    cond (is_read line room) (record { ok = true; start = image_line_start line; count = length (image_line_words line) }) no_line

unfoldable pub words_left : List ℕ → List ℕ → List ℕ
words_left line words = cond (is_read line (length words)) (over (image_line_words line) words) words
