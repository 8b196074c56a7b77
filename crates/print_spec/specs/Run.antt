-- The run that a line writes: an address in decimal, then words of four hexadecimal digits, parted by tabs.
use Rattle.std.specs.Prelude.{Bool, true, false, cond, not, ◌&&◌, List, [], ◌∷◌, map, ℕ, ◌+◌, ◌*◌, ◌-◌, ◌^◌, leb, ltb, eqb, length}
use Rattle.base_spec.specs.Number.{Number, Is, No}

abbrev pub within : ℕ → ℕ → ℕ → Bool
within low high b = leb low b && leb b high

-- what a hexadecimal digit writes, 0 to 9, A to F, a to f; 16 for another byte
abbrev pub hex_value : ℕ → ℕ
hex_value b = cond (within 48 57 b) (b - 48) (cond (within 65 70 b) (b - 55) (cond (within 97 102 b) (b - 87) 16))

abbrev pub all_hex : List ℕ → Bool
all_hex [] = true
all_hex (b ∷ bs) = ltb (hex_value b) 16 && all_hex bs

-- the number that hexadecimal digits write, after digits that write a
abbrev pub hex_from : ℕ → List ℕ → ℕ
hex_from a [] = a
hex_from a (b ∷ bs) = hex_from (a * 16 + hex_value b) bs

-- a field of four hexadecimal digits, and the word that they write
abbrev pub is_word_field : List ℕ → Bool
is_word_field f = eqb (length f) 4 && all_hex f

abbrev pub word_in : List ℕ → ℕ
word_in f = hex_from 0 f

abbrev pub are_words : List (List ℕ) → Bool
are_words [] = true
are_words (f ∷ fs) = is_word_field f && are_words fs

abbrev pub field_words : List (List ℕ) → List ℕ
field_words fs = map word_in fs

-- a number from 0 to 2^32 - 1
abbrev pub is_address_field : Number → Bool
is_address_field (Is negative n) = not negative && ltb n (2 ^ 32)
is_address_field No = false
