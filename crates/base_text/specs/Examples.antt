-- The definitions at work.
use Rattle.std.specs.Prelude.{◌≡◌, refl, true, false, List, [], ◌∷◌, ℕ, replicate, negsuc}
use Rattle.base_text.specs.Parts.{part_end}
use Rattle.base_spec.specs.Parts.{fields}
use Rattle.base_spec.specs.Number.{Is, No, number_of}
use Rattle.base_text.specs.Numbers.{no_numbers, gathered, line_numbers}
use Rattle.base_spec.specs.Written.{hex4_of, hex8_of, decimal_of, signed_of}

-- 1⇥⇥-2
line : List ℕ
line = 49 ∷ 9 ∷ 9 ∷ 45 ∷ 50 ∷ []

parted : fields line ≡ (49 ∷ []) ∷ [] ∷ (45 ∷ 50 ∷ []) ∷ []
unfolding line
parted = refl

ended : (part_end 9 line 0 ≡ 1) × (part_end 9 line 2 ≡ 2) × (part_end 9 line 3 ≡ 5)
unfolding line
ended = (refl, refl, refl)

-- 0, -2, and not: nothing, -, -0, 01, +1, --1, 1 and CR
numbers : (number_of (48 ∷ []) ≡ Is false 0) × (number_of (45 ∷ 50 ∷ []) ≡ Is true 2)
    × (number_of [] ≡ No) × (number_of (45 ∷ []) ≡ No) × (number_of (45 ∷ 48 ∷ []) ≡ No) × (number_of (48 ∷ 49 ∷ []) ≡ No)
    × (number_of (43 ∷ 49 ∷ []) ≡ No) × (number_of (45 ∷ 45 ∷ 49 ∷ []) ≡ No) × (number_of (49 ∷ 13 ∷ []) ≡ No)
numbers = (refl, refl, refl, refl, refl, refl, refl, refl, refl)

-- 2^64 - 1 is a number here, 2^64 is not
most : (number_of (decimal_of 18446744073709551615) ≡ Is false 18446744073709551615) × (number_of (decimal_of 18446744073709551616) ≡ No)
unfolding decimal_of
most = (refl, refl)

-- an empty field is no number
refused : line_numbers line ≡ no_numbers
unfolding line gathered
refused = refl

-- 1⇥-2
accepted : line_numbers (49 ∷ 9 ∷ 45 ∷ 50 ∷ [])
    ≡ record { ok = true; count = 2; negative = false ∷ true ∷ replicate 22 false; magnitude = 1 ∷ 2 ∷ replicate 22 0 }
unfolding gathered
accepted = refl

-- 66FC, 00001006
hexadecimal : (hex4_of 26364 ≡ 54 ∷ 54 ∷ 70 ∷ 67 ∷ []) × (hex8_of 4102 ≡ 48 ∷ 48 ∷ 48 ∷ 48 ∷ 49 ∷ 48 ∷ 48 ∷ 54 ∷ [])
hexadecimal = (refl, refl)

-- 0, 4096, -9223372036854775808
decimal : (decimal_of 0 ≡ 48 ∷ []) × (decimal_of 4096 ≡ 52 ∷ 48 ∷ 57 ∷ 54 ∷ [])
    × (signed_of (negsuc 9223372036854775807)
    ≡ 45 ∷ 57 ∷ 50 ∷ 50 ∷ 51 ∷ 51 ∷ 55 ∷ 50 ∷ 48 ∷ 51 ∷ 54 ∷ 56 ∷ 53 ∷ 52 ∷ 55 ∷ 55 ∷ 53 ∷ 56 ∷ 48 ∷ 56 ∷ [])
unfolding decimal_of
decimal = (refl, refl, refl)
