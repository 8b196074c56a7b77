-- The numbers of a line, in 24 places.
use Rattle.std.specs.Prelude.{Bool, true, false, cond, ◌&&◌, List, ◌++◌, map, ℕ, ◌+◌, ◌-◌, length, replicate, set, leb, ltb}
use Rattle.base_spec.specs.Parts.{fields}
use Rattle.base_spec.specs.Number.{Number, Is, No, number_of}
use Rattle.base_spec.specs.Numbers.{all_numbers, magnitude_of}
use Rattle.base_text.specs.declared.LineNumbers.{LineNumbers}

abbrev pub negative_of : Number → Bool
negative_of (Is negative n) = negative
negative_of No = false

-- l in the first of 24 places, the others z
abbrev pub places : {A : Type 0} → A → List A → List A
places z l = l ++ replicate (24 - length l) z

unfoldable pub no_numbers : LineNumbers
no_numbers = record { ok = false; count = 0; negative = replicate 24 false; magnitude = replicate 24 0 }

-- at most 24 numbers in their places
unfoldable pub gathered : List Number → LineNumbers
gathered ns =
    cond (all_numbers ns && leb (length ns) 24)
    (record { ok = true; count = length ns; negative = places false (map negative_of ns); magnitude = places 0 (map magnitude_of ns) })
    no_numbers

-- what the fields of a line say
abbrev pub line_numbers : List ℕ → LineNumbers
line_numbers line = gathered (map number_of (fields line))

-- r and one number more
unfoldable pub placed_number : LineNumbers → Bool → ℕ → LineNumbers
placed_number r s n =
    cond (r.ok && ltb r.count 24)
    (record { ok = r.ok; count = r.count + 1; negative = set r.negative r.count s; magnitude = set r.magnitude r.count n })
    no_numbers

abbrev pub with_number : LineNumbers → Number → LineNumbers
with_number r (Is s n) = placed_number r s n
with_number r No = no_numbers
