-- The numbers of a line.
use Rattle.std.specs.Prelude.{Bool, true, false, cond, ◌&&◌, List, [], ◌∷◌, ℕ, ℤ, pos}
use Rattle.base_spec.specs.Number.{Number, Is, No}
use Rattle.base_spec.specs.Signed.{minus}

abbrev pub is_number : Number → Bool
is_number (Is negative n) = true
is_number No = false

abbrev pub magnitude_of : Number → ℕ
magnitude_of (Is negative n) = n
magnitude_of No = 0

-- the number that a field says; 0 where it says none
abbrev pub integer_of : Number → ℤ
integer_of (Is negative n) = cond negative (minus n) (pos n)
integer_of No = pos 0

abbrev pub all_numbers : List Number → Bool
all_numbers [] = true
all_numbers (n ∷ ns) = is_number n && all_numbers ns
