-- Decimal numbers: digits with no leading zeros, `-` where the number is below 0.
use Rattle.std.specs.Prelude.{Bool, true, false, cond, not, ◌&&◌, List, [], ◌∷◌, ℕ, ◌+◌, ◌*◌, ◌-◌, ◌^◌, leb, ltb, eqb, Option, Some, None}
use Rattle.base_spec.specs.declared.Literal.{Literal}

-- what a field says: a sign and a magnitude, or no number
pub data Number : Type 0 where
  Is : Bool → ℕ → Number
  No : Number

-- the number that the code gives
abbrev pub number_in : Option Literal → Number
number_in (Some l) = Is l.negative l.magnitude
number_in None = No

abbrev pub is_digit : ℕ → Bool
is_digit b = leb 48 b && leb b 57

abbrev pub all_digits : List ℕ → Bool
all_digits [] = true
all_digits (b ∷ bs) = is_digit b && all_digits bs

-- the number that digits write, after digits that write a
abbrev pub value_from : ℕ → List ℕ → ℕ
value_from a [] = a
value_from a (b ∷ bs) = value_from (a * 10 + (b - 48)) bs

-- the number that digits write
abbrev pub value : List ℕ → ℕ
value bs = value_from 0 bs

-- at least one digit, and no 0 before others
abbrev pub is_decimal : List ℕ → Bool
is_decimal [] = false
is_decimal (b ∷ []) = is_digit b
is_decimal (b ∷ (d ∷ bs)) = not (eqb b 48) && all_digits (b ∷ (d ∷ bs))

-- a number with no sign, below 2^64
abbrev pub unsigned_of : List ℕ → Number
unsigned_of f = cond (is_decimal f && ltb (value f) (2 ^ 64)) (Is false (value f)) No

-- the number with `-` before it: 0 has none
abbrev pub negated : Number → Number
negated (Is negative n) = cond (eqb n 0) No (Is true n)
negated No = No

-- what a field says
abbrev pub number_of : List ℕ → Number
number_of [] = No
number_of (b ∷ bs) = cond (eqb b 45) (negated (unsigned_of bs)) (unsigned_of (b ∷ bs))
