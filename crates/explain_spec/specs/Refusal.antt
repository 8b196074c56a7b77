-- The refusal that a line prints: `refused`, then number, detail and value, or number, line, detail and value; then the line ends, or `=>` follows.
use Rattle.std.specs.Prelude.{ℕ, Bool, true, false, cond, not, ◌&&◌, List, [], ◌∷◌}
use Rattle.base_spec.specs.Parts.{fields}
use Rattle.base_spec.specs.Number.{Number, Is, No, number_of}
use Rattle.base_spec.specs.Numbers.{is_number, magnitude_of}
use Rattle.sheet_spec.specs.Names.{bytes}
use Rattle.sheet_spec.specs.Line.{equal}
use Rattle.explain_spec.specs.declared.Refusal.{Refusal}

-- what the first field says, and the fields after it; past the last there is nothing
abbrev pub first_number : List (List ℕ) → Number
first_number [] = No
first_number (f ∷ fs) = number_of f

abbrev pub others : List (List ℕ) → List (List ℕ)
others [] = []
others (f ∷ fs) = fs

-- whether a refusal ends here
abbrev pub is_closed : List (List ℕ) → Bool
is_closed [] = true
is_closed (f ∷ fs) = equal f (bytes "=>")

abbrev pub is_below_zero : Number → Bool
is_below_zero (Is negative n) = negative
is_below_zero No = false

-- a number with no sign
abbrev pub is_plain : Number → Bool
is_plain n = is_number n && not (is_below_zero n)

unfoldable pub no_refusal : Refusal
no_refusal = record { number = 0; sheet = false; line = 0; detail = 0; negative = false; value = 0 }

-- the value alone may have a sign
unfoldable pub refusal_of : Bool → Number → Number → Number → Number → Refusal
refusal_of sheet number line detail value =
    cond (is_plain number && is_plain line && is_plain detail && is_number value)
    (record {
      number = magnitude_of number;
      sheet = sheet;
      line = magnitude_of line;
      detail = magnitude_of detail;
      negative = is_below_zero value;
      value = magnitude_of value;
    })
    no_refusal

-- three numbers, or four; `rest` is what follows the third
abbrev pub three_or_four : Number → Number → Number → List (List ℕ) → Refusal
three_or_four a b c rest =
    cond (is_closed rest) (refusal_of false a (Is false 0) b c) (cond (is_closed (others rest)) (refusal_of true a b c (first_number rest)) no_refusal)

-- the refusal that the fields behind `refused` write
abbrev pub refusal_from : List (List ℕ) → Refusal
refusal_from fs = three_or_four (first_number fs) (first_number (others fs)) (first_number (others (others fs))) (others (others (others fs)))

abbrev pub refusal_in_fields : List (List ℕ) → Refusal
refusal_in_fields [] = no_refusal
refusal_in_fields (f ∷ fs) = cond (equal f (bytes "refused")) (refusal_from fs) no_refusal

unfoldable pub refusal_in : List ℕ → Refusal
refusal_in line = refusal_in_fields (fields line)
