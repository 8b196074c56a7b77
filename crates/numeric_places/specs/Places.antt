-- The numbers that 24 places hold, and numbers put into them.
use Rattle.std.specs.Prelude.{ℕ, Bool, true, false, cond, List, [], ◌∷◌, map, leb, ℤ, pos, negsuc, nat_abs, length, take, drop}
use Rattle.base_facts.specs.Lists.{pad}
use Rattle.base_spec.specs.Signed.{minus}
use Rattle.numeric_places.specs.declared.Numbers.{Numbers}
use Rattle.numeric_spec.specs.declared.Built.{Built}
use Rattle.numeric_spec.specs.declared.Built.TheVariants.{NotInForm}
use Rattle.numeric_spec.specs.Entry.{Entry, entry_number}
use Rattle.numeric_spec.specs.Build.{built_of}

-- number k is magnitude k, negated where negative k
abbrev pub signed_from : List Bool → List ℕ → List ℤ
signed_from [] ms = []
signed_from (s ∷ ss) [] = []
signed_from (s ∷ ss) (m ∷ ms) = cond s (minus m) (pos m) ∷ signed_from ss ms

unfoldable pub numbers_held : Numbers → List ℤ
numbers_held ns = take ns.count (signed_from ns.negative ns.magnitude)

-- what `build` makes of the numbers from a place on
abbrev pub built_from : Numbers → ℕ → Built
built_from ns k = cond (leb ns.count 24) (built_of (drop k (numbers_held ns))) NotInForm

abbrev pub is_negative : ℤ → Bool
is_negative (pos n) = false
is_negative (negsuc n) = true

-- the entries' numbers, from place 0 on
unfoldable pub numbers_from : List Entry → Numbers
numbers_from es =
    record {
      count = length es;
      negative = pad 24 false (map (λ e. is_negative (entry_number e)) es);
      magnitude = pad 24 0 (map (λ e. nat_abs (entry_number e)) es);
    }
