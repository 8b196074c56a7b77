-- Numbers as signs and magnitudes side by side, and literals made of these. Assumes nothing.
use Rattle.std.specs.Prelude.{ℕ, zero, suc, ◌+◌, ◌-◌, ◌≤◌, ◌<◌, ◌≡◌, refl, Bool, cond, List, [], ◌∷◌, map, length, take, drop, leb, ℤ, pos}
use Rattle.std.proofs.Common.{sym, ap, ◌∙◌, arith}
use Rattle.base_spec.specs.Signed.{minus}
use Rattle.base_spec.specs.declared.Literal.{Literal}
use Rattle.numeric_spec.specs.declared.Built.{Built}
use Rattle.numeric_spec.specs.declared.Built.TheVariants.{NotInForm}
use Rattle.numeric_spec.specs.Build.{built_of}
use Rattle.numeric_form.specs.Numbers.{number_of, numbers_in}

-- number k is magnitude k, negated where negative k
abbrev pub signed_from : List Bool → List ℕ → List ℤ
signed_from [] ms = []
signed_from (s ∷ ss) [] = []
signed_from (s ∷ ss) (m ∷ ms) = cond s (minus m) (pos m) ∷ signed_from ss ms

-- the signs and magnitudes of literals
abbrev pub negatives : List Literal → List Bool
negatives ls = map (λ (l : Literal). l.negative) ls

abbrev pub magnitudes : List Literal → List ℕ
magnitudes ls = map (λ (l : Literal). l.magnitude) ls

pub numbers_signed : (ls : List Literal) → numbers_in ls ≡ signed_from (negatives ls) (magnitudes ls)
numbers_signed [] = refl
numbers_signed (l ∷ ls) = ap (λ (t : List ℤ). number_of l ∷ t) (numbers_signed ls)

pub numbers_take : (n : ℕ) (ls : List Literal) → numbers_in (take n ls) ≡ take n (numbers_in ls)
numbers_take zero ls = refl
numbers_take (suc n) [] = refl
numbers_take (suc n) (l ∷ ls) = ap (λ (t : List ℤ). number_of l ∷ t) (numbers_take n ls)

pub numbers_drop : (n : ℕ) (ls : List Literal) → numbers_in (drop n ls) ≡ drop n (numbers_in ls)
numbers_drop zero ls = refl
numbers_drop (suc n) [] = refl
numbers_drop (suc n) (l ∷ ls) = numbers_drop n ls

pub held_signed : (n : ℕ) (ls : List Literal) → numbers_in (take n ls) ≡ take n (signed_from (negatives ls) (magnitudes ls))
held_signed n ls = numbers_take n ls ∙ ap (take n) (numbers_signed ls)
