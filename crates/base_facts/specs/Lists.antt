-- The entries of a list.
use Rattle.std.specs.Prelude.{ℕ, zero, suc, ◌≤◌, ◌<◌, ◌≡◌, refl, List, [], ◌∷◌, ◌++◌, map, length, get_or}
use Rattle.std.proofs.Common.{sym, ap, arith}
use Rattle.std.proofs.Math.ListN.{get_or-eq_default}

-- in the list the default does not matter
pub inside : {A : Type 0} (xs : List A) (k : ℕ) (d e : A) → k < length xs → get_or xs k d ≡ get_or xs k e
inside [] k d e h = absurd (omega arith)
inside (x ∷ xs) zero d e h = refl
inside (x ∷ xs) (suc k) d e h = inside xs k d e (omega arith)

-- past it the default stands
pub outside : {A : Type 0} (xs : List A) (k : ℕ) (d : A) → length xs ≤ k → d ≡ get_or xs k d
outside xs k d h = sym (get_or-eq_default xs d h)

module _ {A : Type 0} {B : Type 0} where
  pub map_more : (f : A → B) (l : List A) (a : A) → map f (l ++ (a ∷ [])) ≡ map f l ++ (f a ∷ [])
  map_more f [] a = refl
  map_more f (x ∷ xs) a = ap (λ (t : List B). f x ∷ t) (map_more f xs a)

-- a list in n places, the others d
abbrev pub pad : {A : Type 0} → ℕ → A → List A → List A
pad zero d xs = []
pad (suc n) d [] = d ∷ pad n d []
pad (suc n) d (x ∷ xs) = x ∷ pad n d xs

pub get_d_pad : {A : Type 0} (n : ℕ) (d : A) (xs : List A) (k : ℕ) → k < n → get_or (pad n d xs) k d ≡ get_or xs k d
get_d_pad zero d xs k h = absurd (omega arith)
get_d_pad (suc n) d [] zero h = refl
get_d_pad (suc n) d [] (suc k) h = get_d_pad n d [] k (omega arith)
get_d_pad (suc n) d (x ∷ xs) zero h = refl
get_d_pad (suc n) d (x ∷ xs) (suc k) h = get_d_pad n d xs k (omega arith)
