-- Facts about tests, and about lists of bytes that are compared.
use Rattle.std.specs.Prelude.{ℕ, ◌≡◌, refl, true, List, [], ◌∷◌, eqb}
use Rattle.std.proofs.lemmas.Bool.{false≢true}
use Rattle.std.proofs.Common.{eq-eqb, eqb-true}
use Rattle.sheet_spec.specs.Line.{equal}
use Rattle.base_facts.specs.Tests.{and-true}

pub equal_is : (f g : List ℕ) → equal f g ≡ true → f ≡ g
equal_is [] [] e = refl
equal_is [] (y ∷ ys) e = absurd (false≢true e)
equal_is (x ∷ xs) [] e = absurd (false≢true e)
equal_is (x ∷ xs) (y ∷ ys) e =
    let t = and-true (eqb x y) (equal xs ys) e in
    let h : x ≡ y = eqb-true x y t.0 in
    let r : xs ≡ ys = equal_is xs ys t.1 in
    λ i. h i ∷ r i

pub equal_refl : (f : List ℕ) → equal f f ≡ true
equal_refl [] = refl
equal_refl (b ∷ bs) = rw (eq-eqb b b refl) (equal_refl bs)
