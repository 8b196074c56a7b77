-- Laws of decimal numbers, a digit at a time. Assumes nothing.
use Rattle.std.specs.Prelude.{◌≡◌, refl, List, [], ◌∷◌, Bool, true, false, cond, ◌&&◌, ℕ, suc, ◌+◌, ◌*◌, ◌-◌, ◌^◌, ◌≤◌, ◌<◌, length, take, drop, get_or, ltb}
use Rattle.std.proofs.Common.{arith, add-one, drop_of_length-le, drop-cons, take_all, le-leb, lt-ltb, le-ltb, eq-eqb, ne_eqb}
use Rattle.std.proofs.lemmas.Bool.{lt-leb}
use Rattle.base_text.specs.Number.{digits_from}
use Rattle.base_spec.specs.Number.{Number, Is, No, is_digit, all_digits, value_from, unsigned_of, negated, number_of}
use Rattle.base_facts.specs.Tests.{and_yes}

pub value_grows : (a : ℕ) (l : List ℕ) → a ≤ value_from a l
value_grows a [] = omega arith
value_grows a (b ∷ bs) = omega (arith, value_grows (a * 10 + (b - 48)) bs)

and_no : (t : Bool) (u : Bool) (x y : Number) → u ≡ false → cond (t && u) x y ≡ y
and_no true u x y e = rw e
and_no false u x y e = refl

pub digits_large : (a : ℕ) (l : List ℕ) → 2 ^ 64 ≤ a → digits_from a l ≡ No
digits_large a l h = and_no (all_digits l) (ltb (value_from a l) (2 ^ 64)) _ _ (le-ltb (value_from a l) (2 ^ 64) (omega (arith, value_grows a l)))

module _ (f : List ℕ) (i a : ℕ) (h : i < length f) where
  step : digits_from a (drop i f)
      ≡ cond (is_digit (get_or f i 0) && all_digits (drop (i + 1) f) && ltb (value_from (a * 10 + (get_or f i 0 - 48)) (drop (i + 1) f)) (2 ^ 64))
      (Is false (value_from (a * 10 + (get_or f i 0 - 48)) (drop (i + 1) f))) No
  step = rw (add-one, drop-cons f i 0 h)

  pub digit_more : 48 ≤ get_or f i 0 → get_or f i 0 ≤ 57 → digits_from a (drop i f) ≡ digits_from (a * 10 + (get_or f i 0 - 48)) (drop (i + 1) f)
  digit_more lo hi = rw (step, le-leb 48 (get_or f i 0) lo, le-leb (get_or f i 0) 57 hi)

  pub digit_low : get_or f i 0 < 48 → digits_from a (drop i f) ≡ No
  digit_low lo = rw (step, lt-leb 48 (get_or f i 0) lo)

  pub digit_high : 57 < get_or f i 0 → digits_from a (drop i f) ≡ No
  digit_high hi = rw (step, le-leb 48 (get_or f i 0) (omega arith), lt-leb (get_or f i 0) 57 hi)

pub digits_end : (f : List ℕ) (i a : ℕ) → length f ≤ i → a < 2 ^ 64 → digits_from a (drop i f) ≡ Is false a
digits_end f i a h g = rw (drop_of_length-le f h, lt-ltb a (2 ^ 64) g)

-- the first byte decides
pub unsigned_nil : (f : List ℕ) → length f ≡ 0 → unsigned_of f ≡ No
unsigned_nil [] h = refl
unsigned_nil (b ∷ bs) h = absurd (omega arith)

pub unsigned_zero : (f : List ℕ) → get_or f 0 0 ≡ 48 → length f ≡ 1 → unsigned_of f ≡ Is false 0
unsigned_zero [] e h = absurd (omega arith)
unsigned_zero (b ∷ []) e h = rw e
unsigned_zero (b ∷ (x ∷ bs)) e h = absurd (omega arith)

pub unsigned_zeros : (f : List ℕ) → get_or f 0 0 ≡ 48 → (length f ≡ 1 → ⊥) → unsigned_of f ≡ No
unsigned_zeros [] e h = refl
unsigned_zeros (b ∷ []) e h = absurd (h refl)
unsigned_zeros (b ∷ (x ∷ bs)) e h = rw (eq-eqb b 48 e)

pub unsigned_digits : (f : List ℕ) → (length f ≡ 0 → ⊥) → (get_or f 0 0 ≡ 48 → ⊥) → unsigned_of f ≡ digits_from 0 f
unsigned_digits [] h e = absurd (h refl)
unsigned_digits (b ∷ []) h e = rw (and_yes (is_digit b))
unsigned_digits (b ∷ (x ∷ bs)) h e = rw (ne_eqb b 48 e)

pub number_nil : (f : List ℕ) → length f ≡ 0 → number_of f ≡ No
number_nil [] h = refl
number_nil (b ∷ bs) h = absurd (omega arith)

pub number-minus : (f : List ℕ) → get_or f 0 0 ≡ 45 → number_of f ≡ negated (unsigned_of (take (length f - 1) (drop 1 f)))
number-minus [] e = absurd (omega arith)
number-minus (b ∷ bs) e = rw (eq-eqb b 45 e, take_all (suc (length bs) - 1) bs (omega arith))

pub number-plain : (f : List ℕ) → (get_or f 0 0 ≡ 45 → ⊥) → number_of f ≡ unsigned_of f
number-plain [] e = refl
number-plain (b ∷ bs) e = rw (ne_eqb b 45 e)
