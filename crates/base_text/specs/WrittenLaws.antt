-- Laws of what is written. Assumes nothing.
use Rattle.std.specs.Prelude.{◌≡◌, refl, List, [], ◌∷◌, ◌++◌, Bool, true, false, ℕ, zero, suc, ◌+◌, ◌-◌, ◌/◌, ◌%◌, ◌^◌, ◌≤◌, ◌<◌, length, take, drop, set, ltb, ℤ, pos, negsuc}
use Rattle.std.proofs.Common.{sym, ap, ◌∙◌, append_assoc, arith, length-append, length-take, take_at, drop_at, drop-drop, SFits, ltb-true, ltb-false}
use Rattle.std.proofs.Math.Nat.{div-div-eq-div-mul}
use Rattle.std.proofs.lemmas.List.Edits.{sets-eq}
use Rattle.std.specs.Int.{w64}
use Rattle.base_spec.specs.Written.{placed, digits_to, decimal_of, signed_of}
use Rattle.base_spec.specs.Signed.{bits_of}

pub placed-byte : (buf : List ℕ) (at b : ℕ) → at < length buf → set buf at b ≡ placed buf at (b ∷ [])
placed-byte buf at b h = sets-eq (b ∷ []) buf at (omega arith)

-- one text after another
pub placed_more : (buf : List ℕ) (at : ℕ) (s t : List ℕ) → at + length s + length t ≤ length buf
    → placed (placed buf at s) (at + length s) t ≡ placed buf at (s ++ t)
placed_more buf at s t h =
    let n : length (take at buf ++ s) ≡ at + length s = rw (length-append, length-take) (omega arith) in
    let a : take (at + length s) (placed buf at s) ≡ take at buf ++ s = take_at (take at buf ++ s) (drop (at + length s) buf) (at + length s) n in
    let d : drop (at + length s) (placed buf at s) ≡ drop (at + length s) buf = drop_at (take at buf ++ s) (drop (at + length s) buf) (at + length s) n in
    let e : drop (at + length s + length t) (placed buf at s) ≡ drop (at + length s + length t) buf =
    sym (drop-drop (length t) (at + length s) (placed buf at s)) ∙ ap (drop (length t)) d ∙ drop-drop (length t) (at + length s) buf in
    let q : at + length (s ++ t) ≡ at + length s + length t = rw length-append (omega arith) in
    rw (a, e, q, append_assoc (take at buf) s t)

-- how many digits are allowed does not matter
fuel : (k j n : ℕ) → n ≤ k → n ≤ j → digits_to k n ≡ digits_to j n
fuel zero zero n h g = refl
fuel zero (suc j) zero h g = refl
fuel zero (suc j) (suc n) h g = absurd (omega arith)
fuel (suc k) zero zero h g = refl
fuel (suc k) zero (suc n) h g = absurd (omega arith)
fuel (suc k) (suc j) zero h g = refl
fuel (suc k) (suc j) (suc n) h g = rw (fuel k j (suc n / 10) (omega arith) (omega arith))

digits_all : (k n : ℕ) → n ≤ k → 1 ≤ n → digits_to k n ≡ decimal_of n
unfolding decimal_of
digits_all zero n h g = absurd (omega arith)
digits_all (suc k) zero h g = absurd (omega arith)
digits_all (suc k) (suc n) h g = rw (fuel k (suc n) (suc n / 10) (omega arith) (omega arith))

pub decimal_small : (n : ℕ) → n < 10 → decimal_of n ≡ (48 + n) ∷ []
unfolding decimal_of
decimal_small n h =
    let q : n / 10 ≡ 0 = omega arith in
    let r : n % 10 ≡ n = omega arith in
    rw (q, r, fuel n 0 0 (omega arith) (omega arith))

pub decimal_more : (n : ℕ) → 10 ≤ n → decimal_of n ≡ decimal_of (n / 10) ++ ((48 + n % 10) ∷ [])
unfolding decimal_of
decimal_more n h = ap (λ (l : List ℕ). l ++ ((48 + n % 10) ∷ [])) (digits_all n (n / 10) (omega arith) (omega arith))

-- two digits at a time
pub decimal_two : (n : ℕ) → 10 ≤ n → n < 100 → decimal_of n ≡ (48 + n / 10) ∷ (48 + n % 10) ∷ []
decimal_two n h g = rw (decimal_more n h, decimal_small (n / 10) (omega arith))

pub decimal_hundreds : (n : ℕ) → 100 ≤ n → decimal_of n ≡ decimal_of (n / 100) ++ ((48 + n % 100 / 10) ∷ (48 + n % 100 % 10) ∷ [])
decimal_hundreds n h =
    let q : n / 10 / 10 ≡ n / 100 = div-div-eq-div-mul n 10 10 in
    let t : n / 10 % 10 ≡ n % 100 / 10 = omega (arith, q) in
    let u : n % 10 ≡ n % 100 % 10 = omega (arith, q) in
    rw (decimal_more n (omega arith), decimal_more (n / 10) (omega arith), q, t, u, append_assoc (decimal_of (n / 100)) ((48 + n % 100 / 10) ∷ []) ((48 + n % 100 % 10) ∷ []))

pub decimal_length : (k n : ℕ) → n < 10 ^ suc k → length (decimal_of n) ≤ suc k
decimal_length zero n h = rw (decimal_small n (omega arith)) (omega arith)
decimal_length (suc k) n h = go (ltb n 10) refl (decimal_length k (n / 10) (omega arith))
  where
    go : (t : Bool) → ltb n 10 ≡ t → length (decimal_of (n / 10)) ≤ suc k → length (decimal_of n) ≤ suc (suc k)
    go true e f = rw (decimal_small n (ltb-true n 10 e)) (omega arith)
    go false e f = rw (decimal_more n (ltb-false n 10 e), length-append) (omega arith)

-- where a first text ended, a second
pub placed_then : (buf mid out : List ℕ) (at next : ℕ) (s t : List ℕ) → at + length (s ++ t) ≤ length buf
    → next ≡ at + length s → mid ≡ placed buf at s → out ≡ placed mid next t → out ≡ placed buf at (s ++ t)
placed_then buf mid out at next s t h e f g = g ∙ rw (f, e) (placed_more buf at s t (omega (arith, length-append s t)))

pub decimal_length_more : (n : ℕ) → 10 ≤ n → length (decimal_of n) ≡ length (decimal_of (n / 10)) + 1
decimal_length_more n h = rw (decimal_more n h, length-append)

-- the digits of n, a digit at a time
module _ (buf mid out : List ℕ) (at next r n : ℕ) where
  pub digits_one : n < 10 → r ≡ at + 1 → out ≡ placed buf at ((48 + n) ∷ []) → (r ≡ at + length (decimal_of n)) × (out ≡ placed buf at (decimal_of n))
  digits_one h e f = rw (decimal_small n h) (e, f)

  pub digits_more : 10 ≤ n → at + length (decimal_of n) ≤ length buf → next ≡ at + length (decimal_of (n / 10)) → mid ≡ placed buf at (decimal_of (n / 10))
      → r ≡ next + 1 → out ≡ placed mid next ((48 + n % 10) ∷ []) → (r ≡ at + length (decimal_of n)) × (out ≡ placed buf at (decimal_of n))
  digits_more h k d e f g = (
    omega (arith, decimal_length_more n h),
    rw (decimal_more n h) (placed_then buf mid out at next (decimal_of (n / 10)) ((48 + n % 10) ∷ []) (rw (decimal_more n h) at k) d e g),
  )

-- a number below 2^64 has at most 20 digits, one up to 2^63 at most 19
pub decimal_20 : (n : ℕ) → n < 2 ^ 64 → length (decimal_of n) ≤ 20
decimal_20 n h = decimal_length 19 n (omega arith)

pub decimal_19 : (n : ℕ) → n ≤ 2 ^ 63 → length (decimal_of n) ≤ 19
decimal_19 n h = decimal_length 18 n (omega arith)

-- a signed number, by its bits b
pub signed_pos : (z : ℤ) → SFits w64 z → (b : ℕ) → b ≡ bits_of z → b < 2 ^ 63 → signed_of z ≡ decimal_of b
signed_pos (pos n) h b e g = rw e
signed_pos (negsuc n) h b e g = absurd (omega (arith, h.sfits))

pub signed_neg : (z : ℤ) → SFits w64 z → (b : ℕ) → b ≡ bits_of z → 2 ^ 63 ≤ b → signed_of z ≡ 45 ∷ decimal_of (2 ^ 64 - 1 - b + 1)
signed_neg (pos n) h b e g = absurd (omega (arith, h.sfits))
signed_neg (negsuc n) h b e g =
    let q : suc n ≡ 2 ^ 64 - 1 - b + 1 = omega (arith, h.sfits) in
    ap (λ (k : ℕ). 45 ∷ decimal_of k) q
