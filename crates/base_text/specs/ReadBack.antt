-- What is written is read back. Assumes nothing.
use Rattle.std.specs.Prelude.{◌≡◌, refl, Bool, true, false, ◌&&◌, List, [], ◌∷◌, ◌++◌, ℕ, zero, suc, ◌+◌, ◌*◌, ◌-◌, ◌/◌, ◌%◌, ◌^◌, ◌≤◌, ◌<◌, length, get_or, ltb, negsuc}
use Rattle.std.proofs.Common.{◌∙◌, arith, length-append, le-leb, lt-ltb, ltb-true, ltb-false, ne_eqb}
use Rattle.std.proofs.Math.ListN.{get_or-append}
use Rattle.base_spec.specs.Number.{Is, is_digit, all_digits, value_from, value, unsigned_of, number_of}
use Rattle.base_text.specs.NumberLaws.{unsigned_digits, number-plain}
use Rattle.base_spec.specs.Written.{decimal_of, signed_of}
use Rattle.base_text.specs.WrittenLaws.{decimal_small, decimal_more}

is_digit_lem : (d : ℕ) → d < 10 → is_digit (48 + d) ≡ true
is_digit_lem d h = rw (le-leb 48 (48 + d) (omega arith), le-leb (48 + d) 57 (omega arith))

all_digits_more : (l : List ℕ) (x : ℕ) → all_digits l ≡ true → is_digit x ≡ true → all_digits (l ++ (x ∷ [])) ≡ true
all_digits_more [] x h g = rw g
all_digits_more (b ∷ bs) x h g = go (is_digit b) h (λ e. all_digits_more bs x e g)
  where
    go : (t : Bool) → t && all_digits bs ≡ true → (all_digits bs ≡ true → all_digits (bs ++ (x ∷ [])) ≡ true) → t && all_digits (bs ++ (x ∷ [])) ≡ true
    go true e f = f e
    go false e f = e

value_more : (a : ℕ) (l : List ℕ) (x : ℕ) → value_from a (l ++ (x ∷ [])) ≡ value_from a l * 10 + (x - 48)
value_more a [] x = refl
value_more a (b ∷ bs) x = value_more (a * 10 + (b - 48)) bs x

-- l is the digits of n, the first of them not 0
pub record Digits (n : ℕ) (l : List ℕ) : Type 0 where
  pub digits : all_digits l ≡ true
  pub writes : value l ≡ n
  pub first : 48 < get_or l 0 0
  pub some : 0 < length l

digits_one : (n : ℕ) → 1 ≤ n → n < 10 → Digits n ((48 + n) ∷ [])
digits_one n g h = record { digits = rw (is_digit_lem n h); writes = omega arith; first = omega arith; some = omega arith }

digits_next : (n : ℕ) (l : List ℕ) → Digits (n / 10) l → Digits n (l ++ ((48 + n % 10) ∷ []))
digits_next n l d =
    record {
      digits = all_digits_more l (48 + n % 10) d.digits (is_digit_lem (n % 10) (omega arith));
      writes = value_more 0 l (48 + n % 10) ∙ rw d.writes (omega arith);
      first = rw (get_or-append l ((48 + n % 10) ∷ []) 0 0 d.some) d.first;
      some = rw length-append (omega arith);
    }

pub decimal_digits : (k n : ℕ) → n < k → 1 ≤ n → Digits n (decimal_of n)
decimal_digits zero n h g = absurd (omega arith)
decimal_digits (suc k) n h g = go (ltb n 10) refl (decimal_digits k (n / 10))
  where
    go : (t : Bool) → ltb n 10 ≡ t → (n / 10 < k → 1 ≤ n / 10 → Digits (n / 10) (decimal_of (n / 10))) → Digits n (decimal_of n)
    go true e f = rw (decimal_small n (ltb-true n 10 e)) (digits_one n g (ltb-true n 10 e))
    go false e f =
        let m : 10 ≤ n = ltb-false n 10 e in
        rw (decimal_more n m) (digits_next n (decimal_of (n / 10)) (f (omega arith) (omega arith)))

unsigned_back : (n : ℕ) (l : List ℕ) → Digits n l → n < 2 ^ 64 → unsigned_of l ≡ Is false n
unsigned_back n l d h =
    unsigned_digits l (λ e. omega (arith, d.some)) (λ e. omega (arith, d.first)) ∙ rw (d.digits, d.writes, lt-ltb n (2 ^ 64) h)

pub decimal_back : (n : ℕ) → n < 2 ^ 64 → number_of (decimal_of n) ≡ Is false n
decimal_back zero h = rw (decimal_small 0 (omega arith))
decimal_back (suc n) h =
    let d = decimal_digits (suc (suc n)) (suc n) (omega arith) (omega arith) in
    number-plain (decimal_of (suc n)) (λ e. omega (arith, d.first)) ∙ unsigned_back (suc n) (decimal_of (suc n)) d h

pub negative_back : (n : ℕ) → suc n < 2 ^ 64 → number_of (signed_of (negsuc n)) ≡ Is true (suc n)
negative_back n h =
    rw (unsigned_back (suc n) (decimal_of (suc n)) (decimal_digits (suc (suc n)) (suc n) (omega arith) (omega arith)) h, ne_eqb (suc n) 0 (λ e. omega arith))
