-- Laws of pairs of digits, the bytes and the numbers that they write. Assumes nothing.
use Rattle.std.specs.Prelude.{◌≡◌, refl, true, false, cond, ◌&&◌, ◌||◌, List, [], ◌∷◌, ℕ, zero, suc, ◌+◌, ◌*◌, ◌-◌, ◌%◌, ◌^◌, ◌≤◌, ◌<◌, eqb, leb, ltb, length, take, drop, get_or}
use Rattle.std.proofs.Common.{ap, ◌∙◌, arith, add-one, drop_of_length-le, length-drop, drop-cons, leb-true, eqb-true}
use Rattle.base_facts.specs.Tests.{and-true, never, all_in, below}
use Rattle.sheet_spec.specs.Sheet.{total}
use Rattle.srecord_spec.specs.Record.{digit_value, is_hex_digit, are_pairs, pair_bytes, number_from, address_width}
use Rattle.srecord_facts.specs.Bytes.{twice}
use Rattle.srecord_read.specs.Line.{sum_of}

-- ---- two digits at a time
pub pair_take : (n : ℕ) (ds : List ℕ) → pair_bytes (take (twice n) ds) ≡ take n (pair_bytes ds)
pair_take zero ds = refl
pair_take (suc n) [] = refl
pair_take (suc n) (a ∷ []) = refl
pair_take (suc n) (a ∷ (b ∷ ds)) = ap (λ (t : List ℕ). (digit_value a * 16 + digit_value b) ∷ t) (pair_take n ds)

pub pair_drop : (n : ℕ) (ds : List ℕ) → pair_bytes (drop (twice n) ds) ≡ drop n (pair_bytes ds)
pair_drop zero ds = refl
pair_drop (suc n) [] = refl
pair_drop (suc n) (a ∷ []) = refl
pair_drop (suc n) (a ∷ (b ∷ ds)) = pair_drop n ds

pub pairs_take : (n : ℕ) (ds : List ℕ) → are_pairs ds ≡ true → are_pairs (take (twice n) ds) ≡ true
pairs_take zero ds h = refl
pairs_take (suc n) [] h = refl
pairs_take (suc n) (a ∷ []) h = never h
pairs_take (suc n) (a ∷ (b ∷ ds)) h =
    let e = and-true (is_hex_digit a && is_hex_digit b) (are_pairs ds) h in
    rw e.0 (pairs_take n ds e.1)

pub pairs_drop : (n : ℕ) (ds : List ℕ) → are_pairs ds ≡ true → are_pairs (drop (twice n) ds) ≡ true
pairs_drop zero ds h = h
pairs_drop (suc n) [] h = refl
pairs_drop (suc n) (a ∷ []) h = never h
pairs_drop (suc n) (a ∷ (b ∷ ds)) h = pairs_drop n ds (and-true (is_hex_digit a && is_hex_digit b) (are_pairs ds) h).1

-- ---- numbers
-- only the low 32 bits count
pub number-low : (a b : ℕ) (bs : List ℕ) → a % 2 ^ 32 ≡ b % 2 ^ 32 → number_from a bs % 2 ^ 32 ≡ number_from b bs % 2 ^ 32
number-low a b [] h = h
number-low a b (c ∷ bs) h = number-low (a * 256 + c) (b * 256 + c) bs (omega arith)

-- ---- the digits from place i on
module _ (ds : List ℕ) (i : ℕ) where
  two_on : 2 ≤ length ds - i → drop i ds ≡ get_or ds i 0 ∷ (get_or ds (i + 1) 0 ∷ drop (i + 2) ds)
  two_on h =
      let q : suc (suc i) ≡ i + 2 = omega arith in
      drop-cons ds i 0 (omega arith) ∙ ap (λ (t : List ℕ). get_or ds i 0 ∷ t) (rw (add-one, drop-cons ds (suc i) 0 (omega arith), q))

  module _ (a : ℕ) where
    pub sum_on : 2 ≤ length ds - i → is_hex_digit (get_or ds i 0) && is_hex_digit (get_or ds (i + 1) 0) ≡ true
        → sum_of a (drop i ds) ≡ sum_of ((a + (digit_value (get_or ds i 0) * 16 + digit_value (get_or ds (i + 1) 0))) % 256) (drop (i + 2) ds)
    sum_on h e =
        let b = digit_value (get_or ds i 0) * 16 + digit_value (get_or ds (i + 1) 0) in
        let q : (a + (b + total (pair_bytes (drop (i + 2) ds)))) % 256 ≡ ((a + b) % 256 + total (pair_bytes (drop (i + 2) ds))) % 256 = omega arith in
        ap (sum_of a) (two_on h) ∙ rw (e, q)

    pub sum_none : 2 ≤ length ds - i → is_hex_digit (get_or ds i 0) && is_hex_digit (get_or ds (i + 1) 0) ≡ false → sum_of a (drop i ds) ≡ 256
    sum_none h e = ap (sum_of a) (two_on h) ∙ rw e

    pub sum_odd : length ds - i < 2 → i < length ds → sum_of a (drop i ds) ≡ 256
    sum_odd h g = ap (sum_of a) (drop-cons ds i 0 g ∙ ap (λ (t : List ℕ). get_or ds i 0 ∷ t) (drop_of_length-le ds {i = suc i} (omega arith)))

    pub sum_end : length ds ≤ i → a < 256 → sum_of a (drop i ds) ≡ a
    sum_end h g = let q : (a + 0) % 256 ≡ a = omega arith in rw (drop_of_length-le ds {i = i} h, q)

    pub number_on : 2 ≤ length ds - i
        → number_from a (pair_bytes (drop i ds)) % 2 ^ 32
        ≡ number_from ((a * 256 + (digit_value (get_or ds i 0) * 16 + digit_value (get_or ds (i + 1) 0))) % 2 ^ 32) (pair_bytes (drop (i + 2) ds)) % 2 ^ 32
    number_on h =
        let b = digit_value (get_or ds i 0) * 16 + digit_value (get_or ds (i + 1) 0) in
        ap (λ (t : List ℕ). number_from a (pair_bytes t) % 2 ^ 32) (two_on h)
        ∙ number-low (a * 256 + b) ((a * 256 + b) % 2 ^ 32) (pair_bytes (drop (i + 2) ds)) (omega arith)

    pub number_end : length ds - i < 2 → a < 2 ^ 32 → number_from a (pair_bytes (drop i ds)) % 2 ^ 32 ≡ a
    number_end h g = go (drop i ds) (simp length-drop (omega arith))
      where
        go : (l : List ℕ) → length l < 2 → number_from a (pair_bytes l) % 2 ^ 32 ≡ a
        go [] m = omega arith
        go (x ∷ []) m = omega arith
        go (x ∷ (y ∷ l)) m = absurd (omega arith)

-- ---- the width of an address
pub at_most : (m : ℕ) (xs : List ℕ) (k : ℕ) → all_in (λ (x : ℕ). leb x m) xs ≡ true → get_or xs k 0 ≤ m
at_most m [] k h = omega arith
at_most m (x ∷ xs) zero h = leb-true x m (and-true (leb x m) (all_in (λ (y : ℕ). leb y m) xs) h).0
at_most m (x ∷ xs) (suc k) h = at_most m xs k (and-true (leb x m) (all_in (λ (y : ℕ). leb y m) xs) h).1

pub width-most : (k : ℕ) → address_width k ≤ 4
width-most k = at_most 4 (0 ∷ 2 ∷ 3 ∷ 4 ∷ 0 ∷ 0 ∷ 0 ∷ 4 ∷ 3 ∷ 2 ∷ []) k refl

abbrev pub width_by : ℕ → ℕ
width_by b = cond (eqb b 49 || eqb b 57) 2 (cond (eqb b 50 || eqb b 56) 3 (cond (eqb b 51 || eqb b 55) 4 0))

pub width_is : (b : ℕ) → b < 256 → width_by b ≡ address_width (b - 48)
width_is b h = eqb-true (width_by b) (address_width (b - 48)) (below (λ (k : ℕ). eqb (width_by k) (address_width (k - 48))) 256 refl b h)

-- ---- tests of digits
pub hex_both : (a b x y : ℕ) → x ≡ digit_value a → y ≡ digit_value b → ltb x 16 && ltb y 16 ≡ is_hex_digit a && is_hex_digit b
hex_both a b x y e f = rw (e, f)
