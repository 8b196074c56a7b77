-- Bytes, the numbers that they write, and their sum. Assumes nothing.
use Rattle.std.specs.Prelude.{◌≡◌, refl, List, [], ◌∷◌, ◌++◌, ℕ, zero, suc, ◌+◌, ◌*◌, ◌/◌, ◌%◌, ◌^◌, ◌≤◌, ◌<◌, length, take, drop, get_or}
use Rattle.std.proofs.Common.{sym, ap, ◌∙◌, arith, pow-suc, div-one}
use Rattle.std.proofs.Math.Nat.{one-le-pow, div-eq_of_lt, div-div-eq-div-mul, lt-div-mul-add}
use Rattle.sheet_spec.specs.Sheet.{total}
use Rattle.srecord_spec.specs.Record.{bytes_to, number_from}
use Rattle.srecord_spec.specs.Promises.{AllBelow}

-- ---- lists of numbers below m
pub below_append : (m : ℕ) (xs ys : List ℕ) → AllBelow m xs → AllBelow m ys → AllBelow m (xs ++ ys)
below_append m [] ys h g = g
below_append m (x ∷ xs) ys h g = (h.0, below_append m xs ys h.1 g)

pub below_take : (m n : ℕ) (xs : List ℕ) → AllBelow m xs → AllBelow m (take n xs)
below_take m zero xs h = tt
below_take m (suc n) [] h = tt
below_take m (suc n) (x ∷ xs) h = (h.0, below_take m n xs h.1)

pub below_drop : (m n : ℕ) (xs : List ℕ) → AllBelow m xs → AllBelow m (drop n xs)
below_drop m zero xs h = h
below_drop m (suc n) [] h = tt
below_drop m (suc n) (x ∷ xs) h = below_drop m n xs h.1

pub below_at : (m : ℕ) (xs : List ℕ) (k : ℕ) → 0 < m → AllBelow m xs → get_or xs k 0 < m
below_at m [] k g h = g
below_at m (x ∷ xs) zero g h = h.0
below_at m (x ∷ xs) (suc k) g h = below_at m xs k g h.1

-- ---- sums
pub total_append : (xs ys : List ℕ) → total (xs ++ ys) ≡ total xs + total ys
total_append [] ys = omega arith
total_append (x ∷ xs) ys = omega (arith, total_append xs ys)

-- ---- two at a time
abbrev pub twice : ℕ → ℕ
twice zero = zero
twice (suc n) = suc (suc (twice n))

pub twice-is : (n : ℕ) → 2 * n ≡ twice n
twice-is zero = refl
twice-is (suc n) = omega (arith, twice-is n)

-- ---- numbers
pub bytes_length : (w n : ℕ) → length (bytes_to w n) ≡ w
bytes_length zero n = refl
bytes_length (suc w) n = ap suc (bytes_length w n)

pub bytes_below : (w n : ℕ) → AllBelow 256 (bytes_to w n)
bytes_below zero n = tt
bytes_below (suc w) n = (omega arith, bytes_below w n)

shorter : (w n : ℕ) → n / 256 ^ suc w ≡ n / 256 ^ w / 256
shorter w n = ap (λ (m : ℕ). n / m) (pow-suc 256 w) ∙ sym (div-div-eq-div-mul n (256 ^ w) 256)

divided : (q : ℕ) → q / 256 * 256 + q % 256 ≡ q
divided q = omega arith

number_on : (w n : ℕ) → number_from (n / 256 ^ w) (bytes_to w n) ≡ n
number_on zero n = div-one n
number_on (suc w) n =
    ap (λ (a : ℕ). number_from (a * 256 + n / 256 ^ w % 256) (bytes_to w n)) (shorter w n)
    ∙ ap (λ (a : ℕ). number_from a (bytes_to w n)) (divided (n / 256 ^ w)) ∙ number_on w n

pub number_back : (w n : ℕ) → n < 256 ^ w → number_from 0 (bytes_to w n) ≡ n
number_back w n h = ap (λ (a : ℕ). number_from a (bytes_to w n)) (sym (div-eq_of_lt h)) ∙ number_on w n

quotient : (a b : ℕ) → b < 256 → (a * 256 + b) / 256 ≡ a
quotient a b h = omega arith

remainder : (a b : ℕ) → b < 256 → (a * 256 + b) % 256 ≡ b
remainder a b h = omega arith

number-over : (a : ℕ) (bs : List ℕ) → AllBelow 256 bs → number_from a bs / 256 ^ length bs ≡ a
number-over a [] h = div-one a
number-over a (b ∷ bs) h =
    shorter (length bs) (number_from (a * 256 + b) bs) ∙ ap (λ (q : ℕ). q / 256) (number-over (a * 256 + b) bs h.1) ∙ quotient a b h.0

bytes_from_lem : (a : ℕ) (bs : List ℕ) → AllBelow 256 bs → bytes_to (length bs) (number_from a bs) ≡ bs
bytes_from_lem a [] h = refl
bytes_from_lem a (b ∷ bs) h =
    let q : number_from (a * 256 + b) bs / 256 ^ length bs % 256 ≡ b = ap (λ (n : ℕ). n % 256) (number-over (a * 256 + b) bs h.1) ∙ remainder a b h.0 in
    λ i. q i ∷ bytes_from_lem (a * 256 + b) bs h.1 i

-- of w bytes
pub number_again : (w : ℕ) (bs : List ℕ) → length bs ≡ w → AllBelow 256 bs → (bytes_to w (number_from 0 bs) ≡ bs) × (number_from 0 bs < 256 ^ w)
number_again w bs e h =
    let n : number_from 0 bs / 256 ^ length bs ≡ 0 = number-over 0 bs h in
    let m : 1 ≤ 256 ^ length bs = one-le-pow (length bs) 256 (omega arith) in
    let f : number_from 0 bs < number_from 0 bs / 256 ^ length bs * 256 ^ length bs + 256 ^ length bs = lt-div-mul-add m in
    let g : number_from 0 bs < 0 * 256 ^ length bs + 256 ^ length bs = rw n at f in
    rw (← e) (bytes_from_lem 0 bs h, omega arith)
