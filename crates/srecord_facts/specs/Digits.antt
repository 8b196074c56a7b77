-- Capital hexadecimal digits and the bytes that they write, each from the other. Assumes nothing.
use Rattle.std.specs.Prelude.{◌≡◌, refl, Bool, true, false, cond, ◌&&◌, List, [], ◌∷◌, ℕ, ◌+◌, ◌*◌, ◌/◌, ◌%◌, ◌≤◌, ◌<◌, length, eqb, leb}
use Rattle.std.proofs.Common.{sym, ap, ◌∙◌, arith}
use Rattle.base_spec.specs.Written.{hex_digit}
use Rattle.base_facts.specs.Tests.{Lt, less, past, lt?, and-true, true_and, ltb_is, leb-true, leb_not, leb_is, eqb_eq, below, never}
use Rattle.srecord_spec.specs.Record.{digits_of, digit_value, is_hex_digit, are_pairs, pair_bytes}
use Rattle.srecord_spec.specs.Promises.{AllBelow}

-- ---- digits
implied : (a b : Bool) → cond a b true ≡ true → a ≡ true → b ≡ true
implied true b e h = e
implied false b e h = never h

digit_back : (d : ℕ) → d < 16 → digit_value (hex_digit d) ≡ d
digit_back d h = eqb_eq (digit_value (hex_digit d)) d (below (λ k. eqb (digit_value (hex_digit k)) k) 16 refl d h)

is_digit_lem : (d : ℕ) → d < 16 → is_hex_digit (hex_digit d) ≡ true
is_digit_lem d h = below (λ k. is_hex_digit (hex_digit k)) 16 refl d h

-- no digit is a line feed
pub digit_above : (d : ℕ) → d < 16 → 48 ≤ hex_digit d
digit_above d h = leb_is 48 (hex_digit d) (below (λ k. leb 48 (hex_digit k)) 16 refl d h)

digit_again : (b : ℕ) → is_hex_digit b ≡ true → hex_digit (digit_value b) ≡ b
digit_again b e = go (lt? b 71)
  where
    go : Lt b 71 → hex_digit (digit_value b) ≡ b
    go (less l t) =
        let f = below (λ k. cond (is_hex_digit k) (eqb (hex_digit (digit_value k)) k) true) 71 refl b l in
        eqb_eq (hex_digit (digit_value b)) b (implied (is_hex_digit b) (eqb (hex_digit (digit_value b)) b) f e)
    go (past l t) =
        let f : is_hex_digit b ≡ false = rw (leb-true 48 b (omega arith), leb_not b 57 (omega arith), leb-true 65 b (omega arith), leb_not b 70 (omega arith)) in
        never (sym f ∙ e)

-- ---- two digits a byte
byte_back : (b : ℕ) → b < 256 → digit_value (hex_digit (b / 16 % 16)) * 16 + digit_value (hex_digit (b % 16)) ≡ b
byte_back b h =
    let p : digit_value (hex_digit (b / 16 % 16)) ≡ b / 16 % 16 = digit_back (b / 16 % 16) (omega arith) in
    let q : digit_value (hex_digit (b % 16)) ≡ b % 16 = digit_back (b % 16) (omega arith) in
    let r : b / 16 % 16 * 16 + b % 16 ≡ b = omega arith in
    (λ i. p i * 16 + q i) ∙ r

pub pair_length : (ds : List ℕ) → are_pairs ds ≡ true → length ds ≡ 2 * length (pair_bytes ds)
pair_length [] h = refl
pair_length (a ∷ []) h = never h
pair_length (a ∷ (b ∷ ds)) h = omega (arith, pair_length ds (and-true (is_hex_digit a && is_hex_digit b) (are_pairs ds) h).1)

pub digits_pairs : (bs : List ℕ) → are_pairs (digits_of bs) ≡ true
digits_pairs [] = refl
digits_pairs (b ∷ bs) =
    let h = is_digit_lem (b / 16 % 16) (omega arith) in
    let l = is_digit_lem (b % 16) (omega arith) in
    let x = is_hex_digit (hex_digit (b / 16 % 16)) in
    let y = is_hex_digit (hex_digit (b % 16)) in
    true_and (x && y) (are_pairs (digits_of bs)) (true_and x y h l) (digits_pairs bs)

pub digits_back : (bs : List ℕ) → AllBelow 256 bs → pair_bytes (digits_of bs) ≡ bs
digits_back [] h = refl
digits_back (b ∷ bs) h = λ i. byte_back b h.0 i ∷ digits_back bs h.1 i

high : (x y : ℕ) → x < 16 → y < 16 → (x * 16 + y) / 16 % 16 ≡ x
high x y h g = omega arith

low : (x y : ℕ) → y < 16 → (x * 16 + y) % 16 ≡ y
low x y g = omega arith

byte-below : (x y : ℕ) → x < 16 → y < 16 → x * 16 + y < 256
byte-below x y h g = omega arith

pub pairs_again : (ds : List ℕ) → are_pairs ds ≡ true → (digits_of (pair_bytes ds) ≡ ds) × AllBelow 256 (pair_bytes ds)
pairs_again [] e = (refl, tt)
pairs_again (a ∷ []) e = never e
pairs_again (a ∷ (b ∷ ds)) e =
    let t = and-true (is_hex_digit a && is_hex_digit b) (are_pairs ds) e in
    let u = and-true (is_hex_digit a) (is_hex_digit b) t.0 in
    let x : digit_value a < 16 = ltb_is (digit_value a) 16 u.0 in
    let y : digit_value b < 16 = ltb_is (digit_value b) 16 u.1 in
    let p : hex_digit ((digit_value a * 16 + digit_value b) / 16 % 16) ≡ a = ap hex_digit (high (digit_value a) (digit_value b) x y) ∙ digit_again a u.0 in
    let q : hex_digit ((digit_value a * 16 + digit_value b) % 16) ≡ b = ap hex_digit (low (digit_value a) (digit_value b) y) ∙ digit_again b u.1 in
    let r = pairs_again ds t.1 in
    ((λ i. p i ∷ q i ∷ r.0 i), (byte-below (digit_value a) (digit_value b) x y, r.1))
