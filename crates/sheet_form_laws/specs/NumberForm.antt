-- A number and its spelling: each from the other. Assumes nothing.
use Rattle.std.specs.Prelude.{ℕ, zero, suc, ◌+◌, ◌*◌, ◌-◌, ◌/◌, ◌%◌, ◌≤◌, ◌≡◌, Bool, true, false, not, List, [], ◌∷◌, ◌++◌, leb, eqb}
use Rattle.std.proofs.Common.{sym, ap, ◌∙◌, append_assoc, append-nil, arith, leb-true, ne_eqb}
use Rattle.std.proofs.lemmas.Bool.{false≢true, eqb-false, not-true}
use Rattle.base_spec.specs.Number as number
use Rattle.base_spec.specs.Number.{is_digit, all_digits, value_from, value, is_decimal, number_of}
use Rattle.base_spec.specs.Written.{decimal_of}
use Rattle.base_text.specs.WrittenLaws.{decimal_small, decimal_more}
use Rattle.base_text.specs.ReadBack.{Digits, decimal_digits, decimal_back, negative_back}
use Rattle.sheet_spec.specs.Line.{literal}
use Rattle.sheet_spec.specs.Spell.{sign_text, Written}
use Rattle.sheet_facts.specs.Fields.{number_is}
use Rattle.base_facts.specs.Tests.{and-true}

pub digit : (b : ℕ) → is_digit b ≡ true → (48 ≤ b) × (b ≤ 57)
digit b e = let t = and-true (leb 48 b) (leb b 57) e in (leb-true 48 b t.0, leb-true b 57 t.1)

digits_decimal : (n : ℕ) (l : List ℕ) → Digits n l → is_decimal l ≡ true
digits_decimal n [] d = absurd (omega (arith, d.some))
digits_decimal n (b ∷ []) d = (and-true (is_digit b) true d.digits).0
digits_decimal n (b ∷ (x ∷ bs)) d = rw (ne_eqb b 48 (λ e. omega (arith, d.first))) d.digits

pub decimal_is : (n : ℕ) → is_decimal (decimal_of n) ≡ true
decimal_is zero = rw (decimal_small 0 (omega arith))
decimal_is (suc n) = digits_decimal (suc n) (decimal_of (suc n)) (decimal_digits (suc (suc n)) (suc n) (omega arith) (omega arith))

pub decimal_value : (n : ℕ) → value (decimal_of n) ≡ n
decimal_value zero = rw (decimal_small 0 (omega arith))
decimal_value (suc n) = (decimal_digits (suc (suc n)) (suc n) (omega arith) (omega arith)).writes

pub decimal_all : (l : List ℕ) → is_decimal l ≡ true → all_digits l ≡ true
decimal_all [] e = absurd (false≢true e)
decimal_all (b ∷ []) e = rw e
decimal_all (b ∷ (x ∷ bs)) e = (and-true (not (eqb b 48)) (all_digits (b ∷ (x ∷ bs))) e).1

-- digits after those of a number that is not 0
value_decimal : (a : ℕ) (l : List ℕ) → 1 ≤ a → all_digits l ≡ true → decimal_of (value_from a l) ≡ decimal_of a ++ l
value_decimal a [] h e = sym (append-nil (decimal_of a))
value_decimal a (b ∷ bs) h e =
    let t = and-true (is_digit b) (all_digits bs) e in
    let d = digit b t.0 in
    let n : ℕ = a * 10 + (b - 48) in
    let q : n / 10 ≡ a = omega (arith, d) in
    let r : 48 + n % 10 ≡ b = omega (arith, d) in
    let m : decimal_of n ≡ decimal_of a ++ (b ∷ []) = decimal_more n (omega arith) ∙ rw (q, r) in
    value_decimal n bs (omega arith) t.1 ∙ ap (λ (x : List ℕ). x ++ bs) m ∙ append_assoc (decimal_of a) (b ∷ []) bs

decimal_digit : (b : ℕ) → is_digit b ≡ true → decimal_of (0 * 10 + (b - 48)) ≡ b ∷ []
decimal_digit b e =
    let d = digit b e in
    let q : 48 + (0 * 10 + (b - 48)) ≡ b = omega (arith, d) in
    decimal_small (0 * 10 + (b - 48)) (omega (arith, d)) ∙ ap (λ (x : ℕ). x ∷ []) q

pub decimal_again : (f : List ℕ) → is_decimal f ≡ true → decimal_of (value f) ≡ f
decimal_again [] e = absurd (false≢true e)
decimal_again (b ∷ []) e = decimal_digit b e
decimal_again (b ∷ (x ∷ bs)) e =
    let t = and-true (not (eqb b 48)) (all_digits (b ∷ (x ∷ bs))) e in
    let u = and-true (is_digit b) (all_digits (x ∷ bs)) t.1 in
    let d = digit b u.0 in
    let z : b ≡ 48 → ⊥ = eqb-false b 48 (not-true (eqb b 48) t.0) in
    value_decimal (0 * 10 + (b - 48)) (x ∷ bs) (omega (arith, d, z)) u.1 ∙ ap (λ (l : List ℕ). l ++ (x ∷ bs)) (decimal_digit b u.0)

-- what a field says is its number, and the field is its spelling
pub number_form : (f : List ℕ) (s : Bool) (n : ℕ) → number_of f ≡ number.Is s n → (f ≡ sign_text s ++ decimal_of n) × Written (literal s n)
number_form f s n e =
    let d = number_is f s n e in
    (d.spells ∙ ap (λ (g : List ℕ). sign_text s ++ g) (sym (decimal_again d.digits d.in_decimal) ∙ ap decimal_of d.writes), d.written)

pub number_back : (s : Bool) (n : ℕ) → Written (literal s n) → number_of (sign_text s ++ decimal_of n) ≡ number.Is s n
number_back true zero h = absurd (omega (arith, h.0))
number_back true (suc n) h = negative_back n h.1
number_back false n h = decimal_back n h
