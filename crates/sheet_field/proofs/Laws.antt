-- Laws of what a field says, a byte at a time. Assumes nothing.
use mathlib.Core.Path.{◌≡◌, refl, sym, ap, ◌∙◌}
use mathlib.Core.Bool.{Bool, true, false, cond, ◌&&◌, and-true, and-false}
use mathlib.Core.List.{List, [], ◌∷◌}
use Prim.Native.Nat.{ℕ, suc, ◌+◌, ◌*◌, ◌-◌, ◌≤◌, ◌<◌}
use native.Mathlib.Omega.{arith}
use native.Mathlib.Numerals.{add-one}
use lib.ListN.{length, take, drop, get_or, drop_of_length-le}
use lib.Seq.{drop-cons, take_all}
use lib.Dec.{eqb, leb, ltb}
use Rattle.std.specs.Prelude.{Some, None}
use borrow.Author.Tests.{lt-ltb, lt-leb, leb-true, leb-false, eq-eqb, ne_eqb}
use Rattle.base_spec.specs.Number.{is_digit, all_digits, value_from, number_of}
use Rattle.base_text.specs.NumberLaws.{value_grows}
use Rattle.sheet_spec.specs.declared.Kind.TheVariants as kind
use Rattle.sheet_tokens.specs.declared.Value.TheVariants as value
use Rattle.sheet_spec.specs.Line.{label, invalid, equal, place_from, as_label, as_number, token}
use Rattle.sheet_tokens.specs.Values.{capped, value_of}
use Rattle.base_facts.specs.Tests as facts
use Rattle.sheet_field.specs.LineNumber.{line_after}

-- equal texts
pub equal_lengths : (f g : List ℕ) → (length f ≡ length g → ⊥) → equal f g ≡ false
equal_lengths [] [] h = absurd (h refl)
equal_lengths [] (y ∷ ys) h = refl
equal_lengths (x ∷ xs) [] h = refl
equal_lengths (x ∷ xs) (y ∷ ys) h = go (eqb x y) (equal_lengths xs ys (λ e. h (ap suc e)))
  where
    go : (t : Bool) → equal xs ys ≡ false → t && equal xs ys ≡ false
    go true e = e
    go false e = refl

-- a line's number, capped after each digit
pub capped_more : (a : ℕ) (l : List ℕ) → capped (value_from (capped a) l) ≡ capped (value_from a l)
capped_more a l = go (leb a 4096) refl
  where
    go : (t : Bool) → leb a 4096 ≡ t → capped (value_from (cond t a 4097) l) ≡ capped (value_from a l)
    go true e = refl
    go false e =
        rw (
          lt-leb (value_from 4097 l) 4096 (omega (arith, value_grows 4097 l)),
          lt-leb (value_from a l) 4096 (omega (arith, value_grows a l, leb-false a 4096 e)),
        )

module _ (f : List ℕ) (i a : ℕ) (h : i < length f) where
  digit : line_after a (drop i f)
      ≡ cond (is_digit (get_or f i 0) && all_digits (drop (i + 1) f))
      (Some (value.Line (capped (value_from (a * 10 + (get_or f i 0 - 48)) (drop (i + 1) f))))) None
  digit = rw (add-one, drop-cons f i 0 h)

  pub line_more : is_digit (get_or f i 0) ≡ true → line_after a (drop i f) ≡ line_after (capped (a * 10 + (get_or f i 0 - 48))) (drop (i + 1) f)
  line_more e = rw (digit, e, capped_more (a * 10 + (get_or f i 0 - 48)) (drop (i + 1) f))

  pub line_none : is_digit (get_or f i 0) ≡ false → line_after a (drop i f) ≡ None
  line_none e = rw (digit, e)

pub capped_fits : (a : ℕ) → capped a ≤ 4097
capped_fits a = go (leb a 4096) refl
  where
    go : (t : Bool) → leb a 4096 ≡ t → cond t a 4097 ≤ 4097
    go true e = omega (arith, leb-true a 4096 e)
    go false e = omega arith

capped_same : (a : ℕ) → a ≤ 4097 → capped a ≡ a
capped_same a h = go (leb a 4096) refl
  where
    go : (t : Bool) → leb a 4096 ≡ t → cond t a 4097 ≡ a
    go true e = refl
    go false e = omega (arith, leb-false a 4096 e)

pub line_end : (f : List ℕ) (i a : ℕ) → length f ≤ i → a ≤ 4097 → line_after a (drop i f) ≡ Some (value.Line a)
line_end f i a h g = rw (drop_of_length-le f h) (ap (λ (n : ℕ). Some (value.Line n)) (capped_same a g))

-- `@` and a number, by its first bytes
pub name_short : (f : List ℕ) → length f < 2 → as_label f ≡ invalid
name_short [] h = refl
name_short (b ∷ []) h = rw (and-false (eqb b 64))
name_short (b ∷ (d ∷ bs)) h = absurd (omega arith)

pub name_other : (f : List ℕ) → (get_or f 0 0 ≡ 64 → ⊥) → as_label f ≡ invalid
name_other [] e = refl
name_other (b ∷ bs) e = rw (ne_eqb b 64 e)

pub name_zeros : (f : List ℕ) → eqb (get_or f 1 0) 48 && ltb 2 (length f) ≡ true → as_label f ≡ invalid
name_zeros [] e = refl
name_zeros (b ∷ []) e = rw (and-false (eqb b 64))
name_zeros (b ∷ (d ∷ [])) e = let z : ◌≡◌ {A = ℕ} 0 1 = cc (and-false (eqb d 48)) in absurd (omega arith)
name_zeros (b ∷ (d ∷ (x ∷ bs))) e = rw ((facts.and-true (eqb d 48) (ltb 2 (suc (suc (suc (length bs))))) e).0, and-false (eqb b 64))

label_if : (t : Bool) (n : ℕ) → value_of (cond t (label n) invalid) ≡ cond t (Some (value.Line (capped n))) None
label_if true n = refl
label_if false n = refl

pub name_digits : (f : List ℕ) → 2 ≤ length f → get_or f 0 0 ≡ 64 → eqb (get_or f 1 0) 48 && ltb 2 (length f) ≡ false
    → value_of (as_label f) ≡ line_after 0 (take (length f - 1) (drop 1 f))
name_digits [] h e t = absurd (omega arith)
name_digits (b ∷ []) h e t = absurd (omega arith)
name_digits (b ∷ (d ∷ [])) h e t = rw (eq-eqb b 64 e, and-true (is_digit d)) (label_if (is_digit d) (value_from 0 (d ∷ [])))
name_digits (b ∷ (d ∷ (x ∷ bs))) h e t =
    let l : List ℕ = d ∷ (x ∷ bs) in
    let n : eqb d 48 ≡ false = sym (and-true (eqb d 48)) ∙ rw (lt-ltb 2 (suc (suc (suc (length bs)))) (omega arith)) at t in
    rw (eq-eqb b 64 e, n, take_all (suc (suc (suc (length bs))) - 1) l (omega arith)) (label_if (all_digits l) (value_from 0 l))

-- an empty field names nothing
pub place_none : (f : List ℕ) → length f ≡ 0 → (k : ℕ) (ns : List (List ℕ)) → place_from k f ns ≡ invalid
place_none [] h k [] = refl
place_none [] h k (n ∷ ns) = rw (and-false (equal [] n)) (place_none [] h (suc k) ns)
place_none (b ∷ bs) h k ns = absurd (omega arith)

-- a place, by its first byte
pub token-none : (f : List ℕ) → length f ≡ 0 → token kind.Place f ≡ invalid
token-none [] h = refl
token-none (b ∷ bs) h = absurd (omega arith)

pub token_name : (f : List ℕ) → get_or f 0 0 ≡ 64 → token kind.Place f ≡ as_label f
token_name [] e = refl
token_name (b ∷ bs) e = rw (eq-eqb b 64 e)

pub token-number : (f : List ℕ) → (get_or f 0 0 ≡ 64 → ⊥) → token kind.Place f ≡ as_number (number_of f)
token-number [] e = refl
token-number (b ∷ bs) e = rw (ne_eqb b 64 e)
