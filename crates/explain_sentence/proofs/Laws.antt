-- Laws of rows and of their filling. Assumes nothing.
use mathlib.Core.Path.{◌≡◌, refl, sym, ap, subst, ◌∙◌}
use mathlib.Core.Bool.{Bool, true, false, cond, not, ◌&&◌, false≢true}
use mathlib.Core.List.{List, [], ◌∷◌, ◌++◌, append_assoc, append-nil}
use Prim.Native.Nat.{ℕ, zero, suc, ◌+◌, ◌-◌, ◌≤◌, ◌<◌}
use native.Mathlib.Omega.{arith}
use native.Mathlib.Numerals.{add-one}
use lib.ListN.{length, take, drop, get_or}
use lib.Dec.{T, leb, eqb}
use lib.Seq.{take-suc, drop-cons}
use borrow.Author.Tests.{leb-true, eq-eqb, ne_eqb}
use Rattle.base_spec.specs.Parts.{fields}
use Rattle.base_text.specs.Parts.{before, part_end}
use Rattle.base_text.specs.PartLaws.{parts_from, parts_at, parts_past, part_is, before_end}
use Rattle.base_text.specs.Wrote.{Wrote}
use Rattle.base_spec.specs.Written.{decimal_of}
use Rattle.base_facts.specs.Tests.{T_true, and-true, Lt, less, past, lt?, cond_true, cond_false}
use Rattle.sheet_facts.specs.Facts.{equal_is}
use Rattle.sheet_spec.specs.Line.{is_none, equal}
use Rattle.explain_spec.specs.declared.Refusal.{Refusal}
use Rattle.explain_spec.specs.Sentence.{value_text, filled, filled_byte}

-- the rows from row n on
module _ (rows : List ℕ) (from : ℕ) where
  pub rows_next : (e left : ℕ) → from ≤ length rows → e ≡ part_end 9 rows from → 0 < left → drop left (parts_from 9 rows from) ≡ drop (left - 1) (parts_from 9 rows (e + 1))
  rows_next e zero h g k = absurd (omega arith)
  rows_next e (suc n) h g k =
      let q : n ≡ suc n - 1 = omega arith in
      ap (drop (suc n)) (parts_at 9 rows from h) ∙ (λ i. drop (q i) (parts_from 9 rows (sym g i + 1)))

  pub rows_past : (left : ℕ) → length rows < from → parts_from 9 rows from ≡ drop left (parts_from 9 rows from)
  rows_past zero h = refl
  rows_past (suc n) h = rw (parts_past 9 rows from h)

row_first : (rs : List (List ℕ)) (n : ℕ) → get_or rs n [] ≡ get_or (drop n rs) 0 []
row_first [] zero = refl
row_first [] (suc n) = refl
row_first (r ∷ rs) zero = refl
row_first (r ∷ rs) (suc n) = row_first rs n

-- row n, which begins at `from`
module _ (rows : List ℕ) (n from : ℕ) (s : parts_from 9 rows from ≡ drop n (fields rows)) where
  row_at : get_or (fields rows) n [] ≡ get_or (parts_from 9 rows from) 0 []
  row_at = row_first (fields rows) n ∙ ap (λ (l : List (List ℕ)). get_or l 0 []) (sym s)

  pub row_text : (e : ℕ) → from ≤ length rows → e ≡ part_end 9 rows from → get_or (fields rows) n [] ≡ take (e - from) (drop from rows)
  row_text e h g = row_at ∙ ap (λ (l : List (List ℕ)). get_or l 0 []) (parts_at 9 rows from h) ∙ sym (part_is 9 rows from e g)

  pub row-none : length rows ≤ from → get_or (fields rows) n [] ≡ []
  row-none h = row_at ∙ go (lt? (length rows) from)
    where
      go : Lt (length rows) from → get_or (parts_from 9 rows from) 0 [] ≡ []
      go (less l e) = rw (parts_past 9 rows from l)
      go (past l e) = ap (λ (t : List (List ℕ)). get_or t 0 []) (parts_at 9 rows from (omega arith)) ∙ before_end 9 rows from h

  pub row_some : from < length rows → not (eqb (get_or rows from 0) 9) ≡ not (is_none (get_or (fields rows) n []))
  row_some h =
      go (eqb (get_or rows from 0) 9)
      ∙ ap (λ (t : List ℕ). not (is_none t)) (ap (before 9) (sym (drop-cons rows from 0 h)) ∙ ap (λ (t : List (List ℕ)). get_or t 0 []) (sym (parts_at 9 rows from (omega arith))) ∙ sym row_at)
    where
      go : (t : Bool) → not t ≡ not (is_none (cond t [] (get_or rows from 0 ∷ before 9 (drop (suc from) rows))))
      go true = refl
      go false = refl

pub wrote_as : {buf out s t : List ℕ} {at r : ℕ} → s ≡ t → Wrote buf at t out r → Wrote buf at s out r
wrote_as {buf} {out} {s} {t} {at} {r} e w = subst (λ (u : List ℕ). Wrote buf at u out r) (sym e) w

module _ (r : Refusal) where
  pub value-below : r.negative ≡ true → value_text r ≡ (45 ∷ []) ++ decimal_of r.value
  value-below h = ap (λ (t : List ℕ). t ++ decimal_of r.value) (cond_true r.negative (45 ∷ []) [] h)

  pub value-plain : r.negative ≡ false → value_text r ≡ decimal_of r.value
  value-plain h = ap (λ (t : List ℕ). t ++ decimal_of r.value) (cond_false r.negative (45 ∷ []) [] h)

  module _ (b : ℕ) where
    pub byte-value : b ≡ 35 → filled_byte r b ≡ value_text r
    byte-value e = cond_true (eqb b 35) (value_text r) (cond (eqb b 38) (decimal_of r.detail) (b ∷ [])) (eq-eqb b 35 e)

    pub byte_detail : (b ≡ 35 → ⊥) → b ≡ 38 → filled_byte r b ≡ decimal_of r.detail
    byte_detail n e =
        cond_false (eqb b 35) (value_text r) (cond (eqb b 38) (decimal_of r.detail) (b ∷ [])) (ne_eqb b 35 n)
        ∙ cond_true (eqb b 38) (decimal_of r.detail) (b ∷ []) (eq-eqb b 38 e)

    pub byte_itself : (b ≡ 35 → ⊥) → (b ≡ 38 → ⊥) → filled_byte r b ≡ b ∷ []
    byte_itself n m =
        cond_false (eqb b 35) (value_text r) (cond (eqb b 38) (decimal_of r.detail) (b ∷ [])) (ne_eqb b 35 n)
        ∙ cond_false (eqb b 38) (decimal_of r.detail) (b ∷ []) (ne_eqb b 38 m)

-- one byte more
pub filled_more : (r : Refusal) (a b : List ℕ) → filled r (a ++ b) ≡ filled r a ++ filled r b
filled_more r [] b = refl
filled_more r (x ∷ a) b = ap (λ (t : List ℕ). filled_byte r x ++ t) (filled_more r a b) ∙ sym (append_assoc (filled_byte r x) (filled r a) (filled r b))

pub filled_next : (r : Refusal) (t : List ℕ) (i : ℕ) → i < length t → filled r (take (i + 1) t) ≡ filled r (take i t) ++ filled_byte r (get_or t i 0)
filled_next r t i h =
    rw (add-one, take-suc t i 0 h, filled_more r (take i t) (get_or t i 0 ∷ []), append-nil (filled_byte r (get_or t i 0)))

-- rows that are no longer than k
abbrev pub all_short : ℕ → List (List ℕ) → Bool
all_short k [] = true
all_short k (r ∷ rs) = leb (length r) k && all_short k rs

pub row-short : (k : ℕ) (rs : List (List ℕ)) → all_short k rs ≡ true → (n : ℕ) → length (get_or rs n []) ≤ k
row-short k [] t zero = omega arith
row-short k [] t (suc n) = omega arith
row-short k (r ∷ rs) t zero = leb-true (length r) k (and-true (leb (length r) k) (all_short k rs) t).0
row-short k (r ∷ rs) t (suc n) = row-short k rs (and-true (leb (length r) k) (all_short k rs) t).1 n

-- equal rows, by a computed test
abbrev pub same_rows : List (List ℕ) → List (List ℕ) → Bool
same_rows [] [] = true
same_rows [] (s ∷ ss) = false
same_rows (r ∷ rs) [] = false
same_rows (r ∷ rs) (s ∷ ss) = equal r s && same_rows rs ss

rows_are : (rs ss : List (List ℕ)) → same_rows rs ss ≡ true → rs ≡ ss
rows_are [] [] e = refl
rows_are [] (s ∷ ss) e = absurd (false≢true e)
rows_are (r ∷ rs) [] e = absurd (false≢true e)
rows_are (r ∷ rs) (s ∷ ss) e =
    let t = and-true (equal r s) (same_rows rs ss) e in
    let h : r ≡ s = equal_is r s t.0 in
    let k : rs ≡ ss = rows_are rs ss t.1 in
    λ i. h i ∷ k i

pub rows-tested : (rs ss : List (List ℕ)) → T (same_rows rs ss) → rs ≡ ss
rows-tested rs ss t = rows_are rs ss (T_true (same_rows rs ss) t)
