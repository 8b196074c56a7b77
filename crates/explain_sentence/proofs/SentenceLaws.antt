-- Laws of the sentence of a refusal, case by case. Assumes nothing.
use mathlib.Core.Path.{◌≡◌, refl, sym, ap, subst, ◌∙◌}
use mathlib.Core.Bool.{Bool, true, false, cond, not, ◌&&◌, ◌||◌}
use mathlib.Core.List.{List, [], ◌∷◌, ◌++◌}
use Prim.Native.Nat.{ℕ, ◌≤◌}
use lib.ListN.{length, get_or}
use lib.Dec.{T, eqb}
use borrow.Author.Tests.{eq-eqb, ne_eqb}
use Rattle.base_spec.specs.Written.{decimal_of}
use Rattle.base_facts.specs.Tests.{T_true, cond_true, cond_false}
use Rattle.sheet_spec.specs.Names.{bytes}
use Rattle.sheet_spec.specs.Line.{is_none}
use Rattle.explain_spec.specs.declared.Refusal.{Refusal}
use Rattle.explain_spec.specs.Sentence.{row_at, line_texts, sheet_texts, field_texts, reason_texts, is_outside, wrong_of, detail_of, has_detail, is_known, where_of, filled, sentence_of}
use Rattle.explain_sentence.proofs.Laws.{all_short, row-short}

-- a row of a table as it is held
module _ {rows ss : List (List ℕ)} (e : rows ≡ [] ∷ ss) (n : ℕ) where
  pub row_same : get_or rows n [] ≡ row_at ss n
  row_same = ap (λ (t : List (List ℕ)). get_or t n []) e

  pub row-known : not (is_none (get_or rows n [])) ≡ not (is_none (row_at ss n))
  row-known = ap (λ (t : List ℕ). not (is_none t)) row_same

row_room : {rows : List (List ℕ)} (ss : List (List ℕ)) → T (all_short 180 ([] ∷ ss)) → rows ≡ [] ∷ ss → (n : ℕ) → length (get_or rows n []) ≤ 180
row_room {rows} ss t e n = subst (λ (rs : List (List ℕ)). length (get_or rs n []) ≤ 180) (sym e) (row-short 180 ([] ∷ ss) (T_true (all_short 180 ([] ∷ ss)) t) n)

-- the rows of each table have room, by a computed test
module _ {rows : List (List ℕ)} where
  pub line_room : rows ≡ [] ∷ line_texts → (n : ℕ) → length (get_or rows n []) ≤ 180
  line_room = row_room line_texts tt

  pub sheet_room : rows ≡ [] ∷ sheet_texts → (n : ℕ) → length (get_or rows n []) ≤ 180
  sheet_room = row_room sheet_texts tt

  pub field_room : rows ≡ [] ∷ field_texts → (n : ℕ) → length (get_or rows n []) ≤ 180
  field_room = row_room field_texts tt

  pub reason_room : rows ≡ [] ∷ reason_texts → (n : ℕ) → length (get_or rows n []) ≤ 180
  reason_room = row_room reason_texts tt

module _ (r : Refusal) where
  pub wrong_outside : is_outside r ≡ true → wrong_of r ≡ row_at sheet_texts r.number
  unfolding wrong_of
  wrong_outside h = cond_true (is_outside r) (row_at sheet_texts r.number) (row_at line_texts r.number) h

  pub wrong_line : is_outside r ≡ false → wrong_of r ≡ row_at line_texts r.number
  unfolding wrong_of
  wrong_line h = cond_false (is_outside r) (row_at sheet_texts r.number) (row_at line_texts r.number) h

  -- the field, the reason, neither
  abbrev reason : List ℕ
  reason = cond (eqb r.number 3) (row_at reason_texts r.detail) []

  pub detail_field : r.number ≡ 2 → detail_of r ≡ row_at field_texts r.detail
  unfolding detail_of
  detail_field h = cond_true (eqb r.number 2) (row_at field_texts r.detail) reason (eq-eqb r.number 2 h)

  pub detail_reason : (r.number ≡ 2 → ⊥) → r.number ≡ 3 → detail_of r ≡ row_at reason_texts r.detail
  unfolding detail_of
  detail_reason n h =
      cond_false (eqb r.number 2) (row_at field_texts r.detail) reason (ne_eqb r.number 2 n)
      ∙ cond_true (eqb r.number 3) (row_at reason_texts r.detail) [] (eq-eqb r.number 3 h)

  pub detail_none : (r.number ≡ 2 → ⊥) → (r.number ≡ 3 → ⊥) → detail_of r ≡ []
  unfolding detail_of
  detail_none n m =
      cond_false (eqb r.number 2) (row_at field_texts r.detail) reason (ne_eqb r.number 2 n)
      ∙ cond_false (eqb r.number 3) (row_at reason_texts r.detail) [] (ne_eqb r.number 3 m)

  abbrev lacks : Bool → Bool → List ℕ → Bool
  lacks a b t = not ((a || b) && is_none t)

  lacks_some : (a b : Bool) (t : List ℕ) → a || b ≡ true → lacks a b t ≡ not (is_none t)
  lacks_some a b t h = ap (λ (c : Bool). not (c && is_none t)) h

  or_right : (a : Bool) → a || true ≡ true
  or_right true = refl
  or_right false = refl

  pub has_field : r.number ≡ 2 → not (has_detail r && is_none (detail_of r)) ≡ not (is_none (row_at field_texts r.detail))
  has_field h =
      lacks_some (eqb r.number 2) (eqb r.number 3) (detail_of r) (ap (λ (a : Bool). a || eqb r.number 3) (eq-eqb r.number 2 h))
      ∙ ap (λ (t : List ℕ). not (is_none t)) (detail_field h)

  pub has_reason : (r.number ≡ 2 → ⊥) → r.number ≡ 3 → not (has_detail r && is_none (detail_of r)) ≡ not (is_none (row_at reason_texts r.detail))
  has_reason n h =
      lacks_some (eqb r.number 2) (eqb r.number 3) (detail_of r) (ap (λ (b : Bool). eqb r.number 2 || b) (eq-eqb r.number 3 h) ∙ or_right (eqb r.number 2))
      ∙ ap (λ (t : List ℕ). not (is_none t)) (detail_reason n h)

  pub has_none : (r.number ≡ 2 → ⊥) → (r.number ≡ 3 → ⊥) → not (has_detail r && is_none (detail_of r)) ≡ true
  has_none n m = λ i. lacks (ne_eqb r.number 2 n i) (ne_eqb r.number 3 m i) (detail_of r)

  -- the line, or none
  abbrev named : List ℕ
  named = bytes "line " ++ decimal_of r.line ++ bytes ": "

  pub where_some : r.sheet && not (eqb r.line 0) ≡ true → where_of r ≡ bytes "line " ++ decimal_of r.line ++ bytes ": "
  unfolding where_of
  where_some h = cond_true (r.sheet && not (eqb r.line 0)) named [] h

  pub where_none : r.sheet && not (eqb r.line 0) ≡ false → where_of r ≡ []
  unfolding where_of
  where_none h = cond_false (r.sheet && not (eqb r.line 0)) named [] h

  -- all of it, or nothing
  abbrev all : List ℕ
  all = where_of r ++ filled r (wrong_of r) ++ filled r (detail_of r) ++ (10 ∷ [])

  pub sentence_known : is_known r ≡ true → sentence_of r ≡ where_of r ++ filled r (wrong_of r) ++ filled r (detail_of r) ++ (10 ∷ [])
  unfolding sentence_of
  sentence_known h = cond_true (is_known r) all [] h

  pub sentence_none : is_known r ≡ false → sentence_of r ≡ []
  unfolding sentence_of
  sentence_none h = cond_false (is_known r) all [] h

  wrong_zero : (b : Bool) (n : ℕ) → n ≡ 0 → cond b (row_at sheet_texts n) (row_at line_texts n) ≡ []
  wrong_zero true n h = ap (row_at sheet_texts) h
  wrong_zero false n h = ap (row_at line_texts) h

  pub sentence_zero : r.number ≡ 0 → sentence_of r ≡ []
  unfolding is_known wrong_of
  sentence_zero h = sentence_none (ap (λ (t : List ℕ). not (is_none t) && not (has_detail r && is_none (detail_of r))) (wrong_zero (is_outside r) r.number h))
