-- Laws of outcomes: no refusal has the number 0, and a refusal is known by its number.
use Rattle.std.specs.Prelude.{ℕ, suc, ◌%◌, ◌^◌, ◌≡◌, refl, Bool, true, false, cond, List, [], ◌∷◌, eqb, leb, ℤ}
use Rattle.std.proofs.Common.{arith}
use Rattle.std.proofs.lemmas.Bool.{eqb-false}
use Rattle.isa.specs.declared.Measured.{Measured}
use Rattle.isa.specs.declared.Encoded.{Encoded}
use Rattle.sheet_spec.specs.Made.{is_some}
use Rattle.sheet_spec.specs.Sheet.{is_sheet, start_line, start_of, sizes_of, sheet_at, line_count, word_count, end_of, encoded}
use Rattle.sheet_spec.specs.Translate.{ScratchRule, Outcome, in_order, refused, and_then, require, in_turn, size_outcome, encode_outcome, as_outcome, opening, sizing, closing, outcome_at}

abbrev pub Sound : Outcome → Type 0
Sound in_order = Unit {0}
Sound (refused number line detail value) = number ≡ 0 → ⊥

or_sound : (u v : Outcome) → Sound u → Sound v → Sound (and_then u v)
or_sound in_order v a b = b
or_sound (refused number line detail value) v a b = a

unless_sound : (b : Bool) (k : ℕ) → (k ≡ 0 → ⊥) → Sound (require b k)
unless_sound true k h = tt
unless_sound false k h = h

line_sound : (k number detail : ℕ) (value : ℤ) → Sound (as_outcome k number detail value)
line_sound k number detail value = go (eqb number 0) refl
  where
    go : (t : Bool) → eqb number 0 ≡ t → Sound (cond t in_order (refused number k detail value))
    go true e = tt
    go false e = eqb-false number 0 e

pub turn_sound : {A : Type 0} (says : ℕ → A → Outcome) → ((k : ℕ) (x : A) → Sound (says k x)) → (k : ℕ) (xs : List A) → Sound (in_turn says k xs)
turn_sound says h k [] = tt
turn_sound says h k (x ∷ xs) = or_sound (says k x) (in_turn says (suc k) xs) (h k x) (turn_sound says h (suc k) xs)

pub sizes_sound : (k : ℕ) (ms : List Measured) → Sound (in_turn size_outcome k ms)
sizes_sound k ms = turn_sound size_outcome (λ j m. line_sound j m.number m.detail m.value) k ms

pub encoded_sound : (k : ℕ) (es : List Encoded) → Sound (in_turn encode_outcome k es)
encoded_sound k es = turn_sound encode_outcome (λ j e. line_sound j e.number e.detail e.value) k es

pub outcome_sound : (rule : ScratchRule) (text : List ℕ) (start places room : ℕ) → Sound (outcome_at rule text start places room)
unfolding outcome_at
outcome_sound rule text start places room =
    let s = sheet_at start text in
    or_sound (opening rule text start places) _
    (or_sound (require (is_sheet text) 10) _ (unless_sound (is_sheet text) 10 (λ e. omega arith))
    (or_sound (require (is_some (start_of (start_line text))) 7) _ (unless_sound (is_some (start_of (start_line text))) 7 (λ e. omega arith))
    (or_sound (require (eqb (start % 2) 0) 9) _ (unless_sound (eqb (start % 2) 0) 9 (λ e. omega arith))
    (unless_sound (leb (rule.needed (line_count s)) places) 11 (λ e. omega arith)))))
    (or_sound (sizing s.lines) _ (sizes_sound 1 (sizes_of s.lines))
    (or_sound (closing s.start (word_count s) room) _
    (or_sound (require (leb (end_of s.start (word_count s)) (2 ^ 32)) 9) _ (unless_sound (leb (end_of s.start (word_count s)) (2 ^ 32)) 9 (λ e. omega arith)) (unless_sound (leb (word_count s) room) 11 (λ e. omega arith)))
    (encoded_sound 1 (encoded s))))
