-- Laws of the stages of 01's table.
use Rattle.std.specs.Prelude.{ℕ, ◌%◌, ◌^◌, ◌≤◌, ◌≡◌, refl, Bool, true, false, List, eqb, leb, ℤ, pos, length, replicate}
use Rattle.std.proofs.Common.{sym, ◌∙◌, arith, ne_eqb, leb-true}
use Rattle.std.proofs.Math.Path.{ap}
use Rattle.sheet_spec.specs.declared.Listed.{Listed}
use Rattle.sheet_spec.specs.Made.{is_some}
use Rattle.sheet_spec.specs.Sheet.{is_sheet, start_line, start_of, sheet_at, sheet_in, line_count, word_count, end_of, addresses, image}
use Rattle.sheet_spec.specs.Translate.{ScratchRule, Outcome, in_order, refused, and_then, require, as_outcome, opening, closing, outcome_of, listed_as, listed_of, image_as, image_of, scratch_as, scratch_of}
use Rattle.sheet_facts.specs.Listing.{both_in_order, require_true}
use Rattle.sheet_translate.specs.Translated.{outcome_number}
use Rattle.sheet_spec.specs.Promises.{Translated}

-- ---- an opening or a closing is known by its number
abbrev pub Outside : Outcome → Type 0
Outside v = v ≡ as_outcome 0 (outcome_number v) 0 (pos 0)

or_outside : (u v : Outcome) → Outside u → Outside v → Outside (and_then u v)
or_outside in_order v a b = b
or_outside (refused number line detail value) v a b = a

unless_outside : (b : Bool) (k : ℕ) → (k ≡ 0 → ⊥) → Outside (require b k)
unless_outside true k h = refl
unless_outside false k h = rw (ne_eqb k 0 h)

pub opening_outside : (rule : ScratchRule) (text : List ℕ) (start places : ℕ) → Outside (opening rule text start places)
opening_outside rule text start places =
    or_outside (require (is_sheet text) 10) _ (unless_outside (is_sheet text) 10 (λ e. omega arith))
    (or_outside (require (is_some (start_of (start_line text))) 7) _ (unless_outside (is_some (start_of (start_line text))) 7 (λ e. omega arith))
    (or_outside (require (eqb (start % 2) 0) 9) _ (unless_outside (eqb (start % 2) 0) 9 (λ e. omega arith))
    (unless_outside (leb (rule.needed (line_count (sheet_at start text))) places) 11 (λ e. omega arith))))

pub closing_outside : (start words room : ℕ) → Outside (closing start words room)
closing_outside start words room =
    or_outside (require (leb (end_of start words) (2 ^ 32)) 9) _ (unless_outside (leb (end_of start words) (2 ^ 32)) 9 (λ e. omega arith))
    (unless_outside (leb words room) 11 (λ e. omega arith))

-- ---- what follows where nothing is refused
pub record Opened (rule : ScratchRule) (text : List ℕ) (places : ℕ) : Type 0 where
  pub sheet : is_sheet text ≡ true
  pub scratch : rule.needed (line_count (sheet_in text)) ≤ places

pub opened : (rule : ScratchRule) (text : List ℕ) (start places : ℕ) → opening rule text start places ≡ in_order → Opened rule text places
opened rule text start places e =
    let a = both_in_order (require (is_sheet text) 10) _ e in
    let b = both_in_order (require (is_some (start_of (start_line text))) 7) _ a.1 in
    let c = both_in_order (require (eqb (start % 2) 0) 9) _ b.1 in
    record {
      sheet = require_true (is_sheet text) 10 a.0;
      scratch = leb-true (rule.needed (line_count (sheet_in text))) places (require_true (leb (rule.needed (line_count (sheet_in text))) places) 11 c.1);
    }

pub record Closed (start words room : ℕ) : Type 0 where
  pub ends : end_of start words ≤ 2 ^ 32
  pub image : words ≤ room

pub closed : (start words room : ℕ) → closing start words room ≡ in_order → Closed start words room
closed start words room e =
    let a = both_in_order (require (leb (end_of start words) (2 ^ 32)) 9) _ e in
    record {
      ends = leb-true (end_of start words) (2 ^ 32) (require_true (leb (end_of start words) (2 ^ 32)) 9 a.0);
      image = leb-true words room (require_true (leb words room) 11 a.1);
    }

-- ---- what is returned and left, by the outcome
module _ (rule : ScratchRule) (text v s : List ℕ) where
  pub by_outcome : (w : Outcome) → outcome_of rule text (length s) (length v) ≡ w → (v' s' : List ℕ) (r : Listed)
      → r ≡ listed_as w (line_count (sheet_in text)) (word_count (sheet_in text)) → v' ≡ image_as w (image (sheet_in text)) v → s' ≡ scratch_as w (rule.held (addresses (sheet_in text))) s
      → Translated rule text v s v' s' r
  unfolding listed_of image_of scratch_of
  by_outcome w e v' s' r a b c =
      record {
        listed = a ∙ ap (λ (x : Outcome). listed_as x (line_count (sheet_in text)) (word_count (sheet_in text))) (sym e);
        image = b ∙ ap (λ (x : Outcome). image_as x (image (sheet_in text)) v) (sym e);
        scratch = c ∙ ap (λ (x : Outcome). scratch_as x (rule.held (addresses (sheet_in text))) s) (sym e);
      }

  -- a refusal: the image unchanged, the scratch 0
  pub turned_away : (number line detail : ℕ) (value : ℤ) → outcome_of rule text (length s) (length v) ≡ refused number line detail value
      → (s' : List ℕ) (r : Listed) → r ≡ listed_as (refused number line detail value) 0 0 → s' ≡ replicate (length s) 0
      → Translated rule text v s v s' r
  turned_away number line detail value e s' r a c = by_outcome (refused number line detail value) e v s' r a refl c
