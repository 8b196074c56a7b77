-- From each stage of 01's table to the next, whatever the scratch's rule: what a refusal returns and leaves, and what is known behind the stage.
use Rattle.std.specs.Prelude.{◌≡◌, refl, true, List, map, ℕ, suc, ◌+◌, ◌≤◌, ◌<◌, pos, length, get_or, replicate}
use Rattle.std.proofs.Common.{sym, ◌∙◌, arith, ne_eqb}
use Rattle.std.proofs.Math.Path.{ap}
use Rattle.std.proofs.Math.Option
use Rattle.std.proofs.Math.Option.{Option, none, some}
use Rattle.isa.specs.declared.Encoded.{Encoded}
use Rattle.sheet_spec.specs.declared.Listed.{Listed}
use Rattle.sheet_spec.specs.Line.{no, line_of}
use Rattle.sheet_spec.specs.Made.{is_some, resolves_in, of_lines}
use Rattle.sheet_spec.specs.Sheet.{start_line, start_of, sizes_of, Sheet, start_in, sheet_in, line_count, word_count, addresses, address_of_line, resolved, encoded, all_words}
use Rattle.sheet_spec.specs.Translate.{ScratchRule, Outcome, in_order, refused, and_then, as_outcome, opening, sizing, closing, encoding, sheet_outcome, outcome_at, outcome_of, listed_as, over}
use Rattle.sheet_spec.specs.Promises.{MeasuredSheet, Translated}
use Rattle.sheet_facts.specs.SheetLaws.{count_most, lines_after}
use Rattle.sheet_facts.specs.Listing.{as_in_order, as_refused}
use Rattle.sheet_facts.specs.Lines.{line_grammar}
use Rattle.sheet_size_facts.specs.Outcomes.{sizing-each, accepted}
use Rattle.sheet_size_facts.specs.OutcomeLaws.{Sound, sizes_sound, encoded_sound}
use Rattle.sheet_size_facts.specs.Bounds.{line_at_lem, addresses_bounded}
use Rattle.sheet_size_facts.specs.Counted.{image-counts}
use Rattle.sheet_start.specs.declared.StartAt.{StartAt}
use Rattle.sheet_start.specs.StartLine.{start_at}
use Rattle.sheet_labels.specs.Labels.{listed}
use Rattle.sheet_passes.specs.declared.Passed.{Passed}
use Rattle.sheet_passes.specs.Passes.{passed_of, parsed_at, Placed, encoded_at}
use Rattle.sheet_passes.specs.PassLaws.{total-most}
use Rattle.sheet_translate.specs.Translated.{outcome_number}
use Rattle.sheet_translate.specs.StageLaws.{opening_outside, closing_outside, opened, closed, by_outcome, turned_away}
use Rattle.sheet_translate.specs.PlaceLaws.{sheet_places}

-- ---- what stands before the lines
pub lines_from : (text : List ℕ) (from : ℕ) → from ≡ length (start_line text) + 1 → parsed_at text from ≡ (sheet_in text).lines
lines_from text from e = rw e (ap (λ (ls : List (List ℕ)). map line_of ls) (sym (lines_after text)))

pub start_ok : (t : Option ℕ) → (start_at t).ok ≡ is_some t
start_ok (some n) = refl
start_ok none = refl

pub start_address : (t : Option ℕ) → (start_at t).address ≡ Option.get_or t 0
start_address (some n) = refl
start_address none = refl

pub start_is : (text : List ℕ) (t : StartAt) → t ≡ start_at (start_of (start_line text)) → t.address ≡ (sheet_in text).start
start_is text t e = ap (λ (x : StartAt). x.address) e ∙ start_address (start_of (start_line text))

-- ---- the opening
module _ (rule : ScratchRule) (text : List ℕ) (places k : ℕ) (e : k ≡ outcome_number (opening rule text (start_in text) places)) where
  opening-is : opening rule text (start_in text) places ≡ as_outcome 0 k 0 (pos 0)
  opening-is = opening_outside rule text (start_in text) places ∙ ap (λ (x : ℕ). as_outcome 0 x 0 (pos 0)) (sym e)

  pub opening_fine : k ≡ 0 → opening rule text (start_in text) places ≡ in_order
  opening_fine h = opening-is ∙ as_in_order 0 k 0 (pos 0) h

pub refused-opening : (rule : ScratchRule) (text v s : List ℕ) (k : ℕ) → k ≡ outcome_number (opening rule text (start_in text) (length s)) → (k ≡ 0 → ⊥)
    → (s' : List ℕ) (r : Listed) → r ≡ listed_as (refused k 0 0 (pos 0)) 0 0 → s' ≡ replicate (length s) 0 → Translated rule text v s v s' r
unfolding outcome_at
refused-opening rule text v s k e h s' r f g =
    turned_away rule text v s k 0 0 (pos 0)
    (ap (λ (x : Outcome). and_then x (sheet_outcome (sheet_in text) (length v))) (opening-is rule text (length s) k e ∙ as_refused 0 k 0 (pos 0) h)) s' r f g

-- ---- what a pass says
as_passed : (v : Outcome) → Sound v → (w : ℕ) (r : Passed) → r ≡ passed_of v w → v ≡ as_outcome r.line r.number r.detail r.value
as_passed in_order s w r e = rw e
as_passed (refused number line detail value) s w r e = rw (e, ne_eqb number 0 s)

pub passed_in_order : (v : Outcome) → Sound v → (w : ℕ) (r : Passed) → r ≡ passed_of v w → r.number ≡ 0 → v ≡ in_order
passed_in_order v s w r e h = as_passed v s w r e ∙ as_in_order r.line r.number r.detail r.value h

passed_words : (v : Outcome) (w : ℕ) (r : Passed) → r ≡ passed_of v w → v ≡ in_order → r.words ≡ w
passed_words v w r e f = rw (e, f)

-- ---- the sizes: p is what they say, and the scratch is then s₁
module _ (rule : ScratchRule) (text v s : List ℕ) (o : opening rule text (start_in text) (length s) ≡ in_order)
    (p : Passed) (e : p ≡ passed_of (sizing (sheet_in text).lines) (word_count (sheet_in text))) (s₁ : List ℕ) (kept : length s₁ ≡ length s) where
  abbrev T : Sheet
  T = sheet_in text

  measured : sizing T.lines ≡ as_outcome p.line p.number p.detail p.value
  measured = as_passed (sizing T.lines) (sizes_sound 1 (sizes_of T.lines)) (word_count T) p e

  after : (w : Outcome) → sizing T.lines ≡ w → outcome_of rule text (length s) (length v) ≡ and_then w (and_then (closing T.start (word_count T) (length v)) (encoding (encoded T)))
  unfolding outcome_at
  after w q =
      ap (λ (x : Outcome). and_then x (sheet_outcome T (length v))) o
      ∙ ap (λ (x : Outcome). and_then x (and_then (closing T.start (word_count T) (length v)) (encoding (encoded T)))) q

  zeroed : (s' : List ℕ) → s' ≡ replicate (length s₁) 0 → s' ≡ replicate (length s) 0
  zeroed s' q = q ∙ ap (λ (k : ℕ). replicate k 0) kept

  pub refused-size : (p.number ≡ 0 → ⊥) → (s' : List ℕ) (r : Listed) → r ≡ listed_as (refused p.number p.line p.detail p.value) 0 0
      → s' ≡ replicate (length s₁) 0 → Translated rule text v s v s' r
  refused-size h s' r f g =
      turned_away rule text v s p.number p.line p.detail p.value
      (after (refused p.number p.line p.detail p.value) (measured ∙ as_refused p.line p.number p.detail p.value h)) s' r f (zeroed s' g)

  module _ (h : p.number ≡ 0) where
    pub sizes_in_order : sizing T.lines ≡ in_order
    sizes_in_order = measured ∙ as_in_order p.line p.number p.detail p.value h

    pub needed : p.words ≡ word_count T
    needed = passed_words (sizing T.lines) (word_count T) p e sizes_in_order

    pub words_most : p.words ≤ 45056
    words_most = omega (arith, needed, total-most (line_count T) T.lines, count_most text (opened rule text (start_in text) (length s) o).sheet)

    -- ---- the closing
    module _ (start : ℕ) (start_is : start ≡ T.start) (k : ℕ) (ek : k ≡ outcome_number (closing start p.words (length v))) where
      ended : closing T.start (word_count T) (length v) ≡ as_outcome 0 k 0 (pos 0)
      ended =
          let q : k ≡ outcome_number (closing T.start (word_count T) (length v)) = ek ∙ rw (start_is, needed) in
          closing_outside T.start (word_count T) (length v) ∙ ap (λ (x : ℕ). as_outcome 0 x 0 (pos 0)) (sym q)

      pub refused_end : (k ≡ 0 → ⊥) → (s' : List ℕ) (r : Listed) → r ≡ listed_as (refused k 0 0 (pos 0)) 0 0
          → s' ≡ replicate (length s₁) 0 → Translated rule text v s v s' r
      refused_end m s' r f g =
          turned_away rule text v s k 0 0 (pos 0)
          (after in_order sizes_in_order ∙ ap (λ (x : Outcome). and_then x (encoding (encoded T))) (ended ∙ as_refused 0 k 0 (pos 0) m)) s' r f (zeroed s' g)

      module _ (m : k ≡ 0) where
        pub measured-lines : MeasuredSheet T
        measured-lines =
            record {
              sized = sizing-each T.lines sizes_in_order;
              ends = (closed T.start (word_count T) (length v) (ended ∙ as_in_order 0 k 0 (pos 0) m)).ends;
            }

        pub encoding_left : outcome_of rule text (length s₁) (length v) ≡ encoding (encoded T)
        encoding_left =
            ap (λ (x : ℕ). outcome_of rule text x (length v)) kept ∙ after in_order sizes_in_order
            ∙ ap (λ (x : Outcome). and_then x (encoding (encoded T))) (ended ∙ as_in_order 0 k 0 (pos 0) m)

-- ---- the lines at their addresses
module _ (text : List ℕ) where
  abbrev S : Sheet
  S = sheet_in text

  resolved-is : listed (addresses S) ≡ resolved S
  resolved-is = ap (λ (n : ℕ). of_lines n (address_of_line S)) (sheet_places text)

  named : MeasuredSheet S → (k : ℕ) → k < line_count S → resolves_in (resolved S) (get_or S.lines k no) ≡ true
  named z k h =
      let l = line_at_lem S (line_grammar text) z (suc k) (omega arith) (omega arith) in
      ap (resolves_in (resolved S)) l.parsed ∙ (l.line (address_of_line S) (addresses_bounded S (line_grammar text) z)).labels

  pub placed-lines : MeasuredSheet S → line_count S ≤ 4096 → Placed (addresses S) S.lines
  placed-lines z most = record { few = omega (arith, sheet_places text, most); lines = sheet_places text; named = rw resolved-is (named z) }

  pub encoded-lines : encoded_at (addresses S) S.lines ≡ encoded S
  encoded-lines = rw resolved-is

-- ---- the ranges: p is what they say
module _ (rule : ScratchRule) (text v s : List ℕ) (o : outcome_of rule text (length s) (length v) ≡ encoding (encoded (sheet_in text)))
    (es : List Encoded) (is : es ≡ encoded (sheet_in text)) (p : Passed) (e : p ≡ passed_of (encoding es) 0) where
  ranged : outcome_of rule text (length s) (length v) ≡ as_outcome p.line p.number p.detail p.value
  ranged = o ∙ as_passed (encoding (encoded (sheet_in text))) (encoded_sound 1 (encoded (sheet_in text))) 0 p (e ∙ ap (λ (x : List Encoded). passed_of (encoding x) 0) is)

  pub refused_range : (p.number ≡ 0 → ⊥) → (s' : List ℕ) (r : Listed) → r ≡ listed_as (refused p.number p.line p.detail p.value) 0 0
      → s' ≡ replicate (length s) 0 → Translated rule text v s v s' r
  refused_range h s' r f g = turned_away rule text v s p.number p.line p.detail p.value (ranged ∙ as_refused p.line p.number p.detail p.value h) s' r f g

  module _ (h : p.number ≡ 0) where
    is_in_order_lem : outcome_of rule text (length s) (length v) ≡ in_order
    is_in_order_lem = ranged ∙ as_in_order p.line p.number p.detail p.value h

    pub image-fits : length (all_words es) ≤ length v
    image-fits =
        omega (
          arith,
          ap (λ (x : List Encoded). length (all_words x)) is,
          image-counts rule text (start_in text) (length s) (length v) is_in_order_lem,
          (accepted text (start_in text) (length s) (length v) is_in_order_lem).lines.image,
        )

    -- ---- nothing is refused
    pub laid : (v' s' : List ℕ) (lines words : ℕ) → v' ≡ over (all_words es) v → s' ≡ over (rule.held (addresses (sheet_in text))) s → lines ≡ line_count (sheet_in text)
        → words ≡ word_count (sheet_in text) → Translated rule text v s v' s' (listed_as in_order lines words)
    laid v' s' lines words f g a b =
        by_outcome rule text v s in_order is_in_order_lem v' s' (listed_as in_order lines words) (rw (a, b)) (f ∙ ap (λ (x : List Encoded). over (all_words x) v) is) g
