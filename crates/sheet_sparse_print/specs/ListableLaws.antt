-- What is printed of an accepted sheet, from its text and what the translator leaves. Assumes nothing.
use Rattle.std.specs.Prelude.{◌≡◌, List, [], ◌∷◌, ℕ, ◌+◌, ◌≤◌, length, take, drop, get_or}
use Rattle.std.proofs.Math.Path.{refl}
use Rattle.std.proofs.Common.{ap, ◌∙◌, arith, length-append, take_at}
use Rattle.sheet_spec.specs.declared.Listed.{Listed}
use Rattle.sheet_spec.specs.Sheet.{start_line, Sheet, start_in, sheet_in, line_count, counts, word_count, addresses_from, addresses, image}
use Rattle.sheet_spec.specs.Translate.{sparse, Outcome, in_order, refused, opening, sizing, outcome_at, outcome_of, listed_of, over, image_of, scratch_of}
use Rattle.sheet_spec.specs.Promises.{Translated}
use Rattle.sheet_facts.specs.Listing.{both_in_order}
use Rattle.sheet_facts.specs.SheetLaws.{count_most, count_some}
use Rattle.sheet_size_facts.specs.Outcomes.{counts_length, accepted}
use Rattle.sheet_size_facts.specs.OutcomeLaws.{Sound, outcome_sound}
use Rattle.sheet_size_facts.specs.Counted.{image-counts}
use Rattle.sheet_size_facts.specs.Scratch.{firsts_at, sparse-filled}
use Rattle.sheet_translate.specs.Stages.{lines_from}
use Rattle.sheet_translate.specs.PlaceLaws.{sheet_places}
use Rattle.print_spec.specs.Printed.{printed_of}
use Rattle.sheet_print.specs.Listing.{lines_text}
use Rattle.sheet_print.specs.PrintedLaws.{listing_text}
use Rattle.sheet_sparse_print.specs.Counted.{sheet_from, Counted}

-- the first place has the address of line 1, and the words stand in front
pub record Listable (text scratch image : List ℕ) (lines words : ℕ) (printed : List ℕ) : Type 0 where
  pub first : 1 ≤ length scratch
  pub room : words ≤ length image
  pub counted : (from : ℕ) → from ≡ length (start_line text) + 1 → Counted (sheet_from (get_or scratch 0 0) text from) lines (take words image)
  pub listing : (from : ℕ) → from ≡ length (start_line text) + 1 → lines_text 1 (addresses (sheet_from (get_or scratch 0 0) text from)) (take words image) ≡ printed

-- ---- the first place
first_address_lem : (a : ℕ) (cs : List ℕ) → 1 ≤ length cs → get_or (addresses_from a cs) 0 0 ≡ a
first_address_lem a [] h = absurd (omega arith)
first_address_lem a (c ∷ cs) h = refl

over_first : (x s : List ℕ) → 1 ≤ length x → get_or (over x s) 0 0 ≡ get_or x 0 0
over_first [] s h = absurd (omega arith)
over_first (a ∷ x) s h = refl

module _ (text v s : List ℕ) (e : outcome_of sparse text (length s) (length v) ≡ in_order) where
  abbrev S : Sheet
  S = sheet_in text

  some_lines : 1 ≤ line_count S
  some_lines = count_some text (accepted text (start_in text) (length s) (length v) e).sheet

  abbrev held : List ℕ
  held = sparse.held (addresses S)

  some_held : 1 ≤ length held
  some_held = omega (arith, sparse-filled.places (addresses S), sheet_places text, some_lines)

  held_first : get_or (over held s) 0 0 ≡ S.start
  held_first =
      over_first held s some_held ∙ firsts_at (addresses S) 0 (omega (arith, sheet_places text, some_lines))
      ∙ first_address_lem S.start (counts S) (omega (arith, counts_length S, some_lines))

  -- ---- the lines in the text
  module _ (from : ℕ) (f : from ≡ length (start_line text) + 1) where
    sheet_from_lem : sheet_from (get_or (over held s) 0 0) text from ≡ S
    sheet_from_lem = rw (held_first, lines_from text from f)

  sizes_in_order : sizing S.lines ≡ in_order
  unfolding outcome_at
  sizes_in_order = (both_in_order (sizing S.lines) _ (both_in_order (opening sparse text (start_in text) (length s)) _ e).1).0

  words_front : take (word_count S) (over (image S) v) ≡ image S
  words_front = take_at (image S) (drop (length (image S)) v) (word_count S) (image-counts sparse text (start_in text) (length s) (length v) e)

  counted_sheet : Counted S (line_count S) (image S)
  counted_sheet =
      let a = accepted text (start_in text) (length s) (length v) e in
      record {
        all = refl;
        few = count_most text a.sheet;
        sized = sizes_in_order;
        ends = a.lines.measured.ends;
        counted = image-counts sparse text (start_in text) (length s) (length v) e;
      }

  accepted_listable : Listable text (over held s) (over (image S) v) (line_count S) (word_count S) (printed_of sparse text (length s) (length v))
  accepted_listable =
      record {
        first = rw length-append (omega (arith, some_held));
        room = rw length-append (omega (arith, image-counts sparse text (start_in text) (length s) (length v) e));
        counted = λ from f. rw (sheet_from_lem from f, words_front) counted_sheet;
        listing = λ from f.
            ap (λ (t : Sheet). lines_text 1 (addresses t) (take (word_count S) (over (image S) v))) (sheet_from_lem from f)
            ∙ ap (λ (ws : List ℕ). lines_text 1 (addresses S) ws) words_front ∙ listing_text sparse text (length s) (length v) e;
      }

module _ {text v s v' s' : List ℕ} {r : Listed} (t : Translated sparse text v s v' s' r) where
  pub listable : r.number ≡ 0 → Listable text s' v' r.lines r.words (printed_of sparse text (length s) (length v))
  unfolding listed_of image_of scratch_of
  listable h = go (outcome_of sparse text (length s) (length v)) refl (outcome_sound sparse text (start_in text) (length s) (length v))
    where
      go : (w : Outcome) → outcome_of sparse text (length s) (length v) ≡ w → Sound w
          → Listable text s' v' r.lines r.words (printed_of sparse text (length s) (length v))
      go in_order e n = rw (t.listed, t.image, t.scratch, e) (accepted_listable text v s e)
      go (refused number line detail value) e n = absurd (n (rw (t.listed, e) at h))
