-- What is printed, from the translator's answer. Assumes nothing.
use Rattle.std.specs.Prelude.{◌≡◌, Bool, true, false, ◌&&◌, List, ℕ, suc, ◌≤◌, ◌<◌, length, take, drop, get_or, leb, eqb}
use Rattle.std.proofs.Math.Path.{refl}
use Rattle.std.proofs.Common.{sym, arith, length-append, take_at, le-leb}
use Rattle.std.proofs.lemmas.Bool.{lt-leb}
use Rattle.base_spec.specs.Written.{placed}
use Rattle.base_text.specs.Wrote.{Wrote}
use Rattle.sheet_spec.specs.declared.Listed.{Listed}
use Rattle.sheet_spec.specs.Sheet.{is_sheet, feeds, last, Sheet, start_in, sheet_in, line_count, counts, word_count, line_at, addresses, encoded, image}
use Rattle.sheet_spec.specs.Translate.{ScratchRule, full, Outcome, in_order, refused, outcome_at, outcome_of, listed_of, over, image_of, scratch_of}
use Rattle.sheet_size_facts.specs.Image.{Counts}
use Rattle.sheet_size_facts.specs.Outcomes.{counts_length, count_half, accepted}
use Rattle.sheet_size_facts.specs.Counted.{line_counts, image-counts}
use Rattle.sheet_facts.specs.SheetLaws.{count_most}
use Rattle.sheet_facts.specs.Lines.{line_grammar}
use Rattle.sheet_passes.specs.PassLaws.{counted_most}
use Rattle.sheet_spec.specs.Promises.{Translated}
use Rattle.sheet_size_facts.specs.OutcomeLaws.{Sound, outcome_sound}
use Rattle.sheet_translate.specs.PlaceLaws.{sheet_places}
use Rattle.print_spec.specs.Printed.{listing_of, printed_of, Put, Printed, too_long_input}
use Rattle.sheet_print.specs.Listing.{lines_text, Laid, wide_by, not_wide, PrintedWide}
use Rattle.sheet_print.specs.ListingLaws.{listing_is, laid}

-- ---- an accepted sheet
module _ (rule : ScratchRule) (text : List ℕ) (places room : ℕ) (e : outcome_of rule text places room ≡ in_order) where
  abbrev S : Sheet
  S = sheet_in text

  counted_words : Counts (counts S) (encoded S)
  counted_words = line_counts S (line_grammar text) room (accepted text (start_in text) places room e).lines

  few_words : (k : ℕ) → k < length (counts S) → get_or (counts S) k 0 ≤ 11
  few_words k h =
      let q : suc k ≤ line_count S = omega (arith, counts_length S) in
      omega (arith, count_half S (suc k) (omega arith) q, counted_most (line_count S) (line_at S (suc k)))

  listing_laid : Laid (addresses S) (image S)
  listing_laid = laid S.start (counts S) (encoded S) counted_words few_words

  pub listing_text : lines_text 1 (addresses S) (image S) ≡ printed_of rule text places room
  unfolding printed_of listing_of
  listing_text = rw e (listing_is 1 S.start (counts S) (encoded S) counted_words)

-- what is printed of an accepted sheet, from the scratch and the image that the translator leaves
pub record Listable (scratch image : List ℕ) (lines words : ℕ) (printed : List ℕ) : Type 0 where
  pub held : lines ≤ length scratch
  pub room : words ≤ length image
  pub few : length (take lines scratch) ≤ 4096
  pub laid : Laid (take lines scratch) (take words image)
  pub listing : lines_text 1 (take lines scratch) (take words image) ≡ printed

accepted_listable : (text v s : List ℕ) → outcome_of full text (length s) (length v) ≡ in_order
    → Listable (over (addresses (sheet_in text)) s) (over (image (sheet_in text)) v) (line_count (sheet_in text)) (word_count (sheet_in text)) (printed_of full text (length s) (length v))
accepted_listable text v s e =
    let a = accepted text (start_in text) (length s) (length v) e in
    let n = sheet_places text in
    let m = image-counts full text (start_in text) (length s) (length v) e in
    let scratch = take_at (addresses (sheet_in text)) (drop (length (addresses (sheet_in text))) s) (line_count (sheet_in text)) n in
    let image = take_at (image (sheet_in text)) (drop (length (image (sheet_in text))) v) (word_count (sheet_in text)) m in
    record {
      held = rw length-append (omega (arith, n));
      room = rw length-append (omega (arith, m));
      few = rw scratch (omega (arith, n, count_most text a.sheet));
      laid = rw (scratch, image) (listing_laid full text (length s) (length v) e);
      listing = rw (scratch, image) (listing_text full text (length s) (length v) e);
    }

module _ {text v s v' s' : List ℕ} {r : Listed} (t : Translated full text v s v' s' r) where
  pub listable : r.number ≡ 0 → Listable s' v' r.lines r.words (printed_of full text (length s) (length v))
  unfolding listed_of image_of scratch_of
  listable h = go (outcome_of full text (length s) (length v)) refl (outcome_sound full text (start_in text) (length s) (length v))
    where
      go : (w : Outcome) → outcome_of full text (length s) (length v) ≡ w → Sound w
          → Listable s' v' r.lines r.words (printed_of full text (length s) (length v))
      go in_order e n = rw (t.listed, t.image, t.scratch, e) (accepted_listable text v s e)
      go (refused number line detail value) e n = absurd (n (rw (t.listed, e) at h))

-- a text from the first place on
pub from_first : {rule : ScratchRule} {text v s out v' s' out' t : List ℕ} {r : Listed} {n : ℕ} → Translated rule text v s v' s' r → Wrote out 0 t out' n
    → t ≡ printed_of rule text (length s) (length v) → n ≤ 282624 → PrintedWide rule text v s out v' s' out' n
from_first t w e h = record { count = rw (sym e) (omega (arith, w.next)); buffer = rw (sym e) w.image; few = h; image = t.image; scratch = t.scratch }

-- ---- by the buffer
pub put_wide : (t out out' : List ℕ) (n : ℕ) → 282624 ≤ length out → (n ≡ length t) × (out' ≡ placed out 0 t) → Put t out out' (wide_by n)
put_wide t out out' n h p = let e = le-leb 282624 (length out) h in record { answer = rw (e, p.0); buffer = rw e p.1 }

pub put_nothing : (t out : List ℕ) → length out < 282624 → Put t out out not_wide
put_nothing t out h = let e = lt-leb 282624 (length out) h in record { answer = rw e; buffer = rw e }

pub printed_wide : {rule : ScratchRule} {text v s out v' s' out' : List ℕ} {n : ℕ} → 282624 ≤ length out → PrintedWide rule text v s out v' s' out' n
    → Printed rule text v s out v' s' out' (wide_by n) × (n ≤ 282624)
printed_wide {rule} {text} {v} {s} {out} {v'} {s'} {out'} {n} h p =
    let e = le-leb 282624 (length out) h in
    (record { put = put_wide (printed_of rule text (length s) (length v)) out out' n h (p.count, p.buffer); image = rw e p.image; scratch = rw e p.scratch }, p.few)

pub printed_nothing : (rule : ScratchRule) (text v s out : List ℕ) → length out < 282624 → Printed rule text v s out v s out not_wide
printed_nothing rule text v s out h =
    let e = lt-leb 282624 (length out) h in
    record { put = put_nothing (printed_of rule text (length s) (length v)) out h; image = rw e; scratch = rw e }

-- a text of more than 65,536 bytes is refused with 10, whatever is lent
sheet_long : (text : List ℕ) → 65536 < length text → is_sheet text ≡ false
sheet_long text h = rw (lt-leb (length text) 65536 h) (long (leb 1 (length text)))
  where
    long : (b : Bool) → (((b && false) && eqb (last text) 10) && leb 2 (feeds text)) && leb (feeds text) 4097 ≡ false
    long true = refl
    long false = refl

pub long-refused : (rule : ScratchRule) (text : List ℕ) (places room : ℕ) → 65536 < length text → printed_of rule text places room ≡ too_long_input
unfolding printed_of outcome_at
long-refused rule text places room h = rw (sheet_long text h)
