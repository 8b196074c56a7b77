-- What is printed of a sheet, from the translator's answer and what is then written. Assumes nothing.
use Rattle.std.specs.Prelude.{◌≡◌, List, ℕ, ◌+◌, ◌^◌, ◌≤◌, length, take, drop}
use Rattle.std.proofs.Math.Path.{refl}
use Rattle.std.proofs.Common.{sym, ap, ◌∙◌, arith, length-append, take_at}
use Rattle.std.proofs.Math.Option.{Option, some, none, get_or}
use Rattle.base_facts.specs.Tests.{leb-true}
use Rattle.sheet_spec.specs.declared.Listed.{Listed}
use Rattle.sheet_spec.specs.Sheet.{start_line, start_of, start_in, sheet_in, word_count, end_of, image}
use Rattle.sheet_spec.specs.Translate.{full, Outcome, in_order, refused, outcome_of, listed_of, over, image_of}
use Rattle.sheet_spec.specs.Promises.{Translated}
use Rattle.sheet_size_facts.specs.Outcomes.{accepted}
use Rattle.sheet_size_facts.specs.Counted.{image-counts}
use Rattle.sheet_start.specs.StartLine.{start_at}
use Rattle.sheet_size_facts.specs.OutcomeLaws.{Sound, outcome_sound}
use Rattle.srecord_spec.specs.declared.Written.{Written}
use Rattle.srecord_spec.specs.Write.{image_text, write_outcome, written_of, text_left}
use Rattle.srecord_spec.specs.Printed.{sheet_records}
use Rattle.srecord_spec.specs.Promises.{RecordsWritten, PrintedInto}
use Rattle.srecord_write.specs.LengthLaws.{text_length_lem}

-- ---- an image that has room
whole-written : {start : ℕ} {image out left : List ℕ} {w : Written} → RecordsWritten start image out left w → end_of start (length image) ≤ 2 ^ 32
    → length (image_text start image) ≤ length out → PrintedInto (image_text start image) out left w.count
unfolding written_of text_left write_outcome
whole-written {start} {image} {out} {left} {w} p h g =
    let e = leb-true (end_of start (length image)) (2 ^ 32) h in
    let f = leb-true (length (image_text start image)) (length out) g in
    let q : 0 + length (image_text start image) ≡ length (image_text start image) = omega arith in
    let c : w.count ≡ length (image_text start image) = ap (λ (r : Written). r.count) (rw (e, f) at p.answer) in
    record { count = c; buffer = rw q (rw (e, f) at p.text) }

-- ---- the start
start_is : (o : Option ℕ) → (start_at o).address ≡ get_or o 0
start_is (some n) = refl
start_is none = refl

-- ---- an accepted sheet
pub record Recordable (text v v' : List ℕ) (places words : ℕ) : Type 0 where
  pub room : words ≤ length v'
  pub image_words : take words v' ≡ image (sheet_in text)
  pub few : words ≤ length v
  pub counted : length (image (sheet_in text)) ≡ words
  pub ends : end_of (start_in text) (length (image (sheet_in text))) ≤ 2 ^ 32
  pub printed : image_text (start_in text) (image (sheet_in text)) ≡ sheet_records text places (length v)

accepted_recordable : (text v s : List ℕ) → outcome_of full text (length s) (length v) ≡ in_order
    → Recordable text v (over (image (sheet_in text)) v) (length s) (word_count (sheet_in text))
unfolding sheet_records
accepted_recordable text v s e =
    let a = (accepted text (start_in text) (length s) (length v) e).lines in
    let m = image-counts full text (start_in text) (length s) (length v) e in
    record {
      room = rw length-append (omega (arith, m));
      image_words = take_at (image (sheet_in text)) (drop (length (image (sheet_in text))) v) (word_count (sheet_in text)) m;
      few = a.image;
      counted = m;
      ends = rw m a.measured.ends;
      printed = rw e;
    }

module _ {text v s v' s' : List ℕ} {r : Listed} (t : Translated full text v s v' s' r) where
  pub recordable : r.number ≡ 0 → Recordable text v v' (length s) r.words
  unfolding listed_of image_of
  recordable h = go (outcome_of full text (length s) (length v)) refl (outcome_sound full text (start_in text) (length s) (length v))
    where
      go : (w : Outcome) → outcome_of full text (length s) (length v) ≡ w → Sound w → Recordable text v v' (length s) r.words
      go in_order e n = rw (t.listed, t.image, e) (accepted_recordable text v s e)
      go (refused number line detail value) e n = absurd (n (rw (t.listed, e) at h))

-- its S-records, written from its start
pub recorded : (text v : List ℕ) {v' out left : List ℕ} {places words : ℕ} {w : Written} (start : ℕ) → Recordable text v v' places words → length v ≡ 16384 → 80911 ≤ length out
    → start ≡ (start_at (start_of (start_line text))).address → RecordsWritten start (take words v') out left w
    → PrintedInto (sheet_records text places (length v)) out left w.count × (w.count ≤ length out)
recorded text v {v'} {out} {left} {places} {words} {w} start r n h e p =
    let s : start ≡ start_in text = e ∙ start_is (start_of (start_line text)) in
    let q : RecordsWritten (start_in text) (image (sheet_in text)) out left w = rw (s, r.image_words) at p in
    let l = text_length_lem (start_in text) (image (sheet_in text)) in
    let f : length (image_text (start_in text) (image (sheet_in text))) ≤ length out = omega (arith, l, r.counted, r.few) in
    let o = whole-written q r.ends f in
    (rw (sym r.printed) o, omega (arith, o.count))
