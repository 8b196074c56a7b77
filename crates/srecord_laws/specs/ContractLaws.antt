-- The answers of `write_records` and `read_records`, and what they leave, from what a caller gives. Assumes nothing.
use Rattle.std.specs.Prelude.{◌≡◌, refl, List, ℕ, ◌+◌, ◌*◌, ◌/◌, ◌^◌, ◌≤◌, ◌<◌, ℤ, pos, length, take, drop}
use Rattle.std.proofs.Common.{sym, ◌∙◌, subst, arith, take_at}
use Rattle.std.proofs.Math.Path.{ap}
use Rattle.base_facts.specs.Tests.{Lt, less, past, lt?, leb-true, leb_not}
use Rattle.sheet_spec.specs.Sheet.{end_of}
use Rattle.sheet_spec.specs.Translate.{Outcome, in_order, refused, over, image_as}
use Rattle.srecord_spec.specs.declared.Written.{Written}
use Rattle.srecord_spec.specs.declared.Loaded.{Loaded}
use Rattle.srecord_spec.specs.Write.{image_text, write_outcome, written_as, written_of, text_left}
use Rattle.srecord_spec.specs.Read.{start_read, image_read, text_outcome, read_outcome, loaded_as, loaded_of, image_left}
use Rattle.srecord_spec.specs.Promises.{RecordsWritten, RecordsRead, AllBelow, Recorded}
use Rattle.srecord_facts.specs.Refused.{Plain, plain-read}
use Rattle.srecord_write.specs.Text.{text_length}
use Rattle.srecord_write.specs.LengthLaws.{text_length_lem}
use Rattle.srecord_laws.specs.TextLaws.{accepted_sound, accepted_complete}
use Rattle.srecord_laws.specs.ReadBack.{image_recorded}

-- ---- no refusal has number 0
pub refused-number : (text : List ℕ) (room : ℕ) → (loaded_of text room).number ≡ 0 → read_outcome text room ≡ in_order
unfolding loaded_of
refused-number text room = go (read_outcome text room) (plain-read text room)
  where
    go : (o : Outcome) → Plain o → (loaded_as o (start_read text) (length (image_read text))).number ≡ 0 → o ≡ in_order
    go in_order p z = refl
    go (refused number line detail value) p z = absurd (p.0 z)

-- ---- reading
-- what an accepted text answers and leaves
module _ {text v v' : List ℕ} {r : Loaded} (d : RecordsRead text v v' r) (e : read_outcome text (length v) ≡ in_order) where
  read_answer : r ≡ record { start = start_read text; words = length (image_read text); number = 0; line = 0 }
  unfolding loaded_of
  read_answer = d.answer ∙ ap (λ (o : Outcome). loaded_as o (start_read text) (length (image_read text))) e

  read_left : v' ≡ over (image_read text) v
  unfolding image_left
  read_left = d.image ∙ ap (λ (o : Outcome). image_as o (image_read text) v) e

  read_words : take r.words v' ≡ image_read text
  read_words =
      let n : r.words ≡ length (image_read text) = ap (λ (x : Loaded). x.words) read_answer in
      (λ i. take (n i) (read_left i)) ∙ take_at (image_read text) (drop (length (image_read text)) v) (length (image_read text)) refl

  read_recorded : Recorded text r.start (take r.words v') × (r.words ≤ length v)
  read_recorded =
      let s = accepted_sound text (length v) e in
      let a : r.start ≡ start_read text = ap (λ (x : Loaded). x.start) read_answer in
      let n : r.words ≡ length (image_read text) = ap (λ (x : Loaded). x.words) read_answer in
      (subst (λ (x : ℕ). Recorded text x (take r.words v')) (sym a) (subst (Recorded text (start_read text)) (sym read_words) s.0), omega (arith, n, s.1))

-- number 0 exactly where the text is as 02 wants it and its words have room
pub read_exactly : {text v v' : List ℕ} {r : Loaded} → RecordsRead text v v' r
    → (r.number ≡ 0 → Recorded text r.start (take r.words v') × (r.words ≤ length v))
    × ((start : ℕ) (words : List ℕ) → Recorded text start words → length words ≤ length v
    → (r ≡ record { start = start; words = length words; number = 0; line = 0 }) × (v' ≡ over words v))
read_exactly {text} {v} d = (
  λ z. read_recorded d (refused-number text (length v) (sym (ap (λ (x : Loaded). x.number) d.answer) ∙ z)),
  λ start words c h.
      let a = accepted_complete text start words (length v) c h in
      (read_answer d a.0 ∙ (λ i. record { start = a.1 i; words = length (a.2 i); number = 0; line = 0 }), read_left d a.0 ∙ ap (λ (ws : List ℕ). over ws v) a.2),
)

-- ---- writing
write_accepted : (start : ℕ) (image : List ℕ) (room : ℕ) → end_of start (length image) ≤ 2 ^ 32 → text_length (length image) ≤ room
    → write_outcome start image room ≡ in_order
unfolding write_outcome
write_accepted start image room h g =
    rw (leb-true (end_of start (length image)) (2 ^ 32) h, leb-true (length (image_text start image)) room (rw text_length_lem g))

write_above : (start : ℕ) (image : List ℕ) (room : ℕ) → 2 ^ 32 < end_of start (length image) → write_outcome start image room ≡ refused 9 0 0 (pos 0)
unfolding write_outcome
write_above start image room h = rw (leb_not (end_of start (length image)) (2 ^ 32) h)

write_short : (start : ℕ) (image : List ℕ) (room : ℕ) → end_of start (length image) ≤ 2 ^ 32 → room < text_length (length image)
    → write_outcome start image room ≡ refused 11 0 0 (pos 0)
unfolding write_outcome
write_short start image room h g =
    rw (leb-true (end_of start (length image)) (2 ^ 32) h, leb_not (length (image_text start image)) room (rw text_length_lem g))

module _ {start : ℕ} {image t t' : List ℕ} {w : Written} (d : RecordsWritten start image t t' w) where
  write_answer : (o : Outcome) → write_outcome start image (length t) ≡ o → w ≡ written_as o (text_length (length image))
  unfolding written_of
  write_answer o e = d.answer ∙ (λ i. written_as (e i) (text_length_lem start image i))

  write_left : (o : Outcome) → write_outcome start image (length t) ≡ o → t' ≡ image_as o (image_text start image) t
  unfolding text_left
  write_left o e = d.text ∙ ap (λ (x : Outcome). image_as x (image_text start image) t) e

  write_number : w.number ≡ 0 → (end_of start (length image) ≤ 2 ^ 32) × (text_length (length image) ≤ length t)
  write_number z = go (lt? (2 ^ 32) (end_of start (length image))) (lt? (length t) (text_length (length image)))
    where
      go : Lt (2 ^ 32) (end_of start (length image)) → Lt (length t) (text_length (length image))
          → (end_of start (length image) ≤ 2 ^ 32) × (text_length (length image) ≤ length t)
      go (less h x) s =
          let n : w.number ≡ 9 = ap (λ (x : Written). x.number) (write_answer (refused 9 0 0 (pos 0)) (write_above start image (length t) h)) in
          absurd (omega (arith, n, z))
      go (past h x) (less g y) =
          let n : w.number ≡ 11 = ap (λ (x : Written). x.number) (write_answer (refused 11 0 0 (pos 0)) (write_short start image (length t) h g)) in
          absurd (omega (arith, n, z))
      go (past h x) (past g y) = (h, g)

-- number 0 exactly where the end is at most 2^32 and the lent text has room
pub write_exactly : {start : ℕ} {image t t' : List ℕ} {w : Written} → RecordsWritten start image t t' w
    → let end = end_of start (length image) in
    let size = 15 * ((length image + 15) / 16 + 1) + 4 * length image in
    (w.number ≡ 0 → (end ≤ 2 ^ 32) × (size ≤ length t))
    × (end ≤ 2 ^ 32 → size ≤ length t → (w ≡ record { count = size; number = 0 }) × (t' ≡ over (image_text start image) t))
    × (2 ^ 32 < end → (w ≡ record { count = 0; number = 9 }) × (t' ≡ t))
    × (end ≤ 2 ^ 32 → length t < size → (w ≡ record { count = 0; number = 11 }) × (t' ≡ t))
write_exactly {start} {image} {t} d = (
  write_number d,
  (λ h g. let e = write_accepted start image (length t) h g in (write_answer d in_order e, write_left d in_order e)),
  (λ h. let e = write_above start image (length t) h in (write_answer d (refused 9 0 0 (pos 0)) e, write_left d (refused 9 0 0 (pos 0)) e)),
  λ h g. let e = write_short start image (length t) h g in (write_answer d (refused 11 0 0 (pos 0)) e, write_left d (refused 11 0 0 (pos 0)) e),
)

-- ---- what was written is read
pub written_read : {start : ℕ} {image t t' v v' : List ℕ} {w : Written} {r : Loaded} → RecordsWritten start image t t' w
    → RecordsRead (take w.count t') v v' r → start < 2 ^ 32 → AllBelow 65536 image → end_of start (length image) ≤ 2 ^ 32
    → 15 * ((length image + 15) / 16 + 1) + 4 * length image ≤ length t → length image ≤ length v
    → (r ≡ record { start = start; words = length image; number = 0; line = 0 }) × (v' ≡ over image v)
written_read {start} {image} {t} {t'} {v} {v'} {w} d c s h e g l =
    let text = image_text start image in
    let x = (write_exactly d).1 e g in
    let n : w.count ≡ text_length (length image) = ap (λ (y : Written). y.count) x.0 in
    let k : take w.count t' ≡ text = (λ i. take (n i) (x.1 i)) ∙ take_at text (drop (length text) t) (text_length (length image)) (text_length_lem start image) in
    (read_exactly c).1 start image (subst (λ (y : List ℕ). Recorded y start image) (sym k) (image_recorded start image s h e)) l

-- ---- reading depends on the text and the room alone
pub same-room : {text v v' w w' : List ℕ} {r s : Loaded} → RecordsRead text v v' r → RecordsRead text w w' s → length v ≡ length w
    → (r ≡ s) × (take r.words v' ≡ take r.words w')
unfolding loaded_of
same-room {text} {v} {v'} {w} {w'} {r} {s} c d e = (q, go (read_outcome text (length v)) refl)
  where
    q : r ≡ s
    q = c.answer ∙ ap (loaded_of text) e ∙ sym d.answer

    go : (o : Outcome) → read_outcome text (length v) ≡ o → take r.words v' ≡ take r.words w'
    go in_order f =
        let g : read_outcome text (length w) ≡ in_order = ap (read_outcome text) (sym e) ∙ f in
        read_words c f ∙ sym (read_words d g) ∙ ap (λ (x : Loaded). take x.words w') (sym q)
    go (refused number line detail value) f =
        let n : r.words ≡ 0 = ap (λ (x : Loaded). x.words) (c.answer ∙ ap (λ (o : Outcome). loaded_as o (start_read text) (length (image_read text))) f) in
        rw n refl

-- it is the same in any room that is enough
pub room_enough : (text : List ℕ) (m n : ℕ) → length (image_read text) ≤ m → length (image_read text) ≤ n → loaded_of text m ≡ loaded_of text n
unfolding loaded_of read_outcome
room_enough text m n h g = rw (leb-true (length (image_read text)) m h, leb-true (length (image_read text)) n g)

-- a text that is refused is so in any room; another, in a room too short, outside records
pub room-short : (text : List ℕ) (n : ℕ)
    → ((number line detail : ℕ) (value : ℤ) → text_outcome text ≡ refused number line detail value
    → loaded_of text n ≡ record { start = 0; words = 0; number = number; line = line })
    × (text_outcome text ≡ in_order → n < length (image_read text) → loaded_of text n ≡ record { start = 0; words = 0; number = 11; line = 0 })
unfolding loaded_of read_outcome
room-short text n = ((λ number line detail value e. rw e), λ e h. rw (e, leb_not (length (image_read text)) n h))

-- a refusal leaves the image as it was
pub read_unchanged : {text v v' : List ℕ} {r : Loaded} → RecordsRead text v v' r → (r.number ≡ 0 → ⊥) → v' ≡ v
unfolding loaded_of image_left
read_unchanged {text} {v} {v'} {r} w h = go (read_outcome text (length v)) refl
  where
    go : (o : Outcome) → read_outcome text (length v) ≡ o → v' ≡ v
    go in_order e = absurd (h (rw (w.answer, e)))
    go (refused number line detail value) e = rw (w.image, e)
