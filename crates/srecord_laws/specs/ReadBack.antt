-- What is written is read back. Assumes nothing.
use Rattle.std.specs.Prelude.{◌≡◌, refl, true, List, [], ◌∷◌, ◌++◌, ℕ, zero, suc, ◌+◌, ◌*◌, ◌-◌, ◌/◌, ◌%◌, ◌^◌, ◌≤◌, ◌<◌, min, length, take, drop}
use Rattle.std.proofs.Common.{sym, ap, ◌∙◌, subst, arith, length-take, length-drop}
use Rattle.base_facts.specs.Tests.{never}
use Rattle.encode_spec.specs.Encode as bytes
use Rattle.m68k_facts.specs.Laws as m68k
use Rattle.sheet_spec.specs.Sheet.{end_of}
use Rattle.sheet_spec.specs.Translate.{in_order}
use Rattle.srecord_spec.specs.Record.{address_width, closes, checksum_of}
use Rattle.srecord_spec.specs.Write.{summed, data_records, image_text}
use Rattle.srecord_spec.specs.Read.{paired_words, start_read, image_read, read_outcome}
use Rattle.srecord_spec.specs.Promises.{AllBelow, InForm, Consecutive, record_words, Recorded}
use Rattle.srecord_facts.specs.Bytes.{below_take, below_drop, twice}
use Rattle.srecord_facts.specs.Lines.{address_data_length}
use Rattle.srecord_laws.specs.TextLaws.{accepted_complete}

-- ---- words and bytes
words_back : (ws : List ℕ) → paired_words (bytes.bytes_in ws) ≡ ws
words_back [] = refl
words_back (w ∷ ws) = let e : w / 256 * 256 + w % 256 ≡ w = omega arith in λ i. e i ∷ words_back ws i

bytes_below : (ws : List ℕ) → AllBelow 65536 ws → AllBelow 256 (bytes.bytes_in ws)
bytes_below [] h = tt
bytes_below (w ∷ ws) h = let l = h.0 in (omega arith, (omega arith, bytes_below ws h.1))

paired_split : (k : ℕ) (bs : List ℕ) → paired_words (take (twice k) bs) ++ paired_words (drop (twice k) bs) ≡ paired_words bs
paired_split zero bs = refl
paired_split (suc k) [] = refl
paired_split (suc k) (a ∷ []) = refl
paired_split (suc k) (a ∷ (b ∷ bs)) = ap (λ (ws : List ℕ). (a * 256 + b) ∷ ws) (paired_split k bs)

-- ---- written records
summed_form : (t a : ℕ) (bs : List ℕ) → 1 ≤ address_width t → a < 256 ^ address_width t → AllBelow 256 bs → length bs % 2 ≡ 0 → (closes t ≡ true → bs ≡ [])
    → address_width t + length bs < 255 → InForm (summed t a bs)
unfolding summed checksum_of
summed_form t a bs k n h e c l =
    record { known = k; address = n; bytes = h; even = e; none = c; count = omega (arith, address_data_length (summed t a bs)); checksum = omega arith }

pub summed_sum : (t a : ℕ) (bs : List ℕ) → (summed t a bs).checksum ≡ checksum_of (summed t a bs)
unfolding summed checksum_of
summed_sum t a bs = refl

-- the next record is due where this one ends
next_due : (n a m : ℕ) (bs : List ℕ) → (0 < n → m ≡ 32) → Consecutive (a + 32) (data_records n (a + 32) bs) → Consecutive (a + m) (data_records n (a + 32) bs)
next_due zero a m bs e f = tt
next_due (suc n) a m bs e f = let q : a + 32 ≡ a + m = omega (arith, e (omega arith)) in subst (λ (x : ℕ). Consecutive x (data_records (suc n) (a + 32) bs)) q f

data_follow : (n a : ℕ) (bs : List ℕ) → length bs ≤ 32 * n → 32 * n < length bs + 32 → length bs % 2 ≡ 0 → AllBelow 256 bs → (0 < n → a + length bs ≤ 2 ^ 32)
    → Consecutive a (data_records n a bs)
unfolding summed
data_follow zero a bs l g e h b = tt
data_follow (suc n) a bs l g e h b =
    let some : a + length bs ≤ 2 ^ 32 = b (omega arith) in
    let t : length (take 32 bs) ≡ min 32 (length bs) = length-take 32 bs in
    let d : length (drop 32 bs) ≡ length bs - 32 = length-drop 32 bs in
    let f : InForm (summed 3 a (take 32 bs)) = summed_form 3 a (take 32 bs) (omega arith) (omega arith) (below_take 256 32 bs h) (omega arith) (λ c. never c) (omega arith) in
    let on = data_follow n (a + 32) (drop 32 bs) (omega arith) (omega arith) (omega arith) (below_drop 256 32 bs h) (λ p. omega arith) in
    (f, summed_sum 3 a (take 32 bs), refl, refl, omega arith, next_due n a (length (take 32 bs)) (drop 32 bs) (λ p. omega arith) on)

data_words_lem : (n a : ℕ) (bs : List ℕ) → length bs ≤ 32 * n → record_words (data_records n a bs) ≡ paired_words bs
unfolding summed
data_words_lem zero a [] l = refl
data_words_lem zero a (b ∷ bs) l = absurd (omega arith)
data_words_lem (suc n) a bs l =
    ap (λ (ws : List ℕ). paired_words (take 32 bs) ++ ws) (data_words_lem n (a + 32) (drop 32 bs) (omega (arith, length-drop 32 bs))) ∙ paired_split 16 bs

-- ---- read back
pub image_recorded : (start : ℕ) (image : List ℕ) → start < 2 ^ 32 → AllBelow 65536 image → end_of start (length image) ≤ 2 ^ 32
    → Recorded (image_text start image) start image
unfolding image_text summed
image_recorded start image s h e =
    let bs = bytes.bytes_in image in
    let n = (length bs + 31) / 32 in
    let l : length bs ≡ 2 * length image = m68k.bytes_length image in
    record {
      data_records_lem = data_records n start bs;
      last = summed 7 start [];
      spelled = refl;
      consecutive = data_follow n start bs (omega arith) (omega arith) (omega arith) (bytes_below image h) (λ p. omega arith);
      form = summed_form 7 start [] (omega arith) s tt refl (λ c. refl) (omega arith);
      sum = summed_sum 7 start [];
      closing = refl;
      again = refl;
      image = sym (data_words_lem n start bs (omega arith) ∙ words_back image);
    }

pub read-written : (start : ℕ) (image : List ℕ) (room : ℕ) → start < 2 ^ 32 → AllBelow 65536 image → end_of start (length image) ≤ 2 ^ 32 → length image ≤ room
    → (read_outcome (image_text start image) room ≡ in_order) × (start_read (image_text start image) ≡ start) × (image_read (image_text start image) ≡ image)
read-written start image room s h e g = accepted_complete (image_text start image) start image room (image_recorded start image s h e) g
