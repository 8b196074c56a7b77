-- A text is accepted exactly where it is the text of records in order. Assumes nothing.
use Rattle.std.specs.Prelude.{◌≡◌, refl, Bool, true, false, cond, List, [], ◌∷◌, ◌++◌, map, ℕ, suc, ◌+◌, ◌/◌, ◌%◌, ◌^◌, ◌≤◌, ◌<◌, eqb, leb, length}
use Rattle.std.proofs.Common.{sym, ap, ◌∙◌, append_assoc, arith}
use Rattle.std.proofs.lemmas.List.{append_cancel_right}
use Rattle.base_facts.specs.Tests.{and-true, leb_is, leb-true, eqb_eq, eqb_is, eqb_not}
use Rattle.base_spec.specs.Parts.{onto, parts}
use Rattle.base_spec.specs.Written.{hex_digit}
use Rattle.base_text.specs.PartLaws.{parts_first}
use Rattle.sheet_spec.specs.Translate.{Outcome, in_order, and_then, require}
use Rattle.sheet_facts.specs.Listing.{refused_not, both_in_order, require_true}
use Rattle.srecord_spec.specs.Record.{SRecord, closes, checksum_of, record_bytes, digits_of, spell_record, record_in, is_record}
use Rattle.srecord_spec.specs.Write.{text_of}
use Rattle.srecord_spec.specs.Read.{require_at, is_end, record_outcome, is_next, records_from, first_address, paired_words, words_in, start_read, image_read, text_outcome, read_outcome}
use Rattle.srecord_spec.specs.Promises.{InForm, Consecutive, record_words, Recorded}
use Rattle.srecord_facts.specs.Digits.{digit_above}
use Rattle.srecord_facts.specs.Lines.{no_bytes}
use Rattle.srecord_laws.specs.RecordLaws.{record_sound, record_complete}

-- ---- a text and its parts
no_feed : (d : ℕ) → d < 16 → eqb (hex_digit d) 10 ≡ false
no_feed d h = eqb_not (hex_digit d) 10 (λ e. omega (arith, digit_above d h))

parts_digits : (bs rest : List ℕ) → parts 10 (digits_of bs ++ (10 ∷ rest)) ≡ digits_of bs ∷ parts 10 rest
parts_digits [] rest = refl
parts_digits (b ∷ bs) rest = rw (no_feed (b / 16 % 16) (omega arith), no_feed (b % 16) (omega arith), parts_digits bs rest)

parts_record : (r : SRecord) (rest : List ℕ) → parts 10 (spell_record r ++ (10 ∷ []) ++ rest) ≡ spell_record r ∷ parts 10 rest
unfolding spell_record
parts_record r rest =
    let ds = digits_of (record_bytes r) in
    let e : eqb (48 + r.type) 10 ≡ false = eqb_not (48 + r.type) 10 (λ q. omega arith) in
    let a : parts 10 (ds ++ (10 ∷ []) ++ rest) ≡ ds ∷ parts 10 rest = ap (parts 10) (append_assoc ds (10 ∷ []) rest) ∙ parts_digits (record_bytes r) rest in
    rw (e, a)

-- the lines of records, and what stands behind the last LF
abbrev lines_for : List SRecord → List (List ℕ)
lines_for rs = map spell_record rs ++ ([] ∷ [])

parts_text : (rs : List SRecord) → parts 10 (text_of rs) ≡ lines_for rs
parts_text [] = refl
parts_text (r ∷ rs) = parts_record r (text_of rs) ∙ ap (λ (ps : List (List ℕ)). spell_record r ∷ ps) (parts_text rs)

-- each part with an LF behind it
abbrev ended : List (List ℕ) → List ℕ
ended [] = []
ended (p ∷ ps) = p ++ (10 ∷ ended ps)

ended-onto : (b : ℕ) (ps : List (List ℕ)) → 0 < length ps → ended (onto b ps) ≡ b ∷ ended ps
ended-onto b [] h = absurd (omega arith)
ended-onto b (p ∷ ps) h = refl

ended-parts : (text : List ℕ) → ended (parts 10 text) ≡ text ++ (10 ∷ [])
ended-parts [] = refl
ended-parts (b ∷ bs) = go (eqb b 10) refl (ended-parts bs)
  where
    go : (t : Bool) → eqb b 10 ≡ t → ended (parts 10 bs) ≡ bs ++ (10 ∷ []) → ended (cond t ([] ∷ parts 10 bs) (onto b (parts 10 bs))) ≡ b ∷ (bs ++ (10 ∷ []))
    go true e h = λ i. sym (eqb_eq b 10 e) i ∷ h i
    go false e h = ended-onto b (parts 10 bs) (omega (arith, ap length (parts_first 10 bs))) ∙ ap (λ (l : List ℕ). b ∷ l) h

ended-lines : (rs : List SRecord) → ended (lines_for rs) ≡ text_of rs ++ (10 ∷ [])
ended-lines [] = refl
ended-lines (r ∷ rs) =
    ap (λ (l : List ℕ). spell_record r ++ (10 ∷ l)) (ended-lines rs)
    ∙ sym (append_assoc (spell_record r) (10 ∷ []) (text_of rs ++ (10 ∷ [])))
    ∙ sym (append_assoc (spell_record r ++ (10 ∷ [])) (text_of rs) (10 ∷ []))

-- a text is known by its parts
text_is : (text : List ℕ) (rs : List SRecord) → parts 10 text ≡ lines_for rs → text ≡ text_of rs
text_is text rs e = append_cancel_right text (text_of rs) (10 ∷ []) (sym (ended-parts text) ∙ ap ended e ∙ ended-lines rs)

-- ---- records in order are accepted
lines_some : (rs : List SRecord) → 0 < length (lines_for rs)
lines_some [] = omega arith
lines_some (r ∷ rs) = omega arith

data_accepted : (start next k : ℕ) (r : SRecord) (ps : List (List ℕ)) → InForm r → r.checksum ≡ checksum_of r → closes r.type ≡ false → r.address ≡ next
    → next + length r.bytes ≤ 2 ^ 32 → 0 < length ps → records_from start next k (spell_record r ∷ ps) ≡ records_from start (next + length r.bytes) (suc k) ps
data_accepted start next k r [] f s c a b h = absurd (omega arith)
data_accepted start next k r (q ∷ qs) f s c a b h =
    rw (
      (record_complete r f).0,
      (record_complete r f).1,
      eqb_is r.checksum (checksum_of r) s,
      c,
      eqb_is r.address next a,
      leb-true (next + length r.bytes) (2 ^ 32) b,
    )

module _ (start : ℕ) (l : SRecord) (f : InForm l) (s : l.checksum ≡ checksum_of l) (c : closes l.type ≡ true) where
  closing_accepted : (next k : ℕ) → l.address ≡ start → records_from start next k (lines_for (l ∷ [])) ≡ in_order
  closing_accepted next k a = rw ((record_complete l f).0, (record_complete l f).1, eqb_is l.checksum (checksum_of l) s, c, eqb_is l.address start a)

  records_accepted : (next k : ℕ) (rs : List SRecord) → Consecutive next rs → l.address ≡ start → records_from start next k (lines_for (rs ++ (l ∷ []))) ≡ in_order
  records_accepted next k [] h a = closing_accepted next k a
  records_accepted next k (r ∷ rs) (g, t, o, e, b, h) a =
      data_accepted start next k r (lines_for (rs ++ (l ∷ []))) g t o e b (lines_some (rs ++ (l ∷ [])))
      ∙ records_accepted (next + length r.bytes) (suc k) rs h a

  first_is : (rs : List SRecord) → Consecutive start rs → l.address ≡ start → first_address (lines_for (rs ++ (l ∷ []))) ≡ start
  first_is [] h a = ap (λ (r : SRecord). r.address) (record_complete l f).1 ∙ a
  first_is (r ∷ rs) (g, t, o, e, b, h) a = ap (λ (x : SRecord). x.address) (record_complete r g).1 ∙ e

  words_are : (next : ℕ) (rs : List SRecord) → Consecutive next rs → words_in (lines_for (rs ++ (l ∷ []))) ≡ record_words rs
  words_are next [] h = rw ((record_complete l f).1, f.none c, no_bytes)
  words_are next (r ∷ rs) (g, t, o, e, b, h) =
      rw (record_complete r g).1 (ap (λ (ws : List ℕ). paired_words r.bytes ++ ws) (words_are (next + length r.bytes) rs h))

-- it is accepted, with the start and the words of its records
pub accepted_complete : (text : List ℕ) (start : ℕ) (words : List ℕ) (room : ℕ) → Recorded text start words → length words ≤ room
    → (read_outcome text room ≡ in_order) × (start_read text ≡ start) × (image_read text ≡ words)
unfolding read_outcome text_outcome
accepted_complete text start words room d h =
    let rs = d.data_records_lem in
    let l = d.last in
    let e : parts 10 text ≡ lines_for (rs ++ (l ∷ [])) = ap (parts 10) d.spelled ∙ parts_text (rs ++ (l ∷ [])) in
    let a : start_read text ≡ start = ap first_address e ∙ first_is start l d.form d.sum d.closing rs d.consecutive d.again in
    let w : image_read text ≡ words = ap words_in e ∙ words_are start l d.form d.sum d.closing start rs d.consecutive ∙ sym d.image in
    let o : text_outcome text ≡ in_order =
    (λ i. records_from (a i) (a i) 1 (e i)) ∙ records_accepted start l d.form d.sum d.closing start 1 rs d.consecutive d.again in
    let n : leb (length (image_read text)) room ≡ true = leb-true (length (image_read text)) room (rw w h) in
    ((λ i. and_then (o i) (require (n i) 11)), a, w)

-- ---- no other text is accepted
required : (k : ℕ) (b : Bool) (number : ℕ) → require_at k b number ≡ in_order → b ≡ true
required k true number e = refl
required k false number e = refused_not e

-- records in order, as the parts of a text
record Ordered (start next : ℕ) (ps : List (List ℕ)) : Type 0 where
  data_records_lem : List SRecord
  last : SRecord
  lines : ps ≡ lines_for (data_records_lem ++ (last ∷ []))
  consecutive : Consecutive next data_records_lem
  form : InForm last
  sum : last.checksum ≡ checksum_of last
  closing : closes last.type ≡ true
  again : last.address ≡ start
  words : words_in ps ≡ record_words data_records_lem

module _ (start next : ℕ) (p : List ℕ) (i : is_record p ≡ true) (s : (record_in p).checksum ≡ checksum_of (record_in p)) where
  ordered_last : (q : List ℕ) (qs : List (List ℕ)) → closes (record_in p).type ≡ true → (record_in p).address ≡ start → length q + length qs ≡ 0
      → Ordered start next (p ∷ (q ∷ qs))
  ordered_last [] [] c a e =
      let t = record_sound p i in
      record {
        data_records_lem = [];
        last = record_in p;
        lines = λ j. sym t.1 j ∷ [] ∷ [];
        consecutive = tt;
        form = t.0;
        sum = s;
        closing = c;
        again = a;
        words = rw (t.0.none c, no_bytes);
      }
  ordered_last [] (x ∷ xs) c a e = absurd (omega arith)
  ordered_last (x ∷ xs) qs c a e = absurd (omega arith)

  ordered_data : (ps : List (List ℕ)) → closes (record_in p).type ≡ false → is_next next (record_in p) ≡ true
      → Ordered start (next + length (record_in p).bytes) ps → Ordered start next (p ∷ ps)
  ordered_data ps c n v =
      let r = record_in p in
      let t = record_sound p i in
      let u = and-true (eqb r.address next) (leb (next + length r.bytes) (2 ^ 32)) n in
      record {
        data_records_lem = r ∷ v.data_records_lem;
        last = v.last;
        lines = λ j. sym t.1 j ∷ v.lines j;
        consecutive = (t.0, s, c, eqb_eq r.address next u.0, leb_is (next + length r.bytes) (2 ^ 32) u.1, v.consecutive);
        form = v.form;
        sum = v.sum;
        closing = v.closing;
        again = v.again;
        words = ap (λ (ws : List ℕ). paired_words r.bytes ++ ws) v.words;
      }

ordered : (start next k : ℕ) (ps : List (List ℕ)) → records_from start next k ps ≡ in_order → Ordered start next ps
ordered start next k [] e = refused_not e
ordered start next k (p ∷ []) e = refused_not e
ordered start next k (p ∷ (q ∷ qs)) e =
    let t = both_in_order (record_outcome k p) (cond (closes r.type) closing going) e in
    let u = both_in_order (require_at k (is_record p) 12) (require_at k (eqb r.checksum (checksum_of r)) 13) t.0 in
    let i = required k (is_record p) 12 u.0 in
    let s = eqb_eq r.checksum (checksum_of r) (required k (eqb r.checksum (checksum_of r)) 13 u.1) in
    go i s (closes r.type) refl t.1 (ordered start (next + length r.bytes) (suc k) (q ∷ qs))
  where
    r : SRecord
    r = record_in p

    closing : Outcome
    closing = and_then (require_at k (eqb r.address start) 14) (require_at (suc k) (is_end q qs) 12)

    going : Outcome
    going = and_then (require_at k (is_next next r) 14) (records_from start (next + length r.bytes) (suc k) (q ∷ qs))

    go : is_record p ≡ true → r.checksum ≡ checksum_of r → (b : Bool) → closes r.type ≡ b → cond b closing going ≡ in_order
        → (records_from start (next + length r.bytes) (suc k) (q ∷ qs) ≡ in_order → Ordered start (next + length r.bytes) (q ∷ qs))
        → Ordered start next (p ∷ (q ∷ qs))
    go i s true c o f =
        let t = both_in_order (require_at k (eqb r.address start) 14) (require_at (suc k) (is_end q qs) 12) o in
        let a = eqb_eq r.address start (required k (eqb r.address start) 14 t.0) in
        ordered_last start next p i s q qs c a (eqb_eq (length q + length qs) 0 (required (suc k) (is_end q qs) 12 t.1))
    go i s false c o f =
        let t = both_in_order (require_at k (is_next next r) 14) (records_from start (next + length r.bytes) (suc k) (q ∷ qs)) o in
        ordered_data start next p i s (q ∷ qs) c (required k (is_next next r) 14 t.0) (f t.1)

pub accepted_sound : (text : List ℕ) (room : ℕ) → read_outcome text room ≡ in_order
    → Recorded text (start_read text) (image_read text) × (length (image_read text) ≤ room)
unfolding read_outcome text_outcome
accepted_sound text room e =
    let t = both_in_order (text_outcome text) (require (leb (length (image_read text)) room) 11) e in
    let v = ordered (start_read text) (start_read text) 1 (parts 10 text) t.0 in
    let d : Recorded text (start_read text) (image_read text) =
    record {
      data_records_lem = v.data_records_lem;
      last = v.last;
      spelled = text_is text (v.data_records_lem ++ (v.last ∷ [])) v.lines;
      consecutive = v.consecutive;
      form = v.form;
      sum = v.sum;
      closing = v.closing;
      again = v.again;
      image = v.words;
    } in
    (d, leb_is (length (image_read text)) room (require_true (leb (length (image_read text)) room) 11 t.1))

-- a text has one start and one image
pub one_reading : (text : List ℕ) (a b : ℕ) (v w : List ℕ) → Recorded text a v → Recorded text b w → (a ≡ b) × (v ≡ w)
one_reading text a b v w d e =
    let s = accepted_complete text a v (length v) d (omega arith) in
    let t = accepted_complete text b w (length w) e (omega arith) in
    (sym s.1 ∙ t.1, sym s.2 ∙ t.2)
