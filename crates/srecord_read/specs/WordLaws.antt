-- Laws of the words of lines. Assumes nothing.
use Rattle.std.specs.Prelude.{◌≡◌, refl, true, ◌&&◌, List, [], ◌∷◌, ◌++◌, length, take, drop, get_or}
use Rattle.std.proofs.Common.{sym, ◌∙◌, arith, add-one, length-drop, drop-cons}
use Rattle.std.proofs.Math.Path.{ap}
use Rattle.std.proofs.Math.Bool.{false}
use Prim.Native.Nat.{ℕ, suc, ◌+◌, ◌*◌, ◌-◌, ◌≤◌, ◌<◌}
use Rattle.std.proofs.Math.Dec.{ltb}
use Rattle.std.proofs.Math.Seq.{drop-length}
use borrow.Author.Tests.{lt-ltb, le-ltb, le-leb}
use borrow.Rule.Slice.PartMut.{put_mid}
use Rattle.base_facts.specs.Tests.{and-true, never, lt?, Lt, less, past}
use Rattle.base_text.specs.Parts.{part_end}
use Rattle.base_text.specs.PartLaws.{parts_from, parts_at, part_is, parts_past, parts-start}
use Rattle.sheet_spec.specs.Translate.{over}
use Rattle.srecord_spec.specs.Record.{digit_value, is_hex_digit, are_pairs, pair_bytes, address_width, record_in, is_record}
use Rattle.srecord_spec.specs.Read.{paired_words}
use Rattle.srecord_facts.specs.Bytes.{twice, twice-is}
use Rattle.srecord_facts.specs.Digits.{pair_length, pairs_again}
use Rattle.srecord_facts.specs.Lines.{line_is}
use Rattle.srecord_facts.specs.Writing.{Writing, writing_room, writing_more}
use Rattle.srecord_read.specs.Words.{word_of, words_of, data_begin, data_words, data_of, data_in}
use Rattle.srecord_read.specs.PairLaws.{pair_take, pair_drop, pairs_take, pairs_drop}
use Rattle.srecord_read.specs.LineLaws.{short, rest_pairs, data_is}

-- ---- the words of a record in form
pub words_paired : (ds : List ℕ) → are_pairs ds ≡ true → words_of ds ≡ paired_words (pair_bytes ds)
words_paired [] h = refl
words_paired (a ∷ []) h = never h
words_paired (a ∷ (b ∷ [])) h = refl
words_paired (a ∷ (b ∷ (c ∷ []))) h = never (and-true (is_hex_digit a && is_hex_digit b) false h).1
words_paired (a ∷ (b ∷ (c ∷ (d ∷ ds)))) h =
    let e = and-true (is_hex_digit a && is_hex_digit b) (are_pairs (c ∷ (d ∷ ds))) h in
    let f = and-true (is_hex_digit c && is_hex_digit d) (are_pairs ds) e.1 in
    let g = (pairs_again (a ∷ (b ∷ (c ∷ (d ∷ ds)))) h).1 in
    let q : word_of a b c d ≡ (digit_value a * 16 + digit_value b) * 256 + (digit_value c * 16 + digit_value d) = omega (arith, g.0, g.1.0) in
    rw (q, words_paired ds f.1)

module _ (s t x y : ℕ) (ds : List ℕ) where
  abbrev w : ℕ
  w = address_width (t - 48)

  abbrev n : ℕ
  n = digit_value x * 16 + digit_value y - (w + 1)

  data_long : is_record (s ∷ (t ∷ (x ∷ (y ∷ ds)))) ≡ true → data_words (s ∷ (t ∷ (x ∷ (y ∷ ds)))) ≡ paired_words (record_in (s ∷ (t ∷ (x ∷ (y ∷ ds))))).bytes
  unfolding data_words
  data_long is =
      let g = (line_is (s ∷ (t ∷ (x ∷ (y ∷ ds)))) is).sized in
      let d = rest_pairs s t x y ds g.pairs in
      let m = pair_length ds d in
      let a : 4 + 2 * w ≡ suc (suc (suc (suc (twice w)))) = omega (arith, twice-is w) in
      let b : suc (suc (suc (suc (length ds)))) - 2 - (4 + 2 * w) ≡ twice n = omega (arith, twice-is n, g.all, g.least) in
      let c : ltb (suc (suc (suc (suc (length ds))))) (4 + 2 * w + 2) ≡ false =
      le-ltb (suc (suc (suc (suc (length ds))))) (4 + 2 * w + 2) (omega (arith, g.all, g.least)) in
      rw (data_is s t x y ds, c, b, a)
      (words_paired (take (twice n) (drop (twice w) ds)) (pairs_take n (drop (twice w) ds) (pairs_drop w ds d))
      ∙ ap paired_words (pair_take n (drop (twice w) ds) ∙ ap (take n) (pair_drop w ds)))

pub data_words_lem : (p : List ℕ) → is_record p ≡ true → data_words p ≡ paired_words (record_in p).bytes
data_words_lem [] is = never (sym (short [] (omega arith)) ∙ is)
data_words_lem (s ∷ []) is = never (sym (short (s ∷ []) (omega arith)) ∙ is)
data_words_lem (s ∷ (t ∷ [])) is = never (sym (short (s ∷ (t ∷ [])) (omega arith)) ∙ is)
data_words_lem (s ∷ (t ∷ (x ∷ []))) is = never (sym (short (s ∷ (t ∷ (x ∷ []))) (omega arith)) ∙ is)
data_words_lem (s ∷ (t ∷ (x ∷ (y ∷ ds)))) is = data_long s t x y ds is

-- a short line has none
pub data_none : (p : List ℕ) → length p < data_begin p + 2 → data_words p ≡ []
unfolding data_words
data_none p h = rw (lt-ltb (length p) (data_begin p + 2) h)

pub data_found : (p : List ℕ) (width : ℕ) → width ≡ address_width (get_or p 1 0 - 48) → 4 + 2 * width + 2 ≤ length p
    → data_words p ≡ words_of (take (length p - 2 - (4 + 2 * width)) (drop (4 + 2 * width) p))
unfolding data_words
data_found p width e h = rw (← e, le-ltb (length p) (4 + 2 * width + 2) h)

-- ---- four digits at a time
module _ (ds : List ℕ) (i : ℕ) where
  pub words_on : 4 ≤ length ds - i
      → words_of (drop i ds) ≡ word_of (get_or ds i 0) (get_or ds (i + 1) 0) (get_or ds (i + 2) 0) (get_or ds (i + 3) 0) ∷ words_of (drop (i + 4) ds)
  words_on h =
      let a = drop-cons ds i 0 (omega arith) in
      let b : drop (suc i) ds ≡ get_or ds (i + 1) 0 ∷ drop (i + 2) ds =
      let q : suc (suc i) ≡ i + 2 = omega arith in rw (add-one, ← q) (drop-cons ds (suc i) 0 (omega arith)) in
      let c : drop (i + 2) ds ≡ get_or ds (i + 2) 0 ∷ drop (i + 3) ds =
      let q : suc (i + 2) ≡ i + 3 = omega arith in rw (← q) (drop-cons ds (i + 2) 0 (omega arith)) in
      let d : drop (i + 3) ds ≡ get_or ds (i + 3) 0 ∷ drop (i + 4) ds =
      let q : suc (i + 3) ≡ i + 4 = omega arith in rw (← q) (drop-cons ds (i + 3) 0 (omega arith)) in
      rw (a, b, c, d)

  pub words_room : {lent v : List ℕ} {at : ℕ} → Writing (words_of ds) lent (words_of (drop i ds)) at v → 4 ≤ length ds - i → length (words_of ds) ≤ length lent → at + 1 ≤ length lent
  words_room s h room = writing_room s (word_of (get_or ds i 0) (get_or ds (i + 1) 0) (get_or ds (i + 2) 0) (get_or ds (i + 3) 0) ∷ []) (words_of (drop (i + 4) ds)) (words_on h) room

  pub words_end : length ds - i < 4 → words_of (drop i ds) ≡ []
  words_end h = go (drop i ds) (rw length-drop h)
    where
      go : (l : List ℕ) → length l < 4 → words_of l ≡ []
      go [] m = refl
      go (a ∷ []) m = refl
      go (a ∷ (b ∷ [])) m = refl
      go (a ∷ (b ∷ (c ∷ []))) m = refl
      go (a ∷ (b ∷ (c ∷ (d ∷ l)))) m = absurd (omega arith)

-- ---- a line at a time
module _ (text : List ℕ) where
  pub data_start : data_in text ≡ data_of (parts_from 10 text 0)
  unfolding data_in
  data_start = ap data_of (sym (parts-start 10 text))

  pub data_on : (from e : ℕ) → from ≤ length text → e ≡ part_end 10 text from
      → data_of (parts_from 10 text from) ≡ data_words (take (e - from) (drop from text)) ++ data_of (parts_from 10 text (e + 1))
  data_on from e h g =
      ap data_of (parts_at 10 text from h)
      ∙ rw (part_is 10 text from e g, g)

  pub data_end : (from : ℕ) → length text ≤ from → data_of (parts_from 10 text from) ≡ []
  data_end from h = go (lt? (length text) from)
    where
      go : Lt (length text) from → data_of (parts_from 10 text from) ≡ []
      go (less l e) = ap data_of (parts_past 10 text from l)
      go (past l e) = let q : from ≡ length text = omega arith in rw q (ap data_of last ∙ rw (data_none [] (omega arith)))
        where
          last : parts_from 10 text (length text) ≡ [] ∷ []
          last = rw (le-leb (length text) (length text) (omega arith), drop-length text)

  module _ {lent v : List ℕ} {from at : ℕ} (s : Writing (data_in text) lent (data_of (parts_from 10 text from)) at v) (e : ℕ) (h : from ≤ length text) (g : e ≡ part_end 10 text from)
      (room : length (data_in text) ≤ length lent) where
    abbrev here : List ℕ
    here = data_words (take (e - from) (drop from text))

    pub fill_room : at + length here ≤ length lent
    fill_room = writing_room s here (data_of (parts_from 10 text (e + 1))) (data_on from e h g) room

    pub fill_more : (n : ℕ) → n ≡ length here → (last : List ℕ) → last ≡ over here (take (length v - at) (drop at v))
        → Writing (data_in text) lent (data_of (parts_from 10 text (e + 1))) (at + n) (put_mid at (length v - at) v last)
    fill_more = writing_more s here (data_of (parts_from 10 text (e + 1))) (data_on from e h g) room
