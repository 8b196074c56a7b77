-- Laws of an image line, a field at a time. Assumes nothing.
use Rattle.std.specs.Prelude.{◌≡◌, refl, Bool, false, cond, not, ◌&&◌, List, [], ◌∷◌, map, leb, ltb, take, drop, get_or, set}
use Rattle.std.proofs.Common.{sym, ap, ◌∙◌, ne_eqb, ltb-true}
use Rattle.std.proofs.Math.Bool.{true}
use Rattle.std.proofs.lemmas.Bool.{false≢true}
use Prim.Native.Nat.{ℕ, ◌+◌, ◌*◌, ◌-◌, ◌^◌, ◌≤◌, ◌<◌, pred}
use native.Mathlib.Omega.{arith}
use Rattle.std.proofs.Math.Dec.{eqb}
use Rattle.std.proofs.Math.ListN.{length}
use Rattle.std.proofs.lemmas.List.{length-map}
use Rattle.base_facts.specs.Tests.{and-true, cond_true, and-false, eqb_eq, eqb_is, leb-true, leb_not}
use Rattle.base_spec.specs.Number as number
use Rattle.base_spec.specs.Number.{Number, number_of}
use Rattle.base_spec.specs.Numbers.{magnitude_of}
use Rattle.base_spec.specs.Parts.{fields}
use Rattle.base_text.specs.Parts.{part_end}
use Rattle.base_text.specs.PartLaws.{parts_from, parts_at, parts-start, parts_past, part_is}
use Rattle.sheet_spec.specs.Sheet.{last}
use Rattle.sheet_spec.specs.Translate.{over}
use Rattle.print_spec.specs.Run.{is_address_field}
use Rattle.srecord_spec.specs.Record.{digit_value, is_hex_digit, are_pairs, pair_bytes}
use Rattle.srecord_line.specs.LineForm.{is_capital_word, are_capital_words, capital_word, is_image_line}
use Rattle.srecord_facts.specs.Bytes.{number_again}
use Rattle.srecord_facts.specs.Digits.{pair_length, pairs_again}
use Rattle.srecord_facts.specs.Writing.{Writing, writing, writing_end, writing_length, writing_room, writing_one}
use Rattle.srecord_line.specs.declared.Fields.{Fields}
use Rattle.srecord_line.specs.Line.{address_or, four_or, word_or, Counts, no_line, body_of, body_left, line_of, words_left}

-- ---- a word
four_tests : (s t u v : Bool) → s && t && u && v ≡ (s && t && (u && v && true))
four_tests false t u v = refl
four_tests true false u v = refl
four_tests true true false v = refl
four_tests true true true false = refl
four_tests true true true true = refl

four : (a b c d : ℕ) → four_or (digit_value a) (digit_value b) (digit_value c) (digit_value d) ≡ word_or (a ∷ b ∷ c ∷ d ∷ [])
unfolding four_or word_or
four a b c d =
    let v : digit_value a * 4096 + digit_value b * 256 + digit_value c * 16 + digit_value d ≡ capital_word (a ∷ b ∷ c ∷ d ∷ []) = omega arith in
    rw (four_tests (is_hex_digit a) (is_hex_digit b) (is_hex_digit c) (is_hex_digit d), v)

pub word_four : (f : List ℕ) → length f ≡ 4
    → four_or (digit_value (get_or f 0 0)) (digit_value (get_or f 1 0)) (digit_value (get_or f 2 0)) (digit_value (get_or f 3 0)) ≡ word_or f
word_four [] h = absurd (omega arith)
word_four (a ∷ []) h = absurd (omega arith)
word_four (a ∷ (b ∷ [])) h = absurd (omega arith)
word_four (a ∷ (b ∷ (c ∷ []))) h = absurd (omega arith)
word_four (a ∷ (b ∷ (c ∷ (d ∷ [])))) h = four a b c d
word_four (a ∷ (b ∷ (c ∷ (d ∷ (e ∷ es))))) h = absurd (omega arith)

pub word_not : (f : List ℕ) → (length f ≡ 4 → ⊥) → word_or f ≡ 65536
unfolding word_or
word_not f h = rw (ne_eqb (length f) 4 h)

-- what the tests of four digits tell
pub four_sum : (a b c d : ℕ) → ltb a 16 && ltb b 16 && ltb c 16 && ltb d 16 ≡ true → a * 4096 + b * 256 + c * 16 + d < 65536
four_sum a b c d e =
    let abcd = and-true (ltb a 16 && ltb b 16 && ltb c 16) (ltb d 16) e in
    let abc = and-true (ltb a 16 && ltb b 16) (ltb c 16) abcd.0 in
    let ab = and-true (ltb a 16) (ltb b 16) abc.0 in
    omega (arith, ltb-true a 16 ab.0, ltb-true b 16 ab.1, ltb-true c 16 abc.1, ltb-true d 16 abcd.1)

-- a number below 65,536 is a word's
pub is_word : (f : List ℕ) → word_or f ≤ 65535 → is_capital_word f ≡ true
unfolding word_or
is_word f h = go (is_capital_word f) refl h
  where
    go : (t : Bool) → is_capital_word f ≡ t → cond t (capital_word f) 65536 ≤ 65535 → t ≡ true
    go true e k = refl
    go false e k = absurd (omega arith)

word_below : (f : List ℕ) → is_capital_word f ≡ true → capital_word f < 65536
word_below f e =
    let t = and-true (eqb (length f) 4) (are_pairs f) e in
    let n : length (pair_bytes f) ≡ 2 = omega (arith, eqb_eq (length f) 4 t.0, pair_length f t.1) in
    (number_again 2 (pair_bytes f) n (pairs_again f t.1).1).1

pub no_word : (f : List ℕ) → 65535 < word_or f → is_capital_word f ≡ false
unfolding word_or
no_word f h = go (is_capital_word f) refl h
  where
    go : (t : Bool) → is_capital_word f ≡ t → 65535 < cond t (capital_word f) 65536 → t ≡ false
    go true e k = absurd (omega (arith, word_below f e))
    go false e k = refl

pub word_yes : (f : List ℕ) → is_capital_word f ≡ true → word_or f ≡ capital_word f
unfolding word_or
word_yes f e = cond_true (is_capital_word f) (capital_word f) 65536 e

pub word_or-below : (f : List ℕ) → is_capital_word f ≡ true → word_or f < 65536
word_or-below f e = rw (word_yes f e) (word_below f e)

-- ---- fields, one at a time
pub fields_next : (body : List ℕ) (at e : ℕ) → at ≤ length body → e ≡ part_end 9 body at
    → parts_from 9 body at ≡ take (e - at) (drop at body) ∷ parts_from 9 body (e + 1)
fields_next body at e h g = rw (part_is 9 body at e g, g) (parts_at 9 body at h)

pub fields_first : (body : List ℕ) (e : ℕ) → e ≡ part_end 9 body 0 → fields body ≡ take e body ∷ parts_from 9 body (e + 1)
fields_first body e g =
    let q : e - 0 ≡ e = omega arith in
    sym (parts-start 9 body) ∙ rw q at (fields_next body 0 e (omega arith) g)

-- ---- fields counted, and their words laid down
-- the fields of a line from `from` on are words as far as `at`, `count` of them
pub record Counting (body : List ℕ) (from at count : ℕ) : Type 0 where
  pub few : count ≤ at
  pub same : are_capital_words (parts_from 9 body from) ≡ are_capital_words (parts_from 9 body at)
  pub sum : length (parts_from 9 body from) ≡ count + length (parts_from 9 body at)

-- and their words stand in the lent places
pub record Filling (body : List ℕ) (from : ℕ) (lent words : List ℕ) (at i : ℕ) : Type 0 where
  pub left : are_capital_words (parts_from 9 body at) ≡ true
  pub room : length (map capital_word (parts_from 9 body from)) ≤ length lent
  pub written : Writing (map capital_word (parts_from 9 body from)) lent (map capital_word (parts_from 9 body at)) i words

module _ (body : List ℕ) (from : ℕ) where
  pub counting_start : Counting body from from 0
  counting_start = record { few = omega arith; same = refl; sum = omega arith }

  pub counting_on : {at count : ℕ} (e : ℕ) → Counting body from at count → at ≤ length body → e ≡ part_end 9 body at
      → is_capital_word (take (e - at) (drop at body)) ≡ true → Counting body from (e + 1) (count + 1)
  counting_on {at} {count} e w h g t =
      let n = fields_next body at e h g in
      let q : at ≤ e = omega arith in
      record {
        few = omega (arith, w.few);
        same = w.same ∙ ap are_capital_words n ∙ rw t;
        sum = omega (arith, w.sum, ap length n);
      }

  pub counting_not : {at count : ℕ} (e : ℕ) → Counting body from at count → at ≤ length body → e ≡ part_end 9 body at
      → is_capital_word (take (e - at) (drop at body)) ≡ false → are_capital_words (parts_from 9 body from) ≡ false
  counting_not {at} {count} e w h g t = w.same ∙ ap are_capital_words (fields_next body at e h g) ∙ rw t

  pub counting_end : {at count : ℕ} → Counting body from at count → length body < at
      → (are_capital_words (parts_from 9 body from) ≡ true) × (count ≡ length (parts_from 9 body from))
  counting_end {at} {count} w h =
      let p = parts_past 9 body at h in
      (w.same ∙ ap are_capital_words p, omega (arith, w.sum, ap length p))

  module _ (lent : List ℕ) where
    pub filling_start : are_capital_words (parts_from 9 body from) ≡ true → length (parts_from 9 body from) ≤ length lent → Filling body from lent lent from 0
    filling_start t h = record { left = t; room = rw length-map h; written = writing (map capital_word (parts_from 9 body from)) lent }

    module _ {words : List ℕ} {at i : ℕ} (w : Filling body from lent words at i) where
      pub filling_length : length words ≡ length lent
      filling_length = writing_length w.written w.room

      pub filling_end : length body < at → words ≡ over (map capital_word (parts_from 9 body from)) lent
      filling_end h = (writing_end w.written (ap (λ (fs : List (List ℕ)). map capital_word fs) (parts_past 9 body at h))).1

      module _ (e : ℕ) (h : at ≤ length body) (g : e ≡ part_end 9 body at) where
        abbrev f : List ℕ
        f = take (e - at) (drop at body)

        abbrev rest_words : List ℕ
        rest_words = map capital_word (parts_from 9 body (e + 1))

        words_next : map capital_word (parts_from 9 body at) ≡ capital_word f ∷ rest_words
        words_next = ap (λ (fs : List (List ℕ)). map capital_word fs) (fields_next body at e h g)

        field_tests : (is_capital_word f ≡ true) × (are_capital_words (parts_from 9 body (e + 1)) ≡ true)
        field_tests = and-true (is_capital_word f) (are_capital_words (parts_from 9 body (e + 1))) (sym (ap are_capital_words (fields_next body at e h g)) ∙ w.left)

        pub field-word : is_capital_word f ≡ true
        field-word = field_tests.0

        pub field_room : i < length words
        field_room = omega (arith, writing_room w.written (capital_word f ∷ []) rest_words words_next w.room, filling_length)

        pub filling_on : (v : ℕ) → v ≡ word_or f → Filling body from lent (set words i v) (e + 1) (i + 1)
        filling_on v q =
            record {
              left = field_tests.1;
              room = w.room;
              written = rw (q, word_yes f field-word) (writing_one w.written (capital_word f) rest_words words_next w.room);
            }

-- where all are words they are counted
pub all_many : {fs : List (List ℕ)} {r : Fields} → Counts fs r → r.ok ≡ true → (are_capital_words fs ≡ true) × (r.count ≡ length fs)
all_many {fs} {r} w h =
    let t : are_capital_words fs ≡ true = sym w.all ∙ h in
    (t, w.many ∙ cond_true (are_capital_words fs) (length fs) 0 t)

-- ---- the whole line
address_below : (n : Number) → is_address_field n ≡ true → magnitude_of n < 2 ^ 32
address_below (number.Is negative n) e = ltb-true n (2 ^ 32) (and-true (not negative) (ltb n (2 ^ 32)) e).1
address_below number.No e = absurd (false≢true e)

pub no_address : (n : Number) → 4294967295 < address_or n → is_address_field n ≡ false
unfolding address_or
no_address n h = go (is_address_field n) refl h
  where
    go : (t : Bool) → is_address_field n ≡ t → 4294967295 < cond t (magnitude_of n) (2 ^ 32) → t ≡ false
    go true e k = absurd (omega (arith, address_below n e))
    go false e k = refl

pub is_address : (n : Number) → address_or n ≤ 4294967295 → (is_address_field n ≡ true) × (address_or n ≡ magnitude_of n)
unfolding address_or
is_address n h = go (is_address_field n) refl h
  where
    go : (t : Bool) → is_address_field n ≡ t → cond t (magnitude_of n) (2 ^ 32) ≤ 4294967295 → (t ≡ true) × (cond t (magnitude_of n) (2 ^ 32) ≡ magnitude_of n)
    go true e k = (refl, refl)
    go false e k = absurd (omega arith)

module _ (body words : List ℕ) (e : ℕ) (g : e ≡ part_end 9 body 0) where
  abbrev rest : List (List ℕ)
  rest = parts_from 9 body (e + 1)

  body_is : (t : Bool) → is_address_field (number_of (take e body)) && are_capital_words rest && leb (length (map capital_word rest)) (length words) ≡ t
      → (cond t (record { ok = true; start = magnitude_of (number_of (take e body)); count = length (map capital_word rest) }) no_line ≡ body_of body (length words))
      × (cond t (over (map capital_word rest) words) words ≡ body_left body words)
  unfolding body_of body_left
  body_is t h = rw (fields_first body e g, h) (refl, refl)

  pub body_unaddressed : is_address_field (number_of (take e body)) ≡ false → (no_line ≡ body_of body (length words)) × (words ≡ body_left body words)
  body_unaddressed a = body_is false (rw a)

  pub body_unworded : are_capital_words rest ≡ false → (no_line ≡ body_of body (length words)) × (words ≡ body_left body words)
  body_unworded a = body_is false (rw (a, and-false (is_address_field (number_of (take e body)))))

  pub body_cramped : length words < length rest → (no_line ≡ body_of body (length words)) × (words ≡ body_left body words)
  body_cramped h =
      body_is false (rw (leb_not (length (map capital_word rest)) (length words) (omega (arith, length-map rest capital_word))) (and-false (is_address_field (number_of (take e body)) && are_capital_words rest)))

  pub body_read : is_address_field (number_of (take e body)) ≡ true → are_capital_words rest ≡ true → length rest ≤ length words → (start count : ℕ)
      → start ≡ magnitude_of (number_of (take e body)) → count ≡ length rest
      → (record { ok = true; start = start; count = count } ≡ body_of body (length words)) × (over (map capital_word rest) words ≡ body_left body words)
  body_read a b h start count p q =
      let n : count ≡ length (map capital_word rest) = q ∙ sym (length-map rest capital_word) in
      let r = body_is true (rw (a, b) (leb-true (length (map capital_word rest)) (length words) (omega (arith, length-map rest capital_word)))) in
      ((λ i. record { ok = true; start = p i; count = n i }) ∙ r.0, r.1)

-- its LF taken off
last-is : (b : ℕ) (bs : List ℕ) → last (b ∷ bs) ≡ get_or (b ∷ bs) (length bs) 0
last-is b [] = refl
last-is b (c ∷ bs) = last-is c bs

last_at : (line : List ℕ) → (length line ≡ 0 → ⊥) → last line ≡ get_or line (length line - 1) 0
last_at [] h = absurd (h refl)
last_at (b ∷ bs) h = let q : length (b ∷ bs) - 1 ≡ length bs = omega arith in rw q (last-is b bs)

module _ (line words : List ℕ) where
  pub line_not : eqb (last line) 10 ≡ false → (no_line ≡ line_of line (length words)) × (words ≡ words_left line words)
  unfolding line_of words_left is_image_line
  line_not h = rw h (refl, refl)

  pub line_empty : length line ≡ 0 → (no_line ≡ line_of line (length words)) × (words ≡ words_left line words)
  line_empty h = line_not (go line h)
    where
      go : (l : List ℕ) → length l ≡ 0 → eqb (last l) 10 ≡ false
      go [] k = refl
      go (b ∷ bs) k = absurd (omega arith)

  pub line_unended : (length line ≡ 0 → ⊥) → (get_or line (length line - 1) 0 ≡ 10 → ⊥) → (no_line ≡ line_of line (length words)) × (words ≡ words_left line words)
  line_unended k h = line_not (ne_eqb (last line) 10 (λ e. h (sym (last_at line k) ∙ e)))

  pub line_ended : (length line ≡ 0 → ⊥) → get_or line (length line - 1) 0 ≡ 10
      → (body_of (take (length line - 1) line) (length words) ≡ line_of line (length words)) × (body_left (take (length line - 1) line) words ≡ words_left line words)
  unfolding line_of words_left is_image_line body_of body_left
  line_ended k h =
      let q : pred (length line) ≡ length line - 1 = omega arith in
      let l : eqb (last line) 10 ≡ true = eqb_is (last line) 10 (last_at line k ∙ h) in
      rw (q, l) (refl, refl)
