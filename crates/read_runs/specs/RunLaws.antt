-- Laws of the run of a line, a field at a time. Assumes nothing.
use Rattle.std.specs.Prelude.{◌≡◌, Bool, true, false, cond, not, ◌&&◌, List, [], ◌∷◌, ◌++◌, map, replicate, set, take, drop, get_or, leb, ltb}
use Rattle.std.proofs.Math.Path.{refl}
use Rattle.std.proofs.Common.{sym, ap, ◌∙◌, append-nil, length-take, take_at}
use Prim.Native.Nat.{ℕ, suc, ◌+◌, ◌*◌, ◌-◌, ◌^◌, ◌≤◌, ◌<◌, min}
use native.Mathlib.Omega.{arith}
use Rattle.std.proofs.Math.Decide.{dec_le}
use Rattle.std.proofs.Math.ListN.{length, length-append}
use Rattle.std.proofs.lemmas.List.{length-replicate}
use Rattle.std.proofs.Math.Seq.{set_at, append_snoc, take_all, take-append-le}
use borrow.Author.Tests.{leb-true, lt-ltb, ltb-true, ne_eqb}
use Rattle.base_spec.specs.Number as number
use Rattle.base_text.specs.Parts.{before, part_end}
use Rattle.base_spec.specs.Parts.{fields}
use Rattle.base_text.specs.PartLaws.{parts_from, parts_at, parts-start, parts_past, part_is}
use Rattle.base_spec.specs.Number.{Number, number_of}
use Rattle.base_spec.specs.Numbers.{magnitude_of}
use Rattle.read_runs.specs.declared.Run.{Run}
use Rattle.read_runs.specs.declared.Word.{Word}
use Rattle.read_runs.specs.declared.Word.TheVariants.{Is, No}
use Rattle.print_spec.specs.Run.{within, hex_value, is_word_field, word_in, are_words, field_words, is_address_field}
use Rattle.read_runs.specs.Kept.{kept_run, no_run, run_in, run_of}
use Rattle.read_runs.specs.Step.{four_digits, word_of, start_at, start_of, placed_word, with_word}
use Rattle.base_facts.specs.Tests.{and-true, cond_true, cond_false}

-- ---- tests
pub within_low : (low high b : ℕ) → within low high b ≡ true → low ≤ b
within_low low high b e = leb-true low b (and-true (leb low b) (leb b high) e).0

-- ---- words
pub four_fit : (a b c d : ℕ) → ltb a 16 && ltb b 16 && ltb c 16 && ltb d 16 ≡ true → a * 4096 + b * 256 + c * 16 + d < 2 ^ 16
four_fit a b c d e =
    let abcd = and-true (ltb a 16 && ltb b 16 && ltb c 16) (ltb d 16) e in
    let abc = and-true (ltb a 16 && ltb b 16) (ltb c 16) abcd.0 in
    let ab = and-true (ltb a 16) (ltb b 16) abc.0 in
    let k : a < 16 = ltb-true a 16 ab.0 in
    let l : b < 16 = ltb-true b 16 ab.1 in
    let m : c < 16 = ltb-true c 16 abc.1 in
    let n : d < 16 = ltb-true d 16 abcd.1 in
    omega arith

four_tests : (s t u v : Bool) → s && t && u && v ≡ s && (t && (u && (v && true)))
four_tests false t u v = refl
four_tests true false u v = refl
four_tests true true false v = refl
four_tests true true true false = refl
four_tests true true true true = refl

four : (a b c d : ℕ) → four_digits (hex_value a) (hex_value b) (hex_value c) (hex_value d) ≡ word_of (a ∷ b ∷ c ∷ d ∷ [])
unfolding word_of
four a b c d =
    let v : hex_value a * 4096 + hex_value b * 256 + hex_value c * 16 + hex_value d ≡ word_in (a ∷ b ∷ c ∷ d ∷ []) = omega arith in
    rw (four_tests (ltb (hex_value a) 16) (ltb (hex_value b) 16) (ltb (hex_value c) 16) (ltb (hex_value d) 16), v)

pub word_four : (f : List ℕ) → length f ≡ 4
    → four_digits (hex_value (get_or f 0 0)) (hex_value (get_or f 1 0)) (hex_value (get_or f 2 0)) (hex_value (get_or f 3 0)) ≡ word_of f
word_four [] h = absurd (omega arith)
word_four (a ∷ []) h = absurd (omega arith)
word_four (a ∷ (b ∷ [])) h = absurd (omega arith)
word_four (a ∷ (b ∷ (c ∷ []))) h = absurd (omega arith)
word_four (a ∷ (b ∷ (c ∷ (d ∷ [])))) h = four a b c d
word_four (a ∷ (b ∷ (c ∷ (d ∷ (e ∷ es))))) h = absurd (omega arith)

pub word_not : (f : List ℕ) → (length f ≡ 4 → ⊥) → word_of f ≡ No
unfolding word_of
word_not f h = rw (ne_eqb (length f) 4 h)

-- ---- the run, a word at a time
pub below_32 : (negative : Bool) (n : ℕ) → not negative && ltb n (2 ^ 32) ≡ true → n < 2 ^ 32
below_32 negative n e = ltb-true n (2 ^ 32) (and-true (not negative) (ltb n (2 ^ 32)) e).1

start_is : (n : Number) → start_of n ≡ cond (is_address_field n) (kept_run (magnitude_of n) []) no_run
unfolding start_at kept_run
start_is (number.Is negative n) = refl
start_is number.No = refl

module _ (address : ℕ) (ws : List ℕ) (w : ℕ) where
  room : length ws < 16 → placed_word (kept_run address ws) w ≡ kept_run address (ws ++ (w ∷ []))
  unfolding placed_word kept_run
  room h =
      let m : min 16 (length ws) ≡ length ws = omega arith in
      let n : min 16 (length (ws ++ (w ∷ []))) ≡ length ws + 1 = rw length-append (omega arith) in
      let q : 16 - length ws ≡ suc (16 - (length ws + 1)) = omega arith in
      let p : 16 - length (ws ++ (w ∷ [])) ≡ 16 - (length ws + 1) = rw length-append (omega arith) in
      rw (
        m,
        n,
        p,
        q,
        lt-ltb (length ws) 16 h,
        take_all 16 ws (omega arith),
        take_all 16 (ws ++ (w ∷ [])) (rw length-append (omega arith)),
        set_at ws 0 (replicate (16 - (length ws + 1)) 0) w (length ws) refl,
        append_snoc ws w (replicate (16 - (length ws + 1)) 0),
      )

  full : 16 ≤ length ws → placed_word (kept_run address ws) w ≡ kept_run address (ws ++ (w ∷ []))
  unfolding placed_word kept_run
  full h =
      let m : min 16 (length ws) ≡ 16 = omega arith in
      let n : min 16 (length (ws ++ (w ∷ []))) ≡ 16 = rw length-append (omega arith) in
      let q : 16 - length ws ≡ 0 = omega arith in
      let p : 16 - length (ws ++ (w ∷ [])) ≡ 0 = rw length-append (omega arith) in
      rw (m, n, p, q, take-append-le 16 ws (w ∷ []) h)

  kept_more : placed_word (kept_run address ws) w ≡ kept_run address (ws ++ (w ∷ []))
  kept_more = go (dec_le (suc (length ws)) 16)
    where
      go : Dec (length ws < 16) → placed_word (kept_run address ws) w ≡ kept_run address (ws ++ (w ∷ []))
      go (yes h) = room h
      go (no h) = full (omega arith)

pub has_room : (r : Run) → r.ok && ltb r.count 16 ≡ true → r.count < 16
has_room r e = ltb-true r.count 16 (and-true r.ok (ltb r.count 16) e).1

pub placed_yes : (r : Run) (w : ℕ) → r.ok && ltb r.count 16 ≡ true
    → record { ok = r.ok; address = r.address; count = r.count + 1; words = set r.words r.count w } ≡ placed_word r w
unfolding placed_word
placed_yes r w e = sym (cond_true (r.ok && ltb r.count 16) _ _ e)

pub placed_no : (r : Run) (w : ℕ) → r.ok && ltb r.count 16 ≡ false → r ≡ placed_word r w
unfolding placed_word
placed_no r w e = sym (cond_false (r.ok && ltb r.count 16) _ _ e)

-- r and the words ws more
abbrev pub run_on : Run → List Word → Run
run_on r [] = r
run_on r (w ∷ ws) = run_on (with_word r w) ws

no_more : (w : Word) → with_word no_run w ≡ no_run
unfolding placed_word no_run
no_more (Is w) = refl
no_more No = refl

on_no : (ws : List Word) → run_on no_run ws ≡ no_run
on_no [] = refl
on_no (w ∷ ws) = ap (λ (r : Run). run_on r ws) (no_more w) ∙ on_no ws

word_yes : (f : List ℕ) → is_word_field f ≡ true → word_of f ≡ Is (word_in f)
unfolding word_of
word_yes f e = rw e

word_no : (f : List ℕ) → is_word_field f ≡ false → word_of f ≡ No
unfolding word_of
word_no f e = rw e

kept_on : (address : ℕ) (ps : List ℕ) (fs : List (List ℕ)) → run_on (kept_run address ps) (map word_of fs) ≡ cond (are_words fs) (kept_run address (ps ++ field_words fs)) no_run
kept_on address ps [] = rw (append-nil ps)
kept_on address ps (f ∷ fs) = go (is_word_field f) refl (kept_on address (ps ++ (word_in f ∷ [])) fs)
  where
    go : (t : Bool) → is_word_field f ≡ t
        → run_on (kept_run address (ps ++ (word_in f ∷ []))) (map word_of fs) ≡ cond (are_words fs) (kept_run address (ps ++ (word_in f ∷ []) ++ field_words fs)) no_run
        → run_on (with_word (kept_run address ps) (word_of f)) (map word_of fs) ≡ cond (t && are_words fs) (kept_run address (ps ++ (word_in f ∷ field_words fs))) no_run
    go true e h = rw (word_yes f e, kept_more address ps (word_in f), sym (append_snoc ps (word_in f) (field_words fs))) h
    go false e h = rw (word_no f e) (on_no (map word_of fs))

run_on_lem : (f : List ℕ) (fs : List (List ℕ)) → run_in (f ∷ fs) ≡ run_on (start_of (number_of f)) (map word_of fs)
run_on_lem f fs = rw (start_is (number_of f)) (go (is_address_field (number_of f)))
  where
    go : (t : Bool) → cond (t && are_words fs) (kept_run (magnitude_of (number_of f)) (field_words fs)) no_run
        ≡ run_on (cond t (kept_run (magnitude_of (number_of f)) []) no_run) (map word_of fs)
    go true = sym (kept_on (magnitude_of (number_of f)) [] fs)
    go false = sym (on_no (map word_of fs))

-- ---- the line, a field at a time
-- what the fields from `from` on say
abbrev pub words_from : List ℕ → ℕ → List Word
words_from line from = map word_of (parts_from 9 line from)

pub run-start : (line : List ℕ) (e : ℕ) → e ≡ part_end 9 line 0 → run_of line ≡ run_on (start_of (number_of (take e line))) (words_from line (e + 1))
unfolding run_of
run-start line e g =
    let q : e - 0 ≡ e = omega arith in
    let b : take e line ≡ before 9 line = rw q at (part_is 9 line 0 e g) in
    let p : fields line ≡ take e line ∷ parts_from 9 line (e + 1) = rw (b, g) (sym (parts-start 9 line) ∙ parts_at 9 line 0 (omega arith)) in
    rw p (run_on_lem (take e line) (parts_from 9 line (e + 1)))

pub run_next : (line : List ℕ) (from e : ℕ) (r : Run) → from ≤ length line → e ≡ part_end 9 line from
    → run_on r (words_from line from) ≡ run_on (with_word r (word_of (take (e - from) (drop from line)))) (words_from line (e + 1))
run_next line from e r h g = rw (parts_at 9 line from h, part_is 9 line from e g, g)

pub run_end : (line : List ℕ) (from : ℕ) (r : Run) → length line < from → run_on r (words_from line from) ≡ r
run_end line from r h = rw (parts_past 9 line from h)

-- ---- what a run keeps
pub kept_words : (address : ℕ) (ws : List ℕ) → take (kept_run address ws).count (kept_run address ws).words ≡ take 16 ws
unfolding kept_run
kept_words address ws = take_at (take 16 ws) (replicate (16 - length ws) 0) (min 16 (length ws)) (length-take 16 ws)

-- it has 16 places, and no more words than places
room_if : (t : Bool) (address : ℕ) (ws : List ℕ) → ((cond t (kept_run address ws) no_run).count ≤ 16) × (length (cond t (kept_run address ws) no_run).words ≡ 16)
unfolding kept_run no_run
room_if true address ws = (omega arith, rw (length-append, length-take, length-replicate) (omega arith))
room_if false address ws = (omega arith, refl)

room_in : (fs : List (List ℕ)) → ((run_in fs).count ≤ 16) × (length (run_in fs).words ≡ 16)
unfolding no_run
room_in [] = (omega arith, refl)
room_in (f ∷ fs) = room_if (is_address_field (number_of f) && are_words fs) (magnitude_of (number_of f)) (field_words fs)

pub run_count : (line : List ℕ) → (run_of line).count ≤ 16
unfolding run_of
run_count line = (room_in (fields line)).0

pub run-places : (line : List ℕ) → length (run_of line).words ≡ 16
unfolding run_of
run-places line = (room_in (fields line)).1
