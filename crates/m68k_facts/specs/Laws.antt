-- Laws of the encoder, over every instruction and address.
use Rattle.std.specs.Prelude.{ℕ, zero, suc, ◌*◌, ◌-◌, ◌≤◌, ◌<◌, Bool, false, List, [], ◌∷◌, ◌++◌, ◌≡◌, refl, ℤ, length, take, drop, get_or, replicate}
use Rattle.std.proofs.Math.Bool.{true}
use Rattle.std.proofs.Common.{ap, sym, ◌∙◌, length-append, arith, take_at, lt-ltb, le-ltb, le-leb}
use Rattle.std.proofs.lemmas.List.{length-replicate}
use Rattle.std.proofs.lemmas.Bool.{lt-leb}
use Rattle.isa.specs.declared.Field.{Field}
use Rattle.isa.specs.declared.Instruction.{Instruction}
use Rattle.isa.specs.declared.Measured.{Measured}
use Rattle.isa_spec.specs.Field.{holds}
use Rattle.encode_spec.specs.Item.{Item, Verdict, fine, malformed, out_of_range, no_encoding, word, check, range, unless, ranged, count_of, or_else, failure}
use Rattle.encode_spec.specs.Encode.{items_of, words_of, refusal_of, padded, encoded_as, encode_of, measured_as, size_of, bytes_in, short, bytes_as, bytes_of, lent_as, lent_of}
use Rattle.encode_spec.specs.Promises.{OnlyOutOfRange, accepted, outside, Counted}
use Rattle.m68k_facts.specs.Measure.{measured}
use Rattle.m68k_facts.specs.Lays.{alike_count, alike_failure, instruction_lays}
use Rattle.encode_facts.specs.Items.{words_count, fine_both}

-- ---- lists of items
-- what fails only where ranges are checked is a range
pub data RangeOnly : Verdict → Type 0 where
  passes : RangeOnly fine
  fails : (f : Field) (z : ℤ) → holds f z ≡ false → RangeOnly (out_of_range f z)

range_verdict : (f : Field) (z : ℤ) (b : Bool) → holds f z ≡ b → (v : Verdict) → RangeOnly v → RangeOnly (or_else (unless b (out_of_range f z)) v)
range_verdict f z true h v r = r
range_verdict f z false h v r = fails f z h

range_only : (xs : List Item) → failure false xs ≡ fine → RangeOnly (failure true xs)
range_only [] h = passes
range_only (word w ∷ xs) h = range_only xs h
range_only (check v ∷ xs) h = let p = fine_both v (failure false xs) h in rw p.0 (range_only xs p.1)
range_only (range f z ∷ xs) h = range_verdict f z (holds f z) refl (failure true xs) (range_only xs h)

fewer : (xs : List Item) → failure true xs ≡ fine → failure false xs ≡ fine
fewer [] h = refl
fewer (word w ∷ xs) h = fewer xs h
fewer (check v ∷ xs) h = let p = fine_both v (failure true xs) h in rw p.0 (fewer xs p.1)
fewer (range f z ∷ xs) h = fewer xs (fine_both (ranged true f z) (failure true xs) h).1

-- ---- an accepted result has the verdict fine
pub encoded_fine : (v : Verdict) (ws : List ℕ) → (encoded_as v ws).number ≡ 0 → v ≡ fine
encoded_fine fine ws h = refl
encoded_fine malformed ws h = absurd (omega arith)
encoded_fine (out_of_range f z) ws h = absurd (omega arith)
encoded_fine (no_encoding r) ws h = absurd (omega arith)

pub accepted_fine : (i : Instruction) (a : ℕ) → (encode_of i a).number ≡ 0 → refusal_of true i a ≡ fine
unfolding encode_of
accepted_fine i a h = encoded_fine (refusal_of true i a) (words_of i a) h

-- ---- where `encode` refuses and `size` does not, the number is 2 and the field does not hold the value

outcome : {v : Verdict} (ws : List ℕ) → RangeOnly v → OnlyOutOfRange (encoded_as v ws)
outcome ws passes = accepted refl
outcome ws (fails f z h) = outside f z refl h

pub range_law : (i : Instruction) (a : ℕ) → (size_of i).number ≡ 0 → OnlyOutOfRange (encode_of i a)
unfolding size_of encode_of
range_law i a h =
    let s = alike_failure (items_of i a) (items_of i 0) ((instruction_lays i).alike a 0) in
    outcome (words_of i a) (range_only (items_of i a) (s ∙ encoded_fine (refusal_of false i 0) [] h))

-- ---- where `encode` accepts, `size` is twice the count
count_as : (v : Verdict) (ws : List ℕ) → v ≡ fine → (encoded_as v ws).count ≡ length ws
count_as v ws h = rw h

size_as : (v : Verdict) (n m : ℕ) → v ≡ fine → n ≡ m → measured_as v n ≡ measured_as fine m
size_as v n m h k = rw (h, k)

pub size_law : (i : Instruction) (a : ℕ) → (encode_of i a).number ≡ 0 → size_of i ≡ measured_as fine (2 * (encode_of i a).count)
unfolding size_of encode_of
size_law i a h =
    let v = encoded_fine (refusal_of true i a) (words_of i a) h in
    let here = (instruction_lays i).alike 0 a in
    let same = words_count (items_of i 0) ∙ alike_count (items_of i 0) (items_of i a) here ∙ sym (words_count (items_of i a)) in
    size_as (refusal_of false i 0) (2 * length (words_of i 0)) (2 * (encoded_as (refusal_of true i a) (words_of i a)).count)
    (alike_failure (items_of i 0) (items_of i a) here ∙ fewer (items_of i a) v)
    (rw (count_as (refusal_of true i a) (words_of i a) v) (ap (λ (n : ℕ). 2 * n) same))

-- ---- every accepted count is 1 to 11

pub few : (i : Instruction) (a : ℕ) → count_of (items_of i a) < 12
few i a = omega (arith, (instruction_lays i).most a)

pub count_law : (i : Instruction) (a : ℕ) → (encode_of i a).number ≡ 0 → Counted (encode_of i a)
unfolding encode_of
count_law i a h =
    let c = count_as (refusal_of true i a) (words_of i a) (encoded_fine (refusal_of true i a) (words_of i a) h) in
    let n = words_count (items_of i a) in
    record { least = omega (arith, c, n, (instruction_lays i).least a); most = omega (arith, c, n, (instruction_lays i).most a) }

-- ---- there are eleven places, and unused ones are 0
zeros : (n k : ℕ) → get_or (replicate {A = ℕ} n 0) k 0 ≡ 0
zeros zero k = refl
zeros (suc n) zero = refl
zeros (suc n) (suc k) = zeros n k

past : (ws : List ℕ) (n k : ℕ) → length ws ≤ k → get_or (ws ++ replicate {A = ℕ} n 0) k 0 ≡ 0
past [] n k h = zeros n k
past (w ∷ ws) n zero h = absurd (omega arith)
past (w ∷ ws) n (suc k) h = past ws n k (omega arith)

unused_as : (v : Verdict) (ws : List ℕ) (k : ℕ) → (encoded_as v ws).count ≤ k → get_or (encoded_as v ws).words k 0 ≡ 0
unused_as fine ws k h = past ws (11 - length ws) k h
unused_as malformed ws k h = zeros 11 k
unused_as (out_of_range f z) ws k h = zeros 11 k
unused_as (no_encoding r) ws k h = zeros 11 k

pub unused_law : (i : Instruction) (a k : ℕ) → (encode_of i a).count ≤ k → get_or (encode_of i a).words k 0 ≡ 0
unfolding encode_of
unused_law i a k h = unused_as (refusal_of true i a) (words_of i a) k h

places_as : (v : Verdict) (ws : List ℕ) → length ws < 12 → length (encoded_as v ws).words ≡ 11
places_as fine ws h = rw (length-append ws (replicate {A = ℕ} (11 - length ws) 0), length-replicate {A = ℕ} (11 - length ws) 0) (omega arith)
places_as malformed ws h = refl
places_as (out_of_range f z) ws h = refl
places_as (no_encoding r) ws h = refl

pub places_law : (i : Instruction) (a : ℕ) → length (encode_of i a).words ≡ 11
unfolding encode_of
places_law i a = places_as (refusal_of true i a) (words_of i a) (omega (arith, words_count (items_of i a), few i a))

-- ---- sizes and bytes from the words
pub measured_as_lem : (v : Verdict) (ws : List ℕ) → measured (encoded_as v ws) ≡ measured_as v (2 * length ws)
measured_as_lem fine ws = refl
measured_as_lem malformed ws = refl
measured_as_lem (out_of_range f z) ws = refl
measured_as_lem (no_encoding r) ws = refl

pub count_most : (v : Verdict) (i : Instruction) (a : ℕ) → (encoded_as v (words_of i a)).count < 12
count_most fine i a = omega (arith, words_count (items_of i a), few i a)
count_most malformed i a = omega arith
count_most (out_of_range f z) i a = omega arith
count_most (no_encoding r) i a = omega arith

-- the words that count
pub taken : (ws : List ℕ) → take (length ws) (padded ws) ≡ ws
taken ws = take_at ws (replicate {A = ℕ} (11 - length ws) 0) (length ws) refl

pub bytes_length : (ws : List ℕ) → length (bytes_in ws) ≡ 2 * length ws
bytes_length [] = refl
bytes_length (w ∷ ws) = let e = bytes_length ws in omega arith

taken_as : (v : Verdict) (ws : List ℕ) → v ≡ fine → take (encoded_as v ws).count (encoded_as v ws).words ≡ ws
taken_as v ws e = rw e (taken ws)

pub accepted_words : (i : Instruction) (a : ℕ) → (encode_of i a).number ≡ 0 → take (encode_of i a).count (encode_of i a).words ≡ words_of i a
unfolding encode_of
accepted_words i a h = taken_as (refusal_of true i a) (words_of i a) (encoded_fine (refusal_of true i a) (words_of i a) h)

-- what `encode_bytes` gives, from what `encode` gives: refused, short of room, and done
pub record Bytes (v : Verdict) (ws : List ℕ) (l : List ℕ) (m : Measured) (r : List ℕ) : Type 0 where
  pub answer : m ≡ bytes_as v (2 * length ws) (length l)
  pub lent : r ≡ lent_as v (bytes_in ws) l

refused_as : (v : Verdict) (ws l : List ℕ) → ((encoded_as v ws).number ≡ 0 → ⊥) → Bytes v ws l (measured (encoded_as v ws)) l
refused_as fine ws l h = absurd (h refl)
refused_as malformed ws l h = record { answer = refl; lent = refl }
refused_as (out_of_range f z) ws l h = record { answer = refl; lent = refl }
refused_as (no_encoding r) ws l h = record { answer = refl; lent = refl }

short_as : (v : Verdict) (ws l : List ℕ) → (encoded_as v ws).number ≡ 0 → length l < 2 * (encoded_as v ws).count → Bytes v ws l short l
short_as fine ws l h m = record { answer = rw (lt-ltb (length l) (2 * length ws) m); lent = rw (bytes_length ws, lt-leb (2 * length ws) (length l) m) }
short_as malformed ws l h m = absurd (omega arith)
short_as (out_of_range f z) ws l h m = absurd (omega arith)
short_as (no_encoding r) ws l h m = absurd (omega arith)

done_as : (v : Verdict) (ws l : List ℕ) → (encoded_as v ws).number ≡ 0 → 2 * (encoded_as v ws).count ≤ length l
    → Bytes v ws l (measured (encoded_as v ws)) (bytes_in (take (encoded_as v ws).count (encoded_as v ws).words) ++ drop (2 * (encoded_as v ws).count) l)
done_as fine ws l h m =
    record { answer = rw (le-ltb (length l) (2 * length ws) m); lent = rw (taken ws, bytes_length ws, le-leb (2 * length ws) (length l) m) }
done_as malformed ws l h m = absurd (omega arith)
done_as (out_of_range f z) ws l h m = absurd (omega arith)
done_as (no_encoding r) ws l h m = absurd (omega arith)

module _ (i : Instruction) (a : ℕ) (l : List ℕ) where
  pub bytes-refused : ((encode_of i a).number ≡ 0 → ⊥) → (measured (encode_of i a) ≡ bytes_of i a (length l)) × (l ≡ lent_of i a l)
  unfolding encode_of bytes_of lent_of
  bytes-refused h = let b = refused_as (refusal_of true i a) (words_of i a) l h in (b.answer, b.lent)

  pub bytes-short : (encode_of i a).number ≡ 0 → length l < 2 * (encode_of i a).count → (short ≡ bytes_of i a (length l)) × (l ≡ lent_of i a l)
  unfolding encode_of bytes_of lent_of
  bytes-short h m = let b = short_as (refusal_of true i a) (words_of i a) l h m in (b.answer, b.lent)

  pub bytes_done : (encode_of i a).number ≡ 0 → 2 * (encode_of i a).count ≤ length l
      → (measured (encode_of i a) ≡ bytes_of i a (length l))
      × (bytes_in (take (encode_of i a).count (encode_of i a).words) ++ drop (2 * (encode_of i a).count) l ≡ lent_of i a l)
  unfolding encode_of bytes_of lent_of
  bytes_done h m = let b = done_as (refusal_of true i a) (words_of i a) l h m in (b.answer, b.lent)

pub encode_most : (i : Instruction) (a : ℕ) → (encode_of i a).count < 12
unfolding encode_of
encode_most i a = count_most (refusal_of true i a) i a
