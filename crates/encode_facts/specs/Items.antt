-- Verdicts, items, and the addresses of words.
use Rattle.std.specs.Prelude.{ℕ, ◌+◌, ◌^◌, ◌<◌, ◌≡◌, refl, Bool, true, false, List, [], ◌∷◌, ◌++◌, ltb, ℤ, pos, length}
use Rattle.std.proofs.Common.{ap, sym, ◌∙◌, arith}
use Rattle.isa.specs.declared.Field.{Field}
use Rattle.isa_spec.specs.Field.{holds}
use Rattle.encode_spec.specs.Item.{Item, Verdict, fine, malformed, out_of_range, no_encoding, is_fine, word, check, range, unless, ranged, or_else, failure, verdict, number_verdict, words_in, count_of, word_address}
use Rattle.base_facts.specs.Tests.{ltb_is, ltb-true, true_not_false}
use Rattle.isa.specs.declared.Field.TheVariants as field

not_fine : {C : Type 0} (v : Verdict) → is_fine v ≡ false → v ≡ fine → C
not_fine v h e = true_not_false (ap is_fine e) h

pub malformed_not : {C : Type 0} → malformed ≡ fine → C
malformed_not e = not_fine malformed refl e

pub range_not : {C : Type 0} (f : Field) (z : ℤ) → out_of_range f z ≡ fine → C
range_not f z e = not_fine (out_of_range f z) refl e

pub reason_not : {C : Type 0} (r : ℕ) → no_encoding r ≡ fine → C
reason_not r e = not_fine (no_encoding r) refl e

pub fine_both : (u v : Verdict) → or_else u v ≡ fine → (u ≡ fine) × (v ≡ fine)
fine_both fine v e = (refl, e)
fine_both malformed v e = malformed_not e
fine_both (out_of_range f z) v e = range_not f z e
fine_both (no_encoding r) v e = reason_not r e

pub both_fine : (u v : Verdict) → u ≡ fine → v ≡ fine → or_else u v ≡ fine
both_fine u v p q = rw (p, q)

pub unless_true : (b : Bool) (v : Verdict) → unless b v ≡ fine → (v ≡ fine → ⊥) → b ≡ true
unless_true true v e n = refl
unless_true false v e n = absurd (n e)

pub unless_malformed : (b : Bool) → unless b malformed ≡ fine → b ≡ true
unless_malformed b e = unless_true b malformed e (λ n. malformed_not n)

pub unless_reason : (b : Bool) (r : ℕ) → unless b (no_encoding r) ≡ fine → b ≡ true
unless_reason b r e = unless_true b (no_encoding r) e (λ n. reason_not r n)

pub unless_range : (b : Bool) (f : Field) (z : ℤ) → unless b (out_of_range f z) ≡ fine → b ≡ true
unless_range b f z e = unless_true b (out_of_range f z) e (λ n. range_not f z n)

pub true_unless : (b : Bool) (v : Verdict) → b ≡ true → unless b v ≡ fine
true_unless b v e = rw e

-- a range that is kept, and a register number
pub range_holds : (f : Field) (z : ℤ) → ranged true f z ≡ fine → holds f z ≡ true
range_holds f z e = unless_range (holds f z) f z e

pub holds_range : (f : Field) (z : ℤ) → holds f z ≡ true → ranged true f z ≡ fine
holds_range f z e = true_unless (holds f z) (out_of_range f z) e

pub number_lt : (n : ℕ) → number_verdict n ≡ fine → n < 8
number_lt n e = ltb_is n 8 (unless_range (ltb n 8) field.Register (pos n) e)

pub lt_number : (n : ℕ) → n < 8 → number_verdict n ≡ fine
lt_number n h = true_unless (ltb n 8) (out_of_range field.Register (pos n)) (ltb-true n 8 h)

pub or_else_assoc : (u v w : Verdict) → or_else (or_else u v) w ≡ or_else u (or_else v w)
or_else_assoc fine v w = refl
or_else_assoc malformed v w = refl
or_else_assoc (out_of_range f z) v w = refl
or_else_assoc (no_encoding r) v w = refl

pub failure_append : (b : Bool) (xs ys : List Item) → failure b (xs ++ ys) ≡ or_else (failure b xs) (failure b ys)
failure_append b [] ys = refl
failure_append b (x ∷ xs) ys =
    ap (λ (v : Verdict). or_else (verdict b x) v) (failure_append b xs ys) ∙ sym (or_else_assoc (verdict b x) (failure b xs) (failure b ys))

pub words_in_append : (xs ys : List Item) → words_in (xs ++ ys) ≡ words_in xs ++ words_in ys
words_in_append [] ys = refl
words_in_append (word w ∷ xs) ys = ap (λ (ws : List ℕ). w ∷ ws) (words_in_append xs ys)
words_in_append (check v ∷ xs) ys = words_in_append xs ys
words_in_append (range f z ∷ xs) ys = words_in_append xs ys

pub count_append : (xs ys : List Item) → count_of (xs ++ ys) ≡ count_of xs + count_of ys
count_append [] ys = omega arith
count_append (word w ∷ xs) ys = let e = count_append xs ys in omega arith
count_append (check v ∷ xs) ys = count_append xs ys
count_append (range f z ∷ xs) ys = count_append xs ys

pub words_count : (xs : List Item) → length (words_in xs) ≡ count_of xs
words_count [] = refl
words_count (word w ∷ xs) = let e = words_count xs in omega arith
words_count (check v ∷ xs) = words_count xs
words_count (range f z ∷ xs) = words_count xs

pub address_address : (a m n : ℕ) → word_address (word_address a m) n ≡ word_address a (m + n)
address_address a m n = omega arith

pub address_lt : (a n : ℕ) → word_address a n < 2 ^ 32
address_lt a n = omega arith
