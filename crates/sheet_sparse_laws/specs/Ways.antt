-- The two ways side by side (02, N7): the outcome, the answer, the image and the listing are the same, but for the places that 11 asks for. Assumes nothing.
use Rattle.std.specs.Prelude.{ℕ, ◌*◌, ◌%◌, ◌≤◌, ◌<◌, ◌≡◌, refl, Bool, true, false, List, ◌⊎◌, eqb, leb, pos, length, replicate}
use Rattle.std.proofs.Common.{sym, ap, ◌∙◌, inl, inr, le-leb, leb-false}
use Rattle.std.proofs.lemmas.Bool.{lt-leb}
use Rattle.sheet_facts.specs.Listing.{refused_not, both_in_order}
use Rattle.sheet_size_facts.specs.Scratch.{sparse_enough}
use Rattle.sheet_spec.specs.declared.Listed.{Listed}
use Rattle.sheet_spec.specs.Made.{is_some}
use Rattle.sheet_spec.specs.Sheet.{is_sheet, start_line, start_of, start_in, sheet_at, sheet_in, line_count, word_count, image}
use Rattle.sheet_spec.specs.Translate.{Outcome, in_order, refused, and_then, require, ScratchRule, full, sparse, sheet_outcome, outcome_at, outcome_of, listed_as, listed_of, image_as, image_of, scratch_of}
use Rattle.sheet_spec.specs.Promises.{Translated}
use Rattle.print_spec.specs.declared.Output.{Output}
use Rattle.print_spec.specs.Printed.{printed_as, listing_of, printed_of, Printed}

-- ---- outcomes, by whether the places are enough
-- 10, 7 and 9, and then something else
abbrev before : List ℕ → ℕ → Outcome → Outcome
before text start next = and_then (require (is_sheet text) 10) (and_then (require (is_some (start_of (start_line text))) 7) (and_then (require (eqb (start % 2) 0) 9) next))

last_in_order : (text : List ℕ) (start : ℕ) (next : Outcome) → before text start next ≡ in_order → next ≡ in_order
last_in_order text start next e =
    let a = both_in_order (require (is_sheet text) 10) _ e in
    let b = both_in_order (require (is_some (start_of (start_line text))) 7) _ a.1 in
    (both_in_order (require (eqb (start % 2) 0) 9) _ b.1).1

stops : (u w : Outcome) → (u ≡ in_order → ⊥) → and_then u w ≡ u
stops in_order w h = absurd (h refl)
stops (refused number line detail value) w h = refl

by_enough : (text : List ℕ) (start room : ℕ) (rule : ScratchRule) (places : ℕ) (b : Bool) → leb (rule.needed (line_count (sheet_at start text))) places ≡ b
    → outcome_at rule text start places room ≡ and_then (before text start (require b 11)) (sheet_outcome (sheet_at start text) room)
unfolding outcome_at
by_enough text start room rule places b e = ap (λ (x : Bool). and_then (before text start (require x 11)) (sheet_outcome (sheet_at start text) room)) e

-- whatever the rules, where each has places enough
pub same_outcome : (text : List ℕ) (start room : ℕ) (rule other : ScratchRule) (places lent : ℕ) → rule.needed (line_count (sheet_at start text)) ≤ places
    → other.needed (line_count (sheet_at start text)) ≤ lent → outcome_at rule text start places room ≡ outcome_at other text start lent room
same_outcome text start room rule other places lent h g =
    by_enough text start room rule places true (le-leb (rule.needed (line_count (sheet_at start text))) places h)
    ∙ sym (by_enough text start room other lent true (le-leb (other.needed (line_count (sheet_at start text))) lent g))

-- with fewer, 11 at its place: after 10, 7 and 9, before each line
pub too_few : (text : List ℕ) (start room : ℕ) (rule : ScratchRule) (places : ℕ) → places < rule.needed (line_count (sheet_at start text))
    → outcome_at rule text start places room
    ≡ and_then (require (is_sheet text) 10) (and_then (require (is_some (start_of (start_line text))) 7) (and_then (require (eqb (start % 2) 0) 9) (refused 11 0 0 (pos 0))))
too_few text start room rule places h =
    by_enough text start room rule places false (lt-leb (rule.needed (line_count (sheet_at start text))) places h)
    ∙ stops (before text start (refused 11 0 0 (pos 0))) (sheet_outcome (sheet_at start text) room) (λ e. refused_not (last_in_order text start (refused 11 0 0 (pos 0)) e))

-- so many places by the sparse rule serve as 64 times as many by the full one
pub sparse_as_full : (text : List ℕ) (start room places : ℕ) → outcome_at sparse text start places room ≡ outcome_at full text start (64 * places) room
sparse_as_full text start room places =
    let n = line_count (sheet_at start text) in
    by_enough text start room sparse places (leb n (64 * places)) (sparse_enough n places) ∙ sym (by_enough text start room full (64 * places) (leb n (64 * places)) refl)

-- ---- answers and images
alike : {rule other : ScratchRule} {text v s v' s' t v'' t' : List ℕ} {r q : Listed} → Translated rule text v s v' s' r → Translated other text v t v'' t' q
    → outcome_of rule text (length s) (length v) ≡ outcome_of other text (length t) (length v) → (r ≡ q) × (v' ≡ v'')
unfolding listed_of image_of
alike {rule} {other} {text} {v} {s} {v'} {s'} {t} {v''} {t'} {r} {q} a b e = (
  a.listed ∙ ap (λ (w : Outcome). listed_as w (line_count (sheet_in text)) (word_count (sheet_in text))) e ∙ sym b.listed,
  a.image ∙ ap (λ (w : Outcome). image_as w (image (sheet_in text)) v) e ∙ sym b.image,
)

-- with too few places the answer is 11, or what is refused before
pub few_answered : {rule : ScratchRule} {text v s v' s' : List ℕ} {r : Listed} → Translated rule text v s v' s' r → length s < rule.needed (line_count (sheet_in text))
    → r
    ≡ listed_as (and_then (require (is_sheet text) 10) (and_then (require (is_some (start_of (start_line text))) 7) (and_then (require (eqb (start_in text % 2) 0) 9) (refused 11 0 0 (pos 0))))) 0 0
unfolding listed_of
few_answered {rule} {text} {v} {s} a h =
    a.listed ∙ ap (λ (w : Outcome). listed_as w (line_count (sheet_in text)) (word_count (sheet_in text))) (too_few text (start_in text) (length v) rule (length s) h)
    ∙ uncounted (before text (start_in text) (refused 11 0 0 (pos 0))) (λ e. refused_not (last_in_order text (start_in text) (refused 11 0 0 (pos 0)) e))
  where
    uncounted : (w : Outcome) → (w ≡ in_order → ⊥) → listed_as w (line_count (sheet_in text)) (word_count (sheet_in text)) ≡ listed_as w 0 0
    uncounted in_order f = absurd (f refl)
    uncounted (refused number line detail value) f = refl

-- two outcomes that differ in whether the places are enough are equal, or one of them is 11
differ : (x y z b c : Bool) (rest : Outcome)
    → (and_then (and_then (require x 10) (and_then (require y 7) (and_then (require z 9) (require b 11)))) rest
    ≡ and_then (and_then (require x 10) (and_then (require y 7) (and_then (require z 9) (require c 11)))) rest)
    ⊎ (((b ≡ false) × (and_then (and_then (require x 10) (and_then (require y 7) (and_then (require z 9) (require b 11)))) rest ≡ refused 11 0 0 (pos 0)))
    ⊎ ((c ≡ false) × (and_then (and_then (require x 10) (and_then (require y 7) (and_then (require z 9) (require c 11)))) rest ≡ refused 11 0 0 (pos 0))))
differ false y z b c rest = inl refl
differ true false z b c rest = inl refl
differ true true false b c rest = inl refl
differ true true true true true rest = inl refl
differ true true true false c rest = inr (inl (refl, refl))
differ true true true true false rest = inr (inr (refl, refl))

answered : {rule : ScratchRule} {text v s v' s' : List ℕ} {r : Listed} → Translated rule text v s v' s' r → (w : Outcome) → outcome_of rule text (length s) (length v) ≡ w
    → r ≡ listed_as w (line_count (sheet_in text)) (word_count (sheet_in text))
unfolding listed_of
answered {rule} {text} {v} {s} a w e = a.listed ∙ ap (λ (x : Outcome). listed_as x (line_count (sheet_in text)) (word_count (sheet_in text))) e

conclude : {text v s v' s' t v'' t' : List ℕ} {r q : Listed} → Translated full text v s v' s' r → Translated sparse text v t v'' t' q → (b c : Bool) (u w : Outcome)
    → leb (full.needed (line_count (sheet_in text))) (length s) ≡ b → leb (sparse.needed (line_count (sheet_in text))) (length t) ≡ c
    → outcome_of full text (length s) (length v) ≡ u → outcome_of sparse text (length t) (length v) ≡ w
    → (u ≡ w) ⊎ (((b ≡ false) × (u ≡ refused 11 0 0 (pos 0))) ⊎ ((c ≡ false) × (w ≡ refused 11 0 0 (pos 0)))) → ((r ≡ q) × (v' ≡ v''))
    ⊎ (((length s < full.needed (line_count (sheet_in text))) × (r ≡ listed_as (refused 11 0 0 (pos 0)) 0 0))
    ⊎ ((length t < sparse.needed (line_count (sheet_in text))) × (q ≡ listed_as (refused 11 0 0 (pos 0)) 0 0)))
conclude x y b c u w hb hc e f (inl d) = inl (alike x y (e ∙ d ∙ sym f))
conclude {text} {v} {s} x y b c u w hb hc e f (inr (inl d)) = inr (inl (leb-false (full.needed (line_count (sheet_in text))) (length s) (hb ∙ d.0), answered x (refused 11 0 0 (pos 0)) (e ∙ d.1)))
conclude {text} {v} {s} {v'} {s'} {t} x y b c u w hb hc e f (inr (inr d)) =
    inr (inr (leb-false (sparse.needed (line_count (sheet_in text))) (length t) (hc ∙ d.0), answered y (refused 11 0 0 (pos 0)) (f ∙ d.1)))

-- THE TWO WAYS: of what `translate` and `translate_sparse` return and leave, for every text, image and scratch. Answers and images are equal, or one has too few places and answers 11
pub ways_equal : {text v s v' s' t v'' t' : List ℕ} {r q : Listed} → Translated full text v s v' s' r → Translated sparse text v t v'' t' q
    → ((r ≡ q) × (v' ≡ v''))
    ⊎ (((length s < full.needed (line_count (sheet_in text))) × (r ≡ listed_as (refused 11 0 0 (pos 0)) 0 0))
    ⊎ ((length t < sparse.needed (line_count (sheet_in text))) × (q ≡ listed_as (refused 11 0 0 (pos 0)) 0 0)))
ways_equal {text} {v} {s} {v'} {s'} {t} x y =
    let b = leb (full.needed (line_count (sheet_in text))) (length s) in
    let c = leb (sparse.needed (line_count (sheet_in text))) (length t) in
    conclude x y b c _ _ refl refl (by_enough text (start_in text) (length v) full (length s) b refl) (by_enough text (start_in text) (length v) sparse (length t) c refl)
    (differ (is_sheet text) (is_some (start_of (start_line text))) (eqb (start_in text % 2) 0) b c (sheet_outcome (sheet_in text) (length v)))

-- so they are equal where enough places are lent to each
pub enough_equal : {text v s v' s' t v'' t' : List ℕ} {r q : Listed} → Translated full text v s v' s' r → Translated sparse text v t v'' t' q
    → full.needed (line_count (sheet_in text)) ≤ length s → sparse.needed (line_count (sheet_in text)) ≤ length t → (r ≡ q) × (v' ≡ v'')
enough_equal {text} {v} {s} {v'} {s'} {t} x y h g = alike x y (same_outcome text (start_in text) (length v) full sparse (length s) (length t) h g)

-- a refusal leaves the image as it was and every place 0
pub refused_zero : {rule : ScratchRule} {text v s v' s' : List ℕ} {r : Listed} → Translated rule text v s v' s' r → (r.number ≡ 0 → ⊥) → (v' ≡ v) × (s' ≡ replicate (length s) 0)
unfolding listed_of image_of scratch_of
refused_zero {rule} {text} {v} {s} {v'} {s'} {r} a h = go (outcome_of rule text (length s) (length v)) refl
  where
    go : (w : Outcome) → outcome_of rule text (length s) (length v) ≡ w → (v' ≡ v) × (s' ≡ replicate (length s) 0)
    go in_order e = absurd (h (rw (a.listed, e)))
    go (refused number line detail value) e = (a.image ∙ rw e, a.scratch ∙ rw e)

-- ---- listings
-- of what `print` and `print_sparse` write and leave
pub listings_equal : {text v s out v' s' out' t v'' t' out'' : List ℕ} {r q : Output} → Printed full text v s out v' s' out' r → Printed sparse text v t out v'' t' out'' q
    → full.needed (line_count (sheet_in text)) ≤ length s → sparse.needed (line_count (sheet_in text)) ≤ length t → (r ≡ q) × (out' ≡ out'') × (v' ≡ v'')
unfolding printed_of image_of
listings_equal {text} {v} {s} {out} {v'} {s'} {out'} {t} {v''} {t'} {out''} a b h g =
    let o = same_outcome text (start_in text) (length v) full sparse (length s) (length t) h g in
    let e : printed_of full text (length s) (length v) ≡ printed_of sparse text (length t) (length v) = ap (λ (w : Outcome). printed_as w (listing_of (sheet_in text))) o in
    let i : image_of full text (length s) v ≡ image_of sparse text (length t) v = ap (λ (w : Outcome). image_as w (image (sheet_in text)) v) o in
    (a.put.answer ∙ rw e (sym b.put.answer), a.put.buffer ∙ rw e (sym b.put.buffer), a.image ∙ rw i (sym b.image))
