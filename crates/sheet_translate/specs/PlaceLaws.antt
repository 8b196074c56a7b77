-- Laws of lent places: their first ones written, the later ones unchanged.
use Rattle.std.specs.Prelude.{ℕ, zero, suc, ◌+◌, ◌*◌, ◌%◌, ◌^◌, ◌≤◌, ◌≡◌, refl, Bool, true, false, cond, List, [], ◌∷◌, ◌++◌, eqb, length, take, drop, replicate}
use Rattle.std.proofs.Common.{sym, ap, ◌∙◌, arith, take_at, drop_at}
use Rattle.std.proofs.lemmas.List.{length-replicate}
use Rattle.std.proofs.Math.Seq.{drop-append_seam}
use Rattle.sheet_spec.specs.declared.Listed.{Listed}
use Rattle.isa.specs.declared.Measured.{Measured}
use Rattle.sheet_spec.specs.Sheet.{half_of, start_in, sheet_in, line_count, word_count, addresses, image}
use Rattle.sheet_spec.specs.Translate.{ScratchRule, Outcome, in_order, refused, over, outcome_of, listed_as, listed_of, image_as, image_of, scratch_as, scratch_of}
use Rattle.sheet_facts.specs.Listing.{over_length}
use Rattle.sheet_size_facts.specs.Scratch.{Filled}
use Rattle.sheet_size_facts.specs.Outcomes.{places_length, accepted}
use Rattle.sheet_size_facts.specs.Counted.{image-counts}
use Rattle.sheet_passes.specs.Passes.{filled_of}
use Rattle.sheet_spec.specs.Promises.{Translated}

pub over_take : (x v : List ℕ) (n : ℕ) → length x ≡ n → take n (over x v) ≡ x
over_take x v n e = take_at x (drop (length x) v) n e

pub over_drop : (x v : List ℕ) (n : ℕ) → length x ≡ n → drop n (over x v) ≡ drop n v
over_drop x v n e = drop_at x (drop (length x) v) n e ∙ ap (λ (k : ℕ). drop k v) e

pub over-over : (x y v : List ℕ) → length x ≡ length y → over x (over y v) ≡ over x v
over-over x y v e = ap (λ (w : List ℕ). x ++ w) (rw e (drop-append_seam y (drop (length y) v)))

-- what stands there already is written in vain
pub over-same : (n : ℕ) (x s : List ℕ) → take n s ≡ x → n ≤ length s → over x s ≡ s
over-same zero x s e h = rw (sym e)
over-same (suc n) x [] e h = absurd (omega arith)
over-same (suc n) x (b ∷ bs) e h = rw (sym e) (ap (λ (w : List ℕ). b ∷ w) (over-same n (take n bs) bs refl (omega arith)))

-- as many addresses as lines, and as many places held as they need
pub sheet_places : (text : List ℕ) → length (addresses (sheet_in text)) ≡ line_count (sheet_in text)
sheet_places text = places_length (sheet_in text)

pub held_places : {rule : ScratchRule} → Filled rule → (text : List ℕ) → length (rule.held (addresses (sheet_in text))) ≡ rule.needed (line_count (sheet_in text))
held_places {rule} f text = f.places (addresses (sheet_in text)) ∙ ap rule.needed (sheet_places text)

-- no more places are filled than there are lines
pub filled_length : (a : ℕ) (ms : List Measured) → length (filled_of a ms) ≤ length ms
filled_length a [] = omega arith
filled_length a (m ∷ ms) = go (eqb m.number 0) (filled_length (a + 2 * half_of m) ms)
  where
    go : (t : Bool) → length (filled_of (a + 2 * half_of m) ms) ≤ length ms → length (cond t (a % 2 ^ 32 ∷ filled_of (a + 2 * half_of m) ms) []) ≤ suc (length ms)
    go true h = omega arith
    go false h = omega arith

-- the scratch and the image keep their lengths
pub scratch_length : {rule : ScratchRule} → Filled rule → (text s v : List ℕ) → length (scratch_of rule text s v) ≡ length s
unfolding scratch_of
scratch_length {rule} f text s v = go (outcome_of rule text (length s) (length v)) refl
  where
    go : (w : Outcome) → outcome_of rule text (length s) (length v) ≡ w → length (scratch_as w (rule.held (addresses (sheet_in text))) s) ≡ length s
    go in_order e =
        over_length (rule.held (addresses (sheet_in text))) s (omega (arith, held_places f text, (accepted text (start_in text) (length s) (length v) e).scratch))
    go (refused number line detail value) e = length-replicate (length s) 0

pub image_length : (rule : ScratchRule) (text : List ℕ) (places : ℕ) (v : List ℕ) → length (image_of rule text places v) ≡ length v
unfolding image_of
image_length rule text places v = go (outcome_of rule text places (length v)) refl
  where
    go : (w : Outcome) → outcome_of rule text places (length v) ≡ w → length (image_as w (image (sheet_in text)) v) ≡ length v
    go in_order e =
        over_length (image (sheet_in text)) v (omega (arith, image-counts rule text (start_in text) places (length v) e, (accepted text (start_in text) places (length v) e).lines.image))
    go (refused number line detail value) e = refl

-- no more words are counted than there is room
pub words_fit : (rule : ScratchRule) (text : List ℕ) (places room : ℕ) → (listed_of rule text places room).words ≤ room
unfolding listed_of
words_fit rule text places room = go (outcome_of rule text places room) refl
  where
    go : (w : Outcome) → outcome_of rule text places room ≡ w → (listed_as w (line_count (sheet_in text)) (word_count (sheet_in text))).words ≤ room
    go in_order e = (accepted text (start_in text) places room e).lines.image
    go (refused number line detail value) e = omega arith

-- places that were written before are left as they would have been without
pub from-over : {rule : ScratchRule} (text v s v' s' : List ℕ) (r : Listed) (x : List ℕ)
    → length x ≡ length (rule.held (addresses (sheet_in text))) → length x ≤ length s → Translated rule text v (over x s) v' s' r → Translated rule text v s v' s' r
unfolding scratch_of
from-over {rule} text v s v' s' r x e h t =
    let n = over_length x s h in
    record {
      listed = t.listed ∙ ap (λ (k : ℕ). listed_of rule text k (length v)) n;
      image = t.image ∙ ap (λ (k : ℕ). image_of rule text k v) n;
      scratch = t.scratch ∙ ap (λ (k : ℕ). scratch_as (outcome_of rule text k (length v)) (rule.held (addresses (sheet_in text))) (over x s)) n ∙ go (outcome_of rule text (length s) (length v));
    }
  where
    go : (w : Outcome) → scratch_as w (rule.held (addresses (sheet_in text))) (over x s) ≡ scratch_as w (rule.held (addresses (sheet_in text))) s
    go in_order = over-over (rule.held (addresses (sheet_in text))) x s (sym e)
    go (refused number line detail value) = ap (λ (k : ℕ). replicate k 0) (over_length x s h)
