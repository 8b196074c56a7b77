-- What an accepted sheet leaves: its image in front of the lent words, its addresses in front of the scratch.
use Rattle.std.specs.Prelude.{ℕ, pred, ◌≤◌, ◌≡◌, refl, List, length, take, drop, get_or}
use Rattle.std.proofs.Common.{sym, ap, ◌∙◌, arith}
use Rattle.std.proofs.Math.ListN.{get_or-append}
use Rattle.sheet_spec.specs.declared.Listed.{Listed}
use Rattle.sheet_spec.specs.Sheet.{start_in, sheet_in, line_count, word_count, addresses, image}
use Rattle.sheet_spec.specs.Translate.{ScratchRule, Outcome, in_order, refused, over, outcome_of, listed_as, listed_of, image_as, image_of, scratch_as, scratch_of}
use Rattle.sheet_size_facts.specs.Counted.{image-counts}
use Rattle.sheet_spec.specs.Promises.{Translated}
use Rattle.sheet_size_facts.specs.OutcomeLaws.{Sound, outcome_sound}
use Rattle.sheet_size_facts.specs.Scratch.{Filled}
use Rattle.sheet_translate.specs.PlaceLaws.{over_take, held_places}

-- ---- an answer with no number is an accepted sheet's
listed_fine : (w : Outcome) → Sound w → (lines words : ℕ) → (listed_as w lines words).number ≡ 0 → w ≡ in_order
listed_fine in_order s lines words e = refl
listed_fine (refused number line detail value) s lines words e = absurd (s e)

number_fine : (rule : ScratchRule) (text : List ℕ) (places room : ℕ) (r : Listed) → r ≡ listed_of rule text places room → r.number ≡ 0 → outcome_of rule text places room ≡ in_order
unfolding listed_of
number_fine rule text places room r e h =
    listed_fine (outcome_of rule text places room) (outcome_sound rule text (start_in text) places room) (line_count (sheet_in text)) (word_count (sheet_in text)) (ap (λ (x : Listed). x.number) (sym e) ∙ h)

pub record Left (rule : ScratchRule) (text v s v' s' : List ℕ) (r : Listed) : Type 0 where
  pub accepts : outcome_of rule text (length s) (length v) ≡ in_order
  pub lines : r.lines ≡ line_count (sheet_in text)
  pub counted : r.words ≡ word_count (sheet_in text)
  pub words : take r.words v' ≡ image (sheet_in text)
  pub image : v' ≡ over (image (sheet_in text)) v
  pub scratch : s' ≡ over (rule.held (addresses (sheet_in text))) s
  pub places : (n : ℕ) → 1 ≤ n → n ≤ rule.needed (line_count (sheet_in text)) → get_or s' (pred n) 0 ≡ get_or (rule.held (addresses (sheet_in text))) (pred n) 0

place_at : {rule : ScratchRule} → Filled rule → (text s : List ℕ) (n : ℕ) → 1 ≤ n → n ≤ rule.needed (line_count (sheet_in text))
    → get_or (over (rule.held (addresses (sheet_in text))) s) (pred n) 0 ≡ get_or (rule.held (addresses (sheet_in text))) (pred n) 0
place_at {rule} f text s n g k =
    let held = rule.held (addresses (sheet_in text)) in
    get_or-append held (drop (length held) s) 0 (pred n) (omega (arith, held_places f text))

pub left : {rule : ScratchRule} → Filled rule → (text v s v' s' : List ℕ) (r : Listed) → Translated rule text v s v' s' r → r.number ≡ 0 → Left rule text v s v' s' r
unfolding listed_of image_of scratch_of
left {rule} f text v s v' s' r t h =
    let e = number_fine rule text (length s) (length v) r t.listed h in
    let held = rule.held (addresses (sheet_in text)) in
    let answer : r ≡ listed_as in_order (line_count (sheet_in text)) (word_count (sheet_in text)) = t.listed ∙ ap (λ (w : Outcome). listed_as w (line_count (sheet_in text)) (word_count (sheet_in text))) e in
    let counted : r.words ≡ word_count (sheet_in text) = ap (λ (x : Listed). x.words) answer in
    let written : v' ≡ over (image (sheet_in text)) v = t.image ∙ ap (λ (w : Outcome). image_as w (image (sheet_in text)) v) e in
    let scratch : s' ≡ over (rule.held (addresses (sheet_in text))) s = t.scratch ∙ ap (λ (w : Outcome). scratch_as w held s) e in
    record {
      accepts = e;
      lines = ap (λ (x : Listed). x.lines) answer;
      counted = counted;
      image = written;
      scratch = scratch;
      words = rw written (over_take (image (sheet_in text)) v r.words (image-counts rule text (start_in text) (length s) (length v) e ∙ sym counted));
      places = λ n g k. rw scratch (place_at f text s n g k);
    }
