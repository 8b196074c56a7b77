-- What is known where an image line was read, and where it was none. Assumes nothing.
use Rattle.std.specs.Prelude.{◌≡◌, Bool, List, ℕ, ◌≤◌, take, drop}
use Rattle.std.proofs.Math.Path.{refl, ap}
use Rattle.std.proofs.Common.{sym, ◌∙◌, arith}
use Rattle.std.proofs.Math.Bool.{true, false}
use Rattle.std.proofs.lemmas.Bool.{false≢true}
use Rattle.std.proofs.Math.ListN.{length, length-append}
use Rattle.std.proofs.Math.Seq.{take_at}
use Rattle.base_facts.specs.Tests.{cond_true, cond_false}
use Rattle.sheet_spec.specs.Translate.{over}
use Rattle.srecord_line.specs.declared.ImageLine.{ImageLine}
use Rattle.srecord_line.specs.Line.{is_read, no_line, line_of, words_left}
use Rattle.srecord_line.specs.LineForm.{image_line_start, image_line_words}

module _ (line words left : List ℕ) (l : ImageLine) (a : l ≡ line_of line (length words)) (b : left ≡ words_left line words) where
  -- it is one
  pub record Lined : Type 0 where
    pub yes : is_read line (length words) ≡ true
    pub room : l.count ≤ length left
    pub start : l.start ≡ image_line_start line
    pub image : take l.count left ≡ image_line_words line

  pub lined : l.ok ≡ true → Lined
  unfolding line_of words_left no_line
  lined h = go (is_read line (length words)) refl
    where
      go : (t : Bool) → is_read line (length words) ≡ t → Lined
      go true e =
          let s : l ≡ record { ok = true; start = image_line_start line; count = length (image_line_words line) } = a ∙ cond_true (is_read line (length words)) _ _ e in
          let i : left ≡ over (image_line_words line) words = b ∙ cond_true (is_read line (length words)) _ _ e in
          let t = take_at (image_line_words line) (drop (length (image_line_words line)) words) (length (image_line_words line)) refl in
          record { yes = e; room = rw (s, i) (rw length-append (omega arith)); start = ap (λ (k : ImageLine). k.start) s; image = rw (s, i) t }
      go false e = absurd (false≢true (sym (ap (λ (k : ImageLine). k.ok) (a ∙ cond_false (is_read line (length words)) _ _ e)) ∙ h))

  pub unlined : l.ok ≡ false → is_read line (length words) ≡ false
  unfolding line_of no_line
  unlined h = go (is_read line (length words)) refl
    where
      go : (t : Bool) → is_read line (length words) ≡ t → t ≡ false
      go true e = absurd (false≢true (sym h ∙ ap (λ (k : ImageLine). k.ok) (a ∙ cond_true (is_read line (length words)) _ _ e)))
      go false e = refl
