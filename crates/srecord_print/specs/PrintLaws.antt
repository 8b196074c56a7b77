-- What is printed, from what is written and read. Assumes nothing.
use Rattle.std.specs.Prelude.{◌≡◌, List, ◌++◌, ℕ, ◌^◌, ◌≤◌, pos, take, drop}
use Rattle.std.proofs.Math.Path.{refl, sym, ap}
use Rattle.std.proofs.Common.{◌∙◌, arith, length-take-le}
use Rattle.std.proofs.Math.Dec.{leb}
use Rattle.std.proofs.Math.ListN.{length}
use Rattle.base_facts.specs.Tests.{leb_is}
use Rattle.sheet_spec.specs.Sheet.{end_of}
use Rattle.sheet_spec.specs.Translate.{Outcome, in_order, refused, require, image_as}
use Rattle.sheet_facts.specs.Listing.{both_in_order, require_true}
use Rattle.print_spec.specs.Printed.{line_refusal}
use Rattle.srecord_spec.specs.declared.Written.{Written}
use Rattle.srecord_spec.specs.declared.Loaded.{Loaded}
use Rattle.srecord_spec.specs.Write.{image_text, write_outcome, written_as, written_of, text_left}
use Rattle.srecord_spec.specs.Printed.{image_line, written_text, loaded_text}
use Rattle.srecord_spec.specs.Promises.{RecordsWritten, RecordsRead, PrintedInto}
use Rattle.srecord_facts.specs.Refused.{of_then, of_cond}
use Rattle.srecord_facts.specs.Printing.{number_of, value_of, Outside, part_whole, part_none}
use Rattle.srecord_facts.specs.Loading.{loads, not_loaded}

-- ---- an image that is written

-- refused outside lines and without a value
abbrev Bare : Outcome → Type 0
Bare o = Outside o × (value_of o ≡ pos 0)

module _ (start : ℕ) (image : List ℕ) (room : ℕ) where
  bare : Bare (write_outcome start image room)
  unfolding write_outcome
  bare =
      let end = leb (end_of start (length image)) (2 ^ 32) in
      let fits = leb (length (image_text start image)) room in
      of_then Bare (require end 9) (require fits 11)
      (of_cond Bare end in_order (refused 9 0 0 (pos 0)) (tt, refl) (((λ h. omega arith), refl, refl), refl))
      (of_cond Bare fits in_order (refused 11 0 0 (pos 0)) (tt, refl) (((λ h. omega arith), refl, refl), refl))

  fits : write_outcome start image room ≡ in_order → length (image_text start image) ≤ room
  unfolding write_outcome
  fits e =
      let t = leb (length (image_text start image)) room in
      leb_is (length (image_text start image)) room (require_true t 11 (both_in_order (require (leb (end_of start (length image)) (2 ^ 32)) 9) (require t 11) e).1)

count_whole : (o : Outcome) (n : ℕ) → Outside o → number_of o ≡ 0 → (written_as o n).count ≡ n
count_whole in_order n s e = refl
count_whole (refused number line detail value) n s e = absurd (s.0 e)

number_is : (o : Outcome) (n : ℕ) → (written_as o n).number ≡ number_of o
number_is in_order n = refl
number_is (refused number line detail value) n = refl

module _ (start room : ℕ) (image out : List ℕ) {left : List ℕ} {r : Written} (w : RecordsWritten start image (take room out) left r) (h : room ≤ length out) where
  abbrev o : Outcome
  o = write_outcome start image room

  abbrev t : List ℕ
  t = image_text start image

  answer_is : r ≡ written_as o (length t)
  unfolding written_of
  answer_is = w.answer ∙ ap (written_of start image) (length-take-le room out h)

  left_is : left ≡ image_as o t (take room out)
  unfolding text_left
  left_is = w.text ∙ ap (λ (n : ℕ). image_as (write_outcome start image n) t (take room out)) (length-take-le room out h)

  number_of_lem : r.number ≡ number_of o
  number_of_lem = ap (λ (s : Written). s.number) answer_is ∙ number_is o (length t)

  pub written_yes : r.number ≡ 0 → PrintedInto (written_text start image room) out (left ++ drop room out) r.count × (r.count ≤ length out)
  unfolding written_text
  written_yes z =
      let s = (bare start image room).0 in
      let e = sym number_of_lem ∙ z in
      let c : r.count ≡ length t = ap (λ (s : Written). s.count) answer_is ∙ count_whole o (length t) s e in
      rw (c, left_is) (part_whole t out room h o s (fits start image room) e)

  pub written_no : (r.number ≡ 0 → ⊥) → (left ++ drop room out ≡ out) × (line_refusal r.number 0 0 (pos 0) ≡ written_text start image room)
  unfolding written_text
  written_no z =
      let b = bare start image room in
      rw (left_is, number_of_lem, ← b.1) (part_none t out room h o b.0 (λ e. z (number_of_lem ∙ e)))

-- ---- a text that is read
module _ {text v v' : List ℕ} {r : Loaded} (w : RecordsRead text v v' r) where
  pub loaded_line : r.number ≡ 0 → image_line r.start (take r.words v') ≡ loaded_text text (length v)
  unfolding loaded_text
  loaded_line h = let l = loads w h in rw (l.start_is, l.image, l.order)

  pub refusal_is : (r.number ≡ 0 → ⊥) → line_refusal r.number r.line 0 (pos 0) ≡ loaded_text text (length v)
  unfolding loaded_text
  refusal_is h = rw (not_loaded w h)
