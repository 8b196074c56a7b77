-- What is printed, from the sheet that is found. Assumes nothing.
use Rattle.std.specs.Prelude.{◌≡◌, refl, List, ◌++◌, ℕ, ◌≤◌, leb, pos, take, drop}
use Rattle.std.proofs.Math.Path.{sym, ap}
use Rattle.std.proofs.Common.{◌∙◌, length-take-le}
use Rattle.std.proofs.Math.ListN.{length}
use Rattle.base_facts.specs.Tests.{and-true, leb_is}
use Rattle.sheet_spec.specs.Translate.{Outcome, in_order, refused, image_as}
use Rattle.print_spec.specs.Printed.{line_refusal}
use Rattle.srecord_spec.specs.declared.Loaded.{Loaded}
use Rattle.srecord_spec.specs.Promises.{RecordsRead, PrintedInto}
use Rattle.srecord_facts.specs.Printing.{number_of, value_of, Outside, part_whole, part_none}
use Rattle.srecord_facts.specs.Loading.{loads, not_loaded}
use Rattle.unsheet_spec.specs.declared.Unsheeted.{Unsheeted}
use Rattle.unsheet_spec.specs.Lines.{lines_in}
use Rattle.unsheet_spec.specs.Text.{sheet_text}
use Rattle.unsheet_spec.specs.Unsheet.{unsheet_outcome, unsheeted_as, unsheeted_of, bytes_left}
use Rattle.unsheet_spec.specs.Printed.{unsheet_text, records_sheet}
use Rattle.unsheet_spec.specs.Promises.{SheetFound}
use Rattle.unsheet_facts.specs.Stages.{stages, outside}

fits : (start : ℕ) (image : List ℕ) (room : ℕ) → unsheet_outcome start image room ≡ in_order → length (sheet_text start image) ≤ room
fits start image room e = leb_is _ room (and-true (leb (length (sheet_text start image)) 65536) _ (stages start image room e).short).1

answer_whole : (o : Outcome) (bytes lines : ℕ) → Outside o → number_of o ≡ 0 → (unsheeted_as o bytes lines).bytes ≡ bytes
answer_whole in_order bytes lines s e = refl
answer_whole (refused number line detail value) bytes lines s e = absurd (s.0 e)

number_is : (o : Outcome) (bytes lines : ℕ) → ((unsheeted_as o bytes lines).number ≡ number_of o) × ((unsheeted_as o bytes lines).value ≡ value_of o)
number_is in_order bytes lines = (refl, refl)
number_is (refused number line detail value) bytes lines = (refl, refl)

module _ (start room : ℕ) (image out : List ℕ) {left : List ℕ} {r : Unsheeted} (w : SheetFound start image (take room out) left r) (h : room ≤ length out) where
  abbrev o : Outcome
  o = unsheet_outcome start image room

  abbrev sheet : List ℕ
  sheet = sheet_text start image

  abbrev count : ℕ
  count = length (lines_in start image)

  answer_is : r ≡ unsheeted_as o (length sheet) count
  unfolding unsheeted_of
  answer_is = w.answer ∙ ap (unsheeted_of start image) (length-take-le room out h)

  left_is : left ≡ image_as o sheet (take room out)
  unfolding bytes_left
  left_is = w.bytes ∙ ap (λ (n : ℕ). image_as (unsheet_outcome start image n) sheet (take room out)) (length-take-le room out h)

  number_of_lem : r.number ≡ number_of o
  number_of_lem = ap (λ (s : Unsheeted). s.number) answer_is ∙ (number_is o (length sheet) count).0

  value_of_lem : r.value ≡ value_of o
  value_of_lem = ap (λ (s : Unsheeted). s.value) answer_is ∙ (number_is o (length sheet) count).1

  pub found : r.number ≡ 0 → PrintedInto (unsheet_text start image room) out (left ++ drop room out) r.bytes × (r.bytes ≤ length out)
  unfolding unsheet_text
  found z =
      let s = outside start image room in
      let e = sym number_of_lem ∙ z in
      let c : r.bytes ≡ length sheet = ap (λ (s : Unsheeted). s.bytes) answer_is ∙ answer_whole o (length sheet) count s e in
      rw (c, left_is) (part_whole sheet out room h o s (fits start image room) e)

  pub not_found : (r.number ≡ 0 → ⊥) → (left ++ drop room out ≡ out) × (line_refusal r.number 0 0 r.value ≡ unsheet_text start image room)
  unfolding unsheet_text
  not_found z = rw (left_is, number_of_lem, value_of_lem) (part_none sheet out room h o (outside start image room) (λ e. z (number_of_lem ∙ e)))

-- ---- a text of S-records
module _ {text v v' : List ℕ} {r : Loaded} (w : RecordsRead text v v' r) (room : ℕ) where
  pub records_sheet_lem : r.number ≡ 0 → unsheet_text r.start (take r.words v') room ≡ records_sheet text (length v) room
  unfolding records_sheet unsheet_text
  records_sheet_lem h = let l = loads w h in rw (l.start_is, l.image, l.order)

  pub records_refused : (r.number ≡ 0 → ⊥) → line_refusal r.number r.line 0 (pos 0) ≡ records_sheet text (length v) room
  unfolding records_sheet
  records_refused h = rw (not_loaded w h)
