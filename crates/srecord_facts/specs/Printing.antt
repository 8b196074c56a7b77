-- What is printed of an outcome: its text in the front of a buffer, or a refusal. Assumes nothing.
use Rattle.std.specs.Prelude.{◌≡◌, refl, List, ◌++◌, ℕ, ◌+◌, ◌≤◌, ℤ, pos, length, take, drop}
use Rattle.std.proofs.Common.{sym, ap, ◌∙◌, append_assoc, arith, take-append-drop, length-take-le}
use Rattle.std.proofs.lemmas.List.{drop-append-le}
use Rattle.base_spec.specs.Written.{placed}
use Rattle.base_text.specs.Wrote.{Wrote}
use Rattle.sheet_spec.specs.Translate.{Outcome, in_order, refused, over, image_as}
use Rattle.print_spec.specs.Printed.{line_refusal, printed_as}
use Rattle.srecord_spec.specs.Promises.{PrintedInto}

-- a text written from the first place on is printed
pub printed_into : {buf t out : List ℕ} {n : ℕ} → Wrote buf 0 t out n → PrintedInto t buf out n
printed_into w = record { count = omega (arith, w.next); buffer = w.image }

-- ---- a text in the front of a part of a buffer

-- an outcome's number and value, 0 where it is in order
abbrev pub number_of : Outcome → ℕ
number_of in_order = 0
number_of (refused number line detail value) = number

abbrev pub value_of : Outcome → ℤ
value_of in_order = pos 0
value_of (refused number line detail value) = value

-- refused outside lines, if at all
abbrev pub Outside : Outcome → Type 0
Outside in_order = Unit {0}
Outside (refused number line detail value) = (number ≡ 0 → ⊥) × (line ≡ 0) × (detail ≡ 0)

part_placed : (t out : List ℕ) (room : ℕ) → length t ≤ room → room ≤ length out → over t (take room out) ++ drop room out ≡ placed out 0 t
part_placed t out room h g =
    let n : length (take room out) ≡ room = length-take-le room out g in
    let d : drop (length t) (take room out) ++ drop room out ≡ drop (length t) out =
    sym (drop-append-le (length t) (take room out) (drop room out) (omega arith)) ∙ ap (drop (length t)) (take-append-drop room out) in
    let q : 0 + length t ≡ length t = omega arith in
    rw q (append_assoc t (drop (length t) (take room out)) (drop room out) ∙ ap (λ (r : List ℕ). t ++ r) d)

module _ (t out : List ℕ) (room : ℕ) (h : room ≤ length out) where
  -- the whole text
  pub part_whole : (o : Outcome) → Outside o → (o ≡ in_order → length t ≤ room) → number_of o ≡ 0
      → PrintedInto (printed_as o t) out (image_as o t (take room out) ++ drop room out) (length t) × (length t ≤ length out)
  part_whole in_order s f e = (record { count = refl; buffer = part_placed t out room (f refl) h }, omega (arith, f refl))
  part_whole (refused number line detail value) s f e = absurd (s.0 e)

  -- nothing of it
  pub part_none : (o : Outcome) → Outside o → (number_of o ≡ 0 → ⊥)
      → (image_as o t (take room out) ++ drop room out ≡ out) × (line_refusal (number_of o) 0 0 (value_of o) ≡ printed_as o t)
  part_none in_order s e = absurd (e refl)
  part_none (refused number line detail value) s e = (take-append-drop room out, rw (s.1, s.2))
