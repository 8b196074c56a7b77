-- A first line is in the form exactly when it is START, a tab and an address of 32 bits.
use Rattle.std.specs.Prelude.{ℕ, ◌<◌, ◌^◌, ◌≡◌, refl, Bool, true, false, cond, List, [], ◌∷◌, ◌++◌, ltb}
use Rattle.std.proofs.Common.{sym, ap, ◌∙◌, arith, ltb-true, lt-ltb}
use Rattle.std.proofs.Math.Option.{none, some}
use Rattle.base_spec.specs.Number as number
use Rattle.base_spec.specs.Parts.{fields}
use Rattle.base_spec.specs.Number.{Number, number_of}
use Rattle.base_spec.specs.Written.{decimal_of}
use Rattle.sheet_spec.specs.Names.{bytes}
use Rattle.sheet_spec.specs.Line.{equal}
use Rattle.sheet_spec.specs.Spell.{joined}
use Rattle.sheet_facts.specs.Facts.{equal_is}
use Rattle.sheet_form_laws.specs.NumberForm.{number_form, number_back}
use Rattle.sheet_form_laws.specs.JoinForm.{joined-fields, fields-joined}
use Rattle.sheet_form_laws.specs.FieldForm.{decimal_solid}
use Rattle.sheet_spec.specs.Sheet.{start_as, start_fields, start_of}
use Rattle.sheet_spec.specs.Promises.{start_text}

not_some : {n : ℕ} → none ≡ some n → ⊥
not_some e = let z : ◌≡◌ {A = ℕ} 0 1 = cc in absurd (omega arith)

as_sound : (g : List ℕ) (k : Number) (n : ℕ) → number_of g ≡ k → start_as k ≡ some n → (g ≡ decimal_of n) × (n < 2 ^ 32)
as_sound g (number.Is true m) n h e = absurd (not_some e)
as_sound g (number.Is false m) n h e = go (ltb m (2 ^ 32)) refl e
  where
    go : (t : Bool) → ltb m (2 ^ 32) ≡ t → cond t (some m) none ≡ some n → (g ≡ decimal_of n) × (n < 2 ^ 32)
    go true q e =
        let v : m ≡ n = cc in
        ((number_form g false m h).0 ∙ ap decimal_of v, rw v at (ltb-true m (2 ^ 32) q))
    go false q e = absurd (not_some e)
as_sound g number.No n h e = absurd (not_some e)

fields_sound : (fs : List (List ℕ)) (n : ℕ) → start_fields fs ≡ some n → (joined fs ≡ start_text n) × (n < 2 ^ 32)
fields_sound [] n e = absurd (not_some e)
fields_sound (f ∷ []) n e = absurd (not_some e)
fields_sound (f ∷ (g ∷ [])) n e = go (equal f (bytes "START")) refl e
  where
    go : (t : Bool) → equal f (bytes "START") ≡ t → cond t (start_as (number_of g)) none ≡ some n → (joined (f ∷ (g ∷ [])) ≡ start_text n) × (n < 2 ^ 32)
    go true q e =
        let h = equal_is f (bytes "START") q in
        let d = as_sound g (number_of g) n refl e in
        let w : g ≡ decimal_of n = d.0 in
        ((λ i. h i ++ (9 ∷ w i)), d.1)
    go false q e = absurd (not_some e)
fields_sound (f ∷ (g ∷ (h ∷ fs))) n e = absurd (not_some e)

pub start_sound : (line : List ℕ) (n : ℕ) → start_of line ≡ some n → (line ≡ start_text n) × (n < 2 ^ 32)
start_sound line n e = let d = fields_sound (fields line) n e in (sym (joined-fields line) ∙ d.0, d.1)

pub start_complete : (n : ℕ) → n < 2 ^ 32 → start_of (start_text n) ≡ some n
start_complete n h =
    let f : fields (start_text n) ≡ bytes "START" ∷ decimal_of n ∷ [] = fields-joined (bytes "START") (decimal_of n ∷ []) (refl, (decimal_solid n, tt)) in
    let k : number_of (decimal_of n) ≡ number.Is false n = number_back false n (omega arith) in
    ap start_fields f ∙ ap start_as k ∙ rw (lt-ltb n (2 ^ 32) h)
