-- The line of a value, whatever lines its targets name: what is said for its entries fits the grammar.
use Rattle.std.specs.Prelude.{ℕ, suc, ◌≡◌, refl, true, List, [], ◌∷◌, ◌++◌, map, pos, negsuc}
use Rattle.std.proofs.Math.Option.{some}
use Rattle.numeric_spec.specs.Entry.{Entry, unsigned, signed, entry_number, inside, Inside}
use Rattle.sheet_spec.specs.declared.Kind.{Kind}
use Rattle.sheet_spec.specs.declared.Kind.TheVariants as kind
use Rattle.sheet_spec.specs.Line.{Token}
use Rattle.sheet_spec.specs.Spell.{SuitAll, next_kinds}
use Rattle.sheet_spec.specs.Made.{number_as}
use Rattle.sheet_spec.specs.Told.{Mark, labelled, numbered, unmarked, field, saying, unaimed}

-- ---- numbers and types, whatever the kinds
abbrev Numbered : Entry → Token × Entry → Type 0
Numbered e w = (number_as (λ n. some 0) w.0 ≡ entry_number w.1) × (inside e ≡ true → inside w.1 ≡ true)

plain_number_lem : (e : Entry) → Numbered e (unmarked e)
plain_number_lem (unsigned top n) = (refl, λ h. h)
plain_number_lem (signed (pos n)) = (refl, λ h. h)
plain_number_lem (signed (negsuc n)) = (refl, λ h. h)

field_number_lem : (k : Kind) (m : Mark) (e : Entry) → Numbered e (field k m e)
field_number_lem kind.Number m e = plain_number_lem e
field_number_lem kind.Target (numbered n) e = (refl, λ h. refl)
field_number_lem kind.Target (labelled n) e = (refl, λ h. refl)
field_number_lem kind.Place (numbered n) e = plain_number_lem e
field_number_lem kind.Place (labelled n) e = (refl, λ h. refl)
field_number_lem kind.Size m e = plain_number_lem e
field_number_lem kind.TargetDirection m e = plain_number_lem e
field_number_lem kind.RegisterOperand m e = plain_number_lem e
field_number_lem kind.AddressWidth m e = plain_number_lem e
field_number_lem kind.Condition m e = plain_number_lem e
field_number_lem kind.BranchSize m e = plain_number_lem e
field_number_lem kind.ShiftDirection m e = plain_number_lem e
field_number_lem kind.Sign m e = plain_number_lem e
field_number_lem kind.BitFieldOperation m e = plain_number_lem e
field_number_lem kind.FieldValue m e = plain_number_lem e
field_number_lem kind.TrapOperand m e = plain_number_lem e
field_number_lem kind.RegisterChoice m e = plain_number_lem e
field_number_lem kind.Operand m e = plain_number_lem e
field_number_lem kind.Instruction m e = plain_number_lem e

pub fields_numbers : (m : ℕ → Mark) (ks : List Kind) (es : List Entry) → Inside es → (map (number_as (λ n. some 0)) (saying m ks es) ≡ map entry_number (unaimed m ks es)) × Inside (unaimed m ks es)
fields_numbers m ks [] h = (refl, tt)
fields_numbers m [] (e ∷ es) h = (refl, tt)
fields_numbers m (k ∷ ks) (e ∷ es) h =
    let a = field_number_lem k (m 0) e in
    let b = fields_numbers (λ n. m (suc n)) (next_kinds k (field k (m 0) e).0 ++ ks) es h.1 in
    ((λ i. a.0 i ∷ b.0 i), (a.1 h.0, b.1))

-- ---- the entries of a value fit their kinds, and are those of a value when they are unaimed
pub record Fitting {X : Type 0} (form : X → List Entry) (kinds : List Kind) (x : X) (m : ℕ → Mark) (ks : List Kind) : Type 0 where
  pub untargeted : X
  pub next : ℕ → Mark
  pub leaves : (es : List Entry) → unaimed m (kinds ++ ks) (form x ++ es) ≡ form untargeted ++ unaimed next ks es
  pub fits : (es : List Entry) → Inside (form x ++ es) → (Inside es → SuitAll ks (saying next ks es)) → SuitAll (kinds ++ ks) (saying m (kinds ++ ks) (form x ++ es))
