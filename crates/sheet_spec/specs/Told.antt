-- A line for every instruction, with any labels.
use Rattle.std.specs.Prelude.{ℕ, suc, ◌-◌, ◌^◌, true, false, pos, negsuc, List, [], ◌∷◌, ◌++◌, map, ◌≡◌}
use Rattle.numeric_spec.specs.Entry.{Entry, unsigned, signed}
use Rattle.numeric_spec.specs.Form.{form_of}
use Rattle.sheet_spec.specs.Line.{Token, literal, label, by_kind}
use Rattle.sheet_spec.specs.declared.Kind.{Kind}
use Rattle.sheet_spec.specs.Spell.{next_kinds}
use Rattle.sheet_spec.specs.Made.{Line}
use Rattle.sheet_spec.specs.declared.Kind.TheVariants as kind
use Rattle.std.proofs.Math.Option.{some}
use Rattle.isa.specs.declared.Instruction.{Instruction}

-- what stands for a target: the label of line n; for an operand's target its own number may stand instead
pub data Mark : Type 0 where
  numbered : ℕ → Mark
  labelled : ℕ → Mark

-- what stands for an entry in a field of a kind, and the entry, with 0 for a target that a label stands for
abbrev pub unmarked : Entry → Token × Entry
unmarked (unsigned top n) = (literal false n, unsigned top n)
unmarked (signed (pos n)) = (literal false n, signed (pos n))
unmarked (signed (negsuc n)) = (literal true (suc n), signed (negsuc n))

abbrev pub aimed : ℕ → Token × Entry
aimed n = (label n, unsigned (2 ^ 32 - 1) 0)

abbrev pub field : Kind → Mark → Entry → Token × Entry
field k m e =
    by_kind k (unmarked e) (elim m [ numbered n ↦ aimed n | labelled n ↦ aimed n ]) (elim m [ numbered n ↦ unmarked e | labelled n ↦ aimed n ]) (unmarked e)

-- the fields of entries, by the grammar, with a mark for each
abbrev pub fields_by : (ℕ → Mark) → List Kind → List Entry → List (Token × Entry)
fields_by m ks [] = []
fields_by m [] (e ∷ es) = []
fields_by m (k ∷ ks) (e ∷ es) = field k (m 0) e ∷ fields_by (λ n. m (suc n)) (next_kinds k (field k (m 0) e).0 ++ ks) es

abbrev pub saying : (ℕ → Mark) → List Kind → List Entry → List Token
saying m ks es = map (λ w. w.0) (fields_by m ks es)

abbrev pub unaimed : (ℕ → Mark) → List Kind → List Entry → List Entry
unaimed m ks es = map (λ w. w.1) (fields_by m ks es)

-- a line for an instruction: its entries, with 0 for each target that a label stands for
pub record Told (m : ℕ → Mark) (i : Instruction) : Type 0 where
  pub untargeted : Instruction
  pub form : form_of untargeted ≡ unaimed m (kind.Instruction ∷ []) (form_of i)
  pub line : Line (λ k. some 0) (saying m (kind.Instruction ∷ []) (form_of i)) untargeted
