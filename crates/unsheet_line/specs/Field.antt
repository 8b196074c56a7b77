-- What is written for a number that is held as sign and magnitude, by the kind of its field.
use Rattle.std.specs.Prelude.{ℕ, Bool, cond, List, [], ◌∷◌, map, get_or}
use Rattle.std.proofs.Math.Option.{Option}
use Rattle.sheet_spec.specs.declared.Kind.{Kind}
use Rattle.sheet_spec.specs.Names.{bytes, names_of}
use Rattle.sheet_spec.specs.Line.{literal, by_kind}
use Rattle.sheet_spec.specs.Spell.{number_text}
use Rattle.unsheet_spec.specs.Text.{target_or}

abbrev pub target_text : Option ℕ → ℕ → List ℕ
target_text line n = number_text (target_or line n)

abbrev pub field_spelled : (ℕ → Option ℕ) → Kind → Bool → ℕ → List ℕ
field_spelled lands k negative n =
    by_kind k (number_text (literal negative n)) (target_text (lands n) n) (target_text (lands n) n) (get_or (map bytes (names_of k)) n [])

-- LF after the last field, a tab after the others
abbrev pub ending : Bool → List ℕ
ending last = cond last (10 ∷ []) (9 ∷ [])
