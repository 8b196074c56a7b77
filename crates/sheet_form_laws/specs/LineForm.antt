-- A line and what its fields say: each from the other. Assumes nothing.
use Rattle.std.specs.Prelude.{ℕ, ◌≡◌, refl, List, [], ◌∷◌, ◌++◌}
use Rattle.std.proofs.Common.{sym, ap, ◌∙◌}
use Rattle.base_spec.specs.Parts.{fields}
use Rattle.base_spec.specs.Lines.{lines_of}
use Rattle.sheet_spec.specs.declared.Kind.{Kind}
use Rattle.sheet_spec.specs.declared.Kind.TheVariants as kind
use Rattle.sheet_spec.specs.Grammar.{kinds_of}
use Rattle.sheet_spec.specs.Line.{Token, literal, label, invalid, says, with, after, line_from, line_of}
use Rattle.sheet_spec.specs.Spell.{spelled, Suits, next_kinds, SuitAll, fields_from, joined, spell}
use Rattle.sheet_facts.specs.Fields.{suits_some}
use Rattle.sheet_facts.specs.Lines.{by_line, line_fits}
use Rattle.sheet_form_laws.specs.FieldForm.{token-spelled, token-is, field-solid}
use Rattle.sheet_form_laws.specs.JoinForm.{Solid, joined-fields, fields-joined, joined_line}

-- a field said, then the others
token_on : (k : Kind) (ks : List Kind) (fs : List (List ℕ)) (v : Token) (vs : List Token) → Suits k v → line_from (next_kinds k v ++ ks) fs ≡ says vs
    → after v (λ n. line_from (kinds_of k n ++ ks) fs) (line_from ks fs) ≡ says (v ∷ vs)
token_on k ks fs (literal s n) vs h e = ap (with (literal s n)) e
token_on k ks fs (label n) vs h e = ap (with (label n)) e
token_on k ks fs invalid vs h e = absurd (suits_some k h)

from-spelled : (ks : List Kind) (vs : List Token) → SuitAll ks vs → line_from ks (fields_from ks vs) ≡ says vs
from-spelled [] [] h = refl
from-spelled [] (v ∷ vs) h = absurd h
from-spelled (k ∷ ks) [] h = absurd h
from-spelled (k ∷ ks) (v ∷ vs) h =
    let fs : List (List ℕ) = fields_from (next_kinds k v ++ ks) vs in
    ap (λ (x : Token). after x (λ n. line_from (kinds_of k n ++ ks) fs) (line_from ks fs)) (token-spelled k v h.0)
    ∙ token_on k ks fs v vs h.0 (from-spelled (next_kinds k v ++ ks) vs h.1)

solid-from : (ks : List Kind) (vs : List Token) → SuitAll ks vs → Solid (fields_from ks vs)
solid-from [] [] h = tt
solid-from [] (v ∷ vs) h = absurd h
solid-from (k ∷ ks) [] h = absurd h
solid-from (k ∷ ks) (v ∷ vs) h = (field-solid k v h.0, solid-from (next_kinds k v ++ ks) vs h.1)

pub line_spelled : (vs : List Token) → SuitAll (kind.Instruction ∷ []) vs → line_of (spell vs) ≡ says vs
unfolding line_of spell
line_spelled [] h = absurd h
line_spelled (v ∷ vs) h =
    let ks : List Kind = kind.Instruction ∷ [] in
    let fs : List (List ℕ) = fields_from (next_kinds kind.Instruction v ++ []) vs in
    ap (line_from ks) (fields-joined (spelled kind.Instruction v) fs (solid-from ks (v ∷ vs) h)) ∙ from-spelled ks (v ∷ vs) h

-- a spelling and a line feed are the first line of a text that begins with them
pub line_in_text : (vs : List Token) → SuitAll (kind.Instruction ∷ []) vs → (rest : List ℕ) → lines_of (spell vs ++ (10 ∷ rest)) ≡ spell vs ∷ lines_of rest
unfolding spell
line_in_text vs h rest = joined_line (fields_from (kind.Instruction ∷ []) vs) rest (solid-from (kind.Instruction ∷ []) vs h)

-- the fields of a line are the spellings of what they say
pub spelled_line_lem : (t : List ℕ) (vs : List Token) → line_of t ≡ says vs → SuitAll (kind.Instruction ∷ []) vs × (t ≡ spell vs)
unfolding spell
spelled_line_lem t vs e =
    let spelt : fields t ≡ fields_from (kind.Instruction ∷ []) vs =
    by_line (λ ks fs ws. fs ≡ fields_from ks ws) refl (λ k ks f fs v ws q h r. let g : f ≡ spelled k v = token-is k f v q h in λ i. g i ∷ r i) t vs e in
    (line_fits t vs e, sym (joined-fields t) ∙ ap joined spelt)
