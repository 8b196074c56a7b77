-- What a line says (01, "The listing"): its fields against the grammar.
use Rattle.std.specs.Prelude.{ℕ, suc, Bool, true, false, cond, not, ◌&&◌, List, [], ◌∷◌, ◌++◌, map, eqb}
use Rattle.base_spec.specs.Number as number
use Rattle.base_spec.specs.Parts.{fields}
use Rattle.base_spec.specs.Number.{Number, number_of, is_decimal, value}
use Rattle.sheet_spec.specs.declared.Kind.{Kind}
use Rattle.sheet_spec.specs.declared.Kind.TheVariants as kind
use Rattle.sheet_spec.specs.Names.{bytes, names_of}
use Rattle.sheet_spec.specs.Grammar.{kinds_of}

-- what one field says: a number, a label, or nothing in the form; a variant's name says its place
pub data Token : Type 0 where
  literal : Bool → ℕ → Token
  label : ℕ → Token
  invalid : Token

abbrev pub as_number : Number → Token
as_number (number.Is negative n) = literal negative n
as_number number.No = invalid

-- `@` and a line's number, of any length
abbrev pub as_label : List ℕ → Token
as_label [] = invalid
as_label (b ∷ bs) = cond (eqb b 64 && is_decimal bs) (label (value bs)) invalid

abbrev pub is_label : List ℕ → Bool
is_label [] = false
is_label (b ∷ bs) = eqb b 64

abbrev pub equal : List ℕ → List ℕ → Bool
equal [] [] = true
equal [] (y ∷ ys) = false
equal (x ∷ xs) [] = false
equal (x ∷ xs) (y ∷ ys) = eqb x y && equal xs ys

abbrev pub is_none : List ℕ → Bool
is_none [] = true
is_none (b ∷ bs) = false

-- the place of a name among names, from k on; an empty field names nothing
abbrev pub place_from : ℕ → List ℕ → List (List ℕ) → Token
place_from k f [] = invalid
place_from k f (n ∷ ns) = cond (equal f n && not (is_none f)) (literal false k) (place_from (suc k) f ns)

abbrev pub as_variant : Kind → List ℕ → Token
as_variant k f = place_from 0 f (map bytes (names_of k))

-- by a kind: a number, a label, either, or a variant's name
abbrev pub by_kind {ℓ} : {A : Type ℓ} → Kind → A → A → A → A → A
by_kind kind.Number n t p v = n
by_kind kind.Target n t p v = t
by_kind kind.Place n t p v = p
by_kind kind.Size n t p v = v
by_kind kind.TargetDirection n t p v = v
by_kind kind.RegisterOperand n t p v = v
by_kind kind.AddressWidth n t p v = v
by_kind kind.Condition n t p v = v
by_kind kind.BranchSize n t p v = v
by_kind kind.ShiftDirection n t p v = v
by_kind kind.Sign n t p v = v
by_kind kind.BitFieldOperation n t p v = v
by_kind kind.FieldValue n t p v = v
by_kind kind.TrapOperand n t p v = v
by_kind kind.RegisterChoice n t p v = v
by_kind kind.Operand n t p v = v
by_kind kind.Instruction n t p v = v

abbrev pub token : Kind → List ℕ → Token
token k f = by_kind k (as_number (number_of f)) (as_label f) (cond (is_label f) (as_label f) (as_number (number_of f))) (as_variant k f)

-- what the fields of a line say, each by its kind; a variant's fields come after its name
pub data Parsed : Type 0 where
  says : List Token → Parsed
  no : Parsed

abbrev pub with : Token → Parsed → Parsed
with v (says vs) = says (v ∷ vs)
with v no = no

abbrev pub after : Token → (ℕ → Parsed) → Parsed → Parsed
after (literal negative n) next rest = with (literal negative n) (next n)
after (label n) next rest = with (label n) rest
after invalid next rest = no

abbrev pub line_from : List Kind → List (List ℕ) → Parsed
line_from [] [] = says []
line_from [] (f ∷ fs) = no
line_from (k ∷ ks) [] = no
line_from (k ∷ ks) (f ∷ fs) = after (token k f) (λ n. line_from (kinds_of k n ++ ks) fs) (line_from ks fs)

unfoldable pub line_of : List ℕ → Parsed
line_of text = line_from (kind.Instruction ∷ []) (fields text)
