-- The spelling of a line (01, "The listing"): its fields, parted by tabs.
use Rattle.std.specs.Prelude.{ℕ, ◌<◌, ◌^◌, Bool, true, false, List, [], ◌∷◌, ◌++◌, map, length, get_or}
use Rattle.base_spec.specs.Written.{decimal_of}
use Rattle.sheet_spec.specs.declared.Kind.{Kind}
use Rattle.sheet_spec.specs.declared.Kind.TheVariants as kind
use Rattle.sheet_spec.specs.Names.{bytes, names_of}
use Rattle.sheet_spec.specs.Grammar.{kinds_of}
use Rattle.sheet_spec.specs.Line.{Token, literal, label, invalid, by_kind}

abbrev pub sign_text : Bool → List ℕ
sign_text true = 45 ∷ []
sign_text false = []

-- a number, and `@` before a line's number
abbrev pub number_text : Token → List ℕ
number_text (literal negative n) = sign_text negative ++ decimal_of n
number_text (label n) = 64 ∷ decimal_of n
number_text invalid = []

-- a variant's name
abbrev pub name_text : Kind → Token → List ℕ
name_text k (literal negative n) = get_or (map bytes (names_of k)) n []
name_text k (label n) = []
name_text k invalid = []

abbrev pub spelled : Kind → Token → List ℕ
spelled k v = by_kind k (number_text v) (number_text v) (number_text v) (name_text k v)

-- what may stand in a field of a kind: a number below 2^64, -0 excepted; a line's number; the place of a name
abbrev pub Written : Token → Type 0
Written (literal true n) = (0 < n) × (n < 2 ^ 64)
Written (literal false n) = n < 2 ^ 64
Written (label n) = ⊥
Written invalid = ⊥

abbrev pub Labelled : Token → Type 0
Labelled (literal negative n) = ⊥
Labelled (label n) = Unit {0}
Labelled invalid = ⊥

abbrev pub Either : Token → Type 0
Either (literal negative n) = Written (literal negative n)
Either (label n) = Unit {0}
Either invalid = ⊥

abbrev pub Variant : Kind → Token → Type 0
Variant k (literal true n) = ⊥
Variant k (literal false n) = (n < length (names_of k)) × (0 < length (get_or (map bytes (names_of k)) n []))
Variant k (label n) = ⊥
Variant k invalid = ⊥

abbrev pub Suits : Kind → Token → Type 0
Suits k v = by_kind k (Written v) (Labelled v) (Either v) (Variant k v)

-- the fields that come next
abbrev pub next_kinds : Kind → Token → List Kind
next_kinds k (literal negative n) = kinds_of k n
next_kinds k (label n) = []
next_kinds k invalid = []

-- entries that suit the grammar, and their fields
abbrev pub SuitAll : List Kind → List Token → Type 0
SuitAll [] [] = Unit {0}
SuitAll [] (v ∷ vs) = ⊥
SuitAll (k ∷ ks) [] = ⊥
SuitAll (k ∷ ks) (v ∷ vs) = Suits k v × SuitAll (next_kinds k v ++ ks) vs

abbrev pub fields_from : List Kind → List Token → List (List ℕ)
fields_from [] [] = []
fields_from [] (v ∷ vs) = []
fields_from (k ∷ ks) [] = []
fields_from (k ∷ ks) (v ∷ vs) = spelled k v ∷ fields_from (next_kinds k v ++ ks) vs

-- parted by tabs
abbrev pub joined : List (List ℕ) → List ℕ
joined [] = []
joined (f ∷ []) = f
joined (f ∷ (g ∷ fs)) = f ++ (9 ∷ joined (g ∷ fs))

unfoldable pub spell : List Token → List ℕ
spell vs = joined (fields_from (kind.Instruction ∷ []) vs)
