-- The place of a variant's name: of at most eight bytes by its key, of more by its length.
use Rattle.std.specs.Prelude.{ℕ, suc, ◌+◌, ◌*◌, Bool, false, cond, ◌&&◌, List, [], ◌∷◌, map, eqb, leb, length, get_or, Option, Some, None}
use Rattle.sheet_spec.specs.declared.Kind.{Kind}
use Rattle.sheet_spec.specs.Names.{bytes, names_of}
use Rattle.sheet_spec.specs.Line.{equal}
use Rattle.sheet_tokens.specs.declared.Value.{Value}
use Rattle.sheet_tokens.specs.declared.Value.TheVariants as value

-- bytes as one number, the first in the lowest
abbrev pub key_of : List ℕ → ℕ
key_of [] = 0
key_of (b ∷ bs) = b + 256 * key_of bs

abbrev pub two_at : List ℕ → ℕ → ℕ
two_at f i = get_or f i 0 + 256 * get_or f (i + 1) 0

abbrev pub four_at : List ℕ → ℕ → ℕ
four_at f i = two_at f i + 65536 * two_at f (i + 2)

-- has a key
abbrev pub has_key : List ℕ → Bool
has_key [] = false
has_key (b ∷ bs) = leb (length (b ∷ bs)) 8

-- the first place from k on whose name has a key
abbrev pub key_place : ℕ → ℕ → List (List ℕ) → Option ℕ
key_place key k [] = None
key_place key k (n ∷ ns) = cond (has_key n && eqb key (key_of n)) (Some k) (key_place key (suc k) ns)

unfoldable pub short_place : Kind → ℕ → Option ℕ
short_place kind key = key_place key 0 (map bytes (names_of kind))

-- the first place from k on of a field among the names of more than eight bytes
abbrev pub long_from : ℕ → List ℕ → List (List ℕ) → Option ℕ
long_from k f [] = None
long_from k f (n ∷ ns) = cond (leb (length n) 8) (long_from (suc k) f ns) (cond (equal f n) (Some k) (long_from (suc k) f ns))

unfoldable pub long_place : Kind → List ℕ → Option ℕ
long_place kind f = long_from 0 f (map bytes (names_of kind))

abbrev pub place_value : Option ℕ → Option Value
place_value (Some n) = Some (value.Number false n)
place_value None = None
