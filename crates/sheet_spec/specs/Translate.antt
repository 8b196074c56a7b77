-- What the translator answers, and what it leaves in the image and the scratch.
use Rattle.std.specs.Prelude.{ℕ, suc, ◌+◌, ◌/◌, ◌%◌, ◌^◌, Bool, true, false, cond, ◌&&◌, List, [], ◌∷◌, ◌++◌, eqb, leb, length, drop, replicate, ℤ, pos}
use Rattle.isa.specs.declared.Measured.{Measured}
use Rattle.isa.specs.declared.Encoded.{Encoded}
use Rattle.sheet_spec.specs.Line.{equal, Parsed}
use Rattle.sheet_spec.specs.Made.{is_some}
use Rattle.sheet_spec.specs.declared.Listed.{Listed}
use Rattle.sheet_spec.specs.Sheet.{is_sheet, start_line, start_of, Sheet, sheet_at, start_in, sheet_in, sizes_of, line_count, word_count, end_of, addresses, encoded, image}

-- what a place of 01's table says: in order, or a refusal with its line
pub data Outcome : Type 0 where
  in_order : Outcome
  refused : ℕ → ℕ → ℕ → ℤ → Outcome

abbrev pub and_then : Outcome → Outcome → Outcome
and_then in_order v = v
and_then (refused number line detail value) v = refused number line detail value

-- refused, outside lines, where a test fails
abbrev pub require : Bool → ℕ → Outcome
require b number = cond b in_order (refused number 0 0 (pos 0))

-- each line in turn, from line k on
abbrev pub in_turn : {A : Type 0} → (ℕ → A → Outcome) → ℕ → List A → Outcome
in_turn says k [] = in_order
in_turn says k (x ∷ xs) = and_then (says k x) (in_turn says (suc k) xs)

abbrev pub as_outcome : ℕ → ℕ → ℕ → ℤ → Outcome
as_outcome k number detail value = cond (eqb number 0) in_order (refused number k detail value)

abbrev pub size_outcome : ℕ → Measured → Outcome
size_outcome k m = as_outcome k m.number m.detail m.value

abbrev pub encode_outcome : ℕ → Encoded → Outcome
encode_outcome k e = as_outcome k e.number e.detail e.value

-- the scratch's rule: the places that so many lines need, and what these then hold of the lines' addresses
pub record ScratchRule : Type 0 where
  pub needed : ℕ → ℕ
  pub held : List ℕ → List ℕ

-- one place a line, with its address (01)
abbrev pub full : ScratchRule
full = record { needed = λ n. n; held = λ l. l }

-- one place per 64 lines or part of 64, with the address of the first of them: those of lines 1, 65, 129, … (02, N7)
abbrev pub firsts_from : ℕ → List ℕ → List ℕ
firsts_from k [] = []
firsts_from k (a ∷ later) = cond (eqb (k % 64) 0) (a ∷ firsts_from (suc k) later) (firsts_from (suc k) later)

abbrev pub sparse : ScratchRule
sparse = record { needed = λ n. (n + 63) / 64; held = firsts_from 0 }

-- 01's table, place by place, of a text at a start: before the lines
abbrev pub opening : ScratchRule → List ℕ → ℕ → ℕ → Outcome
opening rule text start places =
    and_then (require (is_sheet text) 10)
    (and_then (require (is_some (start_of (start_line text))) 7)
    (and_then (require (eqb (start % 2) 0) 9)
    (require (leb (rule.needed (line_count (sheet_at start text))) places) 11)))

-- each line in turn
abbrev pub sizing : List Parsed → Outcome
sizing ps = in_turn size_outcome 1 (sizes_of ps)

-- after all lines
abbrev pub closing : ℕ → ℕ → ℕ → Outcome
closing start words room = and_then (require (leb (end_of start words) (2 ^ 32)) 9) (require (leb words room) 11)

-- each line in turn
abbrev pub encoding : List Encoded → Outcome
encoding es = in_turn encode_outcome 1 es

abbrev pub sheet_outcome : Sheet → ℕ → Outcome
sheet_outcome s room = and_then (sizing s.lines) (and_then (closing s.start (word_count s) room) (encoding (encoded s)))

unfoldable pub outcome_at : ScratchRule → List ℕ → ℕ → ℕ → ℕ → Outcome
outcome_at rule text start places room = and_then (opening rule text start places) (sheet_outcome (sheet_at start text) room)

abbrev pub outcome_of : ScratchRule → List ℕ → ℕ → ℕ → Outcome
outcome_of rule text places room = outcome_at rule text (start_in text) places room

abbrev pub listed_as : Outcome → ℕ → ℕ → Listed
listed_as in_order lines words = record { lines = lines; words = words; number = 0; line = 0; detail = 0; value = pos 0 }
listed_as (refused number line detail value) lines words =
    record { lines = 0; words = 0; number = number; line = line; detail = detail; value = value }

unfoldable pub listed_of : ScratchRule → List ℕ → ℕ → ℕ → Listed
listed_of rule text places room = listed_as (outcome_of rule text places room) (line_count (sheet_in text)) (word_count (sheet_in text))

-- what the lent image and scratch then are: their first places, later ones unchanged; refused, the image unchanged and the scratch 0
abbrev pub over : List ℕ → List ℕ → List ℕ
over written lent = written ++ drop (length written) lent

abbrev pub image_as : Outcome → List ℕ → List ℕ → List ℕ
image_as in_order words lent = over words lent
image_as (refused number line detail value) words lent = lent

abbrev pub scratch_as : Outcome → List ℕ → List ℕ → List ℕ
scratch_as in_order held lent = over held lent
scratch_as (refused number line detail value) held lent = replicate (length lent) 0

unfoldable pub image_of : ScratchRule → List ℕ → ℕ → List ℕ → List ℕ
image_of rule text places lent = image_as (outcome_of rule text places (length lent)) (image (sheet_in text)) lent

unfoldable pub scratch_of : ScratchRule → List ℕ → List ℕ → List ℕ → List ℕ
scratch_of rule text scratch lent = scratch_as (outcome_of rule text (length scratch) (length lent)) (rule.held (addresses (sheet_in text))) scratch

-- two sheets are the same (01): both are accepted with 4,096 places and 45,056 words, their starts and their images are equal; at starts a and b, and at their own
abbrev pub is_in_order : Outcome → Bool
is_in_order in_order = true
is_in_order (refused number line detail value) = false

unfoldable pub same_at : ℕ → ℕ → List ℕ → List ℕ → Bool
same_at a b f g =
    is_in_order (outcome_at full f a 4096 45056) && is_in_order (outcome_at full g b 4096 45056) && eqb a b && equal (image (sheet_at a f)) (image (sheet_at b g))

abbrev pub same : List ℕ → List ℕ → Bool
same f g = same_at (start_in f) (start_in g) f g
