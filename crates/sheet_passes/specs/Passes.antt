-- What the passes over the lines of a sheet answer, and what they leave in the lent places.
use Rattle.std.specs.Prelude.{◌≡◌, ℕ, ◌+◌, ◌*◌, ◌%◌, ◌^◌, ◌<◌, ◌≤◌, true, cond, List, [], ◌∷◌, map, length, drop, pos, ◌==◌, slice_index_or}
use Rattle.isa.specs.declared.Measured.{Measured}
use Rattle.isa.specs.declared.Encoded.{Encoded}
use Rattle.base_spec.specs.Lines.{lines_of}
use Rattle.sheet_spec.specs.Line.{Parsed, no, line_of}
use Rattle.sheet_spec.specs.Made.{resolves_in, judged, built_as}
use Rattle.sheet_spec.specs.Sheet.{half_of, encoded_line, encoded_from}
use Rattle.sheet_spec.specs.Translate.{Outcome, in_order, refused}
use Rattle.sheet_labels.specs.Labels.{listed}
use Rattle.sheet_passes.specs.declared.Passed.{Passed}

-- what the lines of a text say from a place on
abbrev pub parsed_at : List ℕ → ℕ → List Parsed
parsed_at text from = map line_of (lines_of (drop from text))

-- the words that were counted, or the refusal
abbrev pub passed_of : Outcome → ℕ → Passed
passed_of in_order words = record { number = 0; line = 0; detail = 0; value = pos 0; words = words }
passed_of (refused number line detail value) words = record { number = number; line = line; detail = detail; value = value; words = 0 }

-- the low 32 bits of the addresses of the lines before the first that is refused
abbrev pub filled_of : ℕ → List Measured → List ℕ
filled_of a [] = []
filled_of a (m ∷ ms) = cond (m.number == 0) (a % 2 ^ 32 ∷ filled_of (a + 2 * half_of m) ms) []

-- a line whose labels have been looked at, encoded
unfoldable pub line_encoded : List ℕ → Parsed → ℕ → Encoded
line_encoded addresses p a = encoded_line a (judged (built_as (listed addresses) p) true)

-- an address for each line, and the lines' labels have been looked at
pub record Placed (addresses : List ℕ) (ps : List Parsed) : Type 0 where
  pub few : length addresses ≤ 4096
  pub lines : length addresses ≡ length ps
  pub named : (k : ℕ) → k < length ps → resolves_in (listed addresses) (slice_index_or ps k no) ≡ true

-- the lines encoded at these addresses
abbrev pub encoded_at : List ℕ → List Parsed → List Encoded
encoded_at addresses ps = encoded_from (listed addresses) addresses ps
