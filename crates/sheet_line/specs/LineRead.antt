-- What a line's fields say, in 24 places.
use Rattle.std.specs.Prelude.{ℕ, ◌+◌, ◌≡◌, Bool, true, false, ◌&&◌, ◌||◌, List, [], length, Option}
use Rattle.sheet_spec.specs.Line.{Token, Parsed, says, no}
use Rattle.sheet_spec.specs.Made.{resolves_all, resolves_in, of_lines}
use Rattle.sheet_tokens.specs.declared.Value.{Value}
use Rattle.sheet_labels.specs.Labels.{says_label, names_line, labelled_all, labelled_in}
use Rattle.sheet_labels.specs.LabelLaws.{in_places, negative_as, own_as, label_as}
use Rattle.sheet_line.specs.declared.LineRead.{LineRead}

abbrev pub is_says : Parsed → Bool
is_says (says vs) = true
is_says no = false

abbrev pub tokens_in : Parsed → List Token
tokens_in (says vs) = vs
tokens_in no = []

-- of a sheet of n lines
unfoldable pub line_read : ℕ → Parsed → LineRead
line_read n p = record { ok = is_says p; count = length (tokens_in p); labelled = labelled_in p; resolves = resolves_in (of_lines n (λ k. 0)) p }

-- of a line that is not in the form
unfoldable pub not_read : LineRead
not_read = record { ok = false; count = 0; labelled = false; resolves = true }

-- what is read of a line before its end
unfoldable pub part_read : ℕ → List Token → LineRead
part_read n vs = record { ok = false; count = length vs; labelled = labelled_all vs; resolves = resolves_all (of_lines n (λ k. 0)) vs }

unfoldable pub read_more : ℕ → LineRead → Option Value → LineRead
read_more n r v = record { ok = false; count = r.count + 1; labelled = r.labelled || says_label v; resolves = r.resolves && names_line n v }

-- what is read, with the numbers of tokens and which of them are labels
pub record Holds (l : LineRead) (vs : List Token) (r : LineRead) (negative : List Bool) (magnitude : List ℕ) (label : List Bool) : Type 0 where
  pub read : r ≡ l
  pub negatives : negative ≡ in_places false negative_as vs
  pub magnitudes : magnitude ≡ in_places 0 own_as vs
  pub labels : label ≡ in_places false label_as vs

-- of a line of a sheet of n lines
abbrev pub FieldsRead : ℕ → Parsed → LineRead → List Bool → List ℕ → List Bool → Type 0
FieldsRead n p = Holds (line_read n p) (tokens_in p)
