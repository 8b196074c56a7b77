-- A sheet (01, "The listing" and "Where a thing is turned back"): START and an address, then one instruction a line.
use Rattle.std.specs.Prelude.{ℕ, suc, pred, ◌+◌, ◌*◌, ◌/◌, ◌^◌, Bool, cond, not, ◌&&◌, List, [], ◌∷◌, ◌++◌, map, eqb, leb, ltb, length, drop, take, get_or, replicate, pos}
use Rattle.std.proofs.Math.Option
use Rattle.std.proofs.Math.Option.{Option, none, some}
use Rattle.isa.specs.declared.Measured.{Measured}
use Rattle.isa.specs.declared.Encoded.{Encoded}
use Rattle.encode_spec.specs.Encode.{size_of, encode_of}
use Rattle.base_spec.specs.Number as number
use Rattle.base_spec.specs.Parts.{fields}
use Rattle.base_spec.specs.Number.{Number, number_of}
use Rattle.base_spec.specs.Lines.{lines_of}
use Rattle.sheet_spec.specs.Names.{bytes}
use Rattle.sheet_spec.specs.Line.{equal, Parsed, no, line_of}
use Rattle.sheet_spec.specs.Made.{Made, makes, turned_back, made, of_lines}

-- ---- a text

-- the number of line feeds, and the last byte
abbrev pub feeds : List ℕ → ℕ
feeds [] = 0
feeds (b ∷ bs) = cond (eqb b 10) (suc (feeds bs)) (feeds bs)

abbrev pub last : List ℕ → ℕ
last [] = 0
last (b ∷ []) = b
last (b ∷ (c ∷ bs)) = last (c ∷ bs)

-- refusal 10: 0 or over 65,536 bytes, no final LF, or not 1 to 4,096 instruction lines
abbrev pub is_sheet : List ℕ → Bool
is_sheet text = leb 1 (length text) && leb (length text) 65536 && eqb (last text) 10 && leb 2 (feeds text) && leb (feeds text) 4097

-- line 0, and the instruction lines
abbrev pub start_line : List ℕ → List ℕ
start_line text = get_or (lines_of text) 0 []

abbrev pub instruction_lines : List ℕ → List (List ℕ)
instruction_lines text = drop 1 (lines_of text)

-- START and a 32-bit decimal address; none where it is not in the form
abbrev pub start_as : Number → Option ℕ
start_as (number.Is negative n) = cond (not negative && ltb n (2 ^ 32)) (some n) none
start_as number.No = none

abbrev pub start_fields : List (List ℕ) → Option ℕ
start_fields [] = none
start_fields (f ∷ []) = none
start_fields (f ∷ (g ∷ [])) = cond (equal f (bytes "START")) (start_as (number_of g)) none
start_fields (f ∷ (g ∷ (h ∷ fs))) = none

abbrev pub start_of : List ℕ → Option ℕ
start_of line = start_fields (fields line)

-- ---- a start and parsed lines

-- a line of a sheet of n lines: 7, then 8, then as `size` refuses it with `@` as 0
abbrev pub sized_as : Made → Measured
sized_as (makes i) = size_of i
sized_as (turned_back k) = record { size = 0; number = k; detail = 0; value = pos 0 }

unfoldable pub sized_of : ℕ → Parsed → Measured
sized_of n p = sized_as (made (of_lines n (λ k. 0)) p)

abbrev pub sizes_of : List Parsed → List Measured
sizes_of ps = map (sized_of (length ps)) ps

-- a line counts half of its size
abbrev pub half_of : Measured → ℕ
half_of m = m.size / 2

-- what is translated and followed
pub record Sheet : Type 0 where
  pub start : ℕ
  pub lines : List Parsed

-- a text's sheet at a start, and at its own
abbrev pub sheet_at : ℕ → List ℕ → Sheet
sheet_at start text = record { start = start; lines = map line_of (instruction_lines text) }

abbrev pub start_in : List ℕ → ℕ
start_in text = Option.get_or (start_of (start_line text)) 0

abbrev pub sheet_in : List ℕ → Sheet
sheet_in text = sheet_at (start_in text) text

abbrev pub line_count : Sheet → ℕ
line_count s = length s.lines

-- the words that each line counts, and those of all lines
abbrev pub counts : Sheet → List ℕ
counts s = map half_of (sizes_of s.lines)

abbrev pub total : List ℕ → ℕ
total [] = 0
total (c ∷ cs) = c + total cs

abbrev pub word_count : Sheet → ℕ
word_count s = total (counts s)

-- the end: the start plus twice the words of all lines
abbrev pub end_of : ℕ → ℕ → ℕ
end_of start words = start + 2 * words

-- the lines' addresses: the start plus twice the words of all lines before
abbrev pub addresses_from : ℕ → List ℕ → List ℕ
addresses_from a [] = []
addresses_from a (c ∷ cs) = a ∷ addresses_from (a + 2 * c) cs

abbrev pub addresses : Sheet → List ℕ
addresses s = addresses_from s.start (counts s)

-- of line n; the first is line 1
abbrev pub line_at : Sheet → ℕ → Parsed
line_at s n = get_or s.lines (pred n) no

abbrev pub count_of_line : Sheet → ℕ → ℕ
count_of_line s n = get_or (counts s) (pred n) 0

abbrev pub address_of_line : Sheet → ℕ → ℕ
address_of_line s n = get_or (addresses s) (pred n) 0

-- each label made its line's address
abbrev pub resolved : Sheet → ℕ → Option ℕ
resolved s = of_lines (line_count s) (address_of_line s)

-- each line encoded at its address
abbrev pub encoded_line : ℕ → Made → Encoded
encoded_line a (makes i) = encode_of i a
encoded_line a (turned_back k) = record { words = replicate 11 0; count = 0; number = k; detail = 0; value = pos 0 }

abbrev pub encoded_from : (ℕ → Option ℕ) → List ℕ → List Parsed → List Encoded
encoded_from f [] ps = []
encoded_from f (a ∷ later) [] = []
encoded_from f (a ∷ later) (p ∷ ps) = encoded_line a (made f p) ∷ encoded_from f later ps

abbrev pub encoded : Sheet → List Encoded
encoded s = encoded_from (resolved s) (addresses s) s.lines

-- their words, each line's directly after those of the line before
abbrev pub encoded_words : Encoded → List ℕ
encoded_words e = take e.count e.words

abbrev pub all_words : List Encoded → List ℕ
all_words [] = []
all_words (e ∷ es) = encoded_words e ++ all_words es

abbrev pub image : Sheet → List ℕ
image s = all_words (encoded s)
