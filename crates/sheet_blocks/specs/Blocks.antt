-- Blocks of 64 lines, the last of as many as are left: what the passes hold of each while they go over the lines.
use Rattle.std.specs.Prelude.{◌≡◌, ℕ, ◌+◌, ◌*◌, ◌/◌, ◌%◌, ◌^◌, ◌<◌, ◌≤◌, cond, List, [], ◌∷◌, length, take, drop, ◌==◌, slice_index}
use Rattle.base_text.specs.Parts.{part_end}
use Rattle.sheet_spec.specs.Line.{Parsed}
use Rattle.sheet_spec.specs.Sheet.{sized_of, half_of, sheet_in, line_count, counts, total, addresses}
use Rattle.sheet_spec.specs.Translate.{firsts_from, sparse}
use Rattle.sheet_spec.specs.Promises.{MeasuredSheet}
use Rattle.sheet_passes.specs.Passes.{parsed_at, Placed}

-- in one place where a block's first line begins in the text, and the words before that line
abbrev pub block_place : ℕ → ℕ → ℕ
block_place at words = at * 65536 + words

-- such a place for each of n lines, from one that begins at `next` with so many words before it; up to a line that is refused
abbrev pub line_places : List ℕ → ℕ → ℕ → ℕ → List Parsed → List ℕ
line_places text n next words [] = []
line_places text n next words (p ∷ ps) =
    cond ((sized_of n p).number == 0) (block_place next words ∷ line_places text n (part_end 10 text next + 1) (words + half_of (sized_of n p)) ps) []

-- those of the first lines of blocks, from line k + 1 on
abbrev pub blocks_from : List ℕ → ℕ → ℕ → ℕ → ℕ → List Parsed → List ℕ
blocks_from text n k next words ps = firsts_from k (line_places text n next words ps)

-- the address that a place stands for
abbrev pub address_held : ℕ → ℕ → ℕ
address_held start place = (start + 2 * (place % 65536)) % 2 ^ 32

-- a place of the block that begins with line k + 1
pub record BlockAt (text : List ℕ) (k place : ℕ) : Type 0 where
  pub lines : parsed_at text (place / 65536) ≡ drop k (sheet_in text).lines
  pub words : place % 65536 ≡ total (take k (counts (sheet_in text)))

-- a measured sheet of so many lines, and a place for each block
pub record Blocks (text : List ℕ) (lines start : ℕ) (places : List ℕ) : Type 0 where
  pub counted : lines ≡ line_count (sheet_in text)
  pub few : lines ≤ 4096
  pub started : start ≡ (sheet_in text).start
  pub measured : MeasuredSheet (sheet_in text)
  pub enough : sparse.needed lines ≤ length places
  pub at : (b : ℕ) → 64 * b < lines → BlockAt text (64 * b) (slice_index places b)

-- and its lines, which begin at `from`, their labels looked at
pub record BlockLines (text : List ℕ) (from lines start : ℕ) (places : List ℕ) : Type 0 where
  pub blocks : Blocks text lines start places
  pub begin : parsed_at text from ≡ (sheet_in text).lines
  pub placed : Placed (addresses (sheet_in text)) (parsed_at text from)
