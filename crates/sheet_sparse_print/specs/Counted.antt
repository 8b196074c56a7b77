-- A sheet's lines as they stand in a text, and the words that they count.
use Rattle.std.specs.Prelude.{ℕ, ◌^◌, ◌≤◌, ◌≡◌, List, length}
use Rattle.sheet_spec.specs.Sheet.{Sheet, line_count, word_count, end_of}
use Rattle.sheet_spec.specs.Translate.{in_order, sizing}
use Rattle.sheet_passes.specs.Passes.{parsed_at}

-- the lines of a text from a place on, at a start
abbrev pub sheet_from : ℕ → List ℕ → ℕ → Sheet
sheet_from start text from = record { start = start; lines = parsed_at text from }

-- so many lines, each measured, which end at 2^32 or before, and the words of all of them
pub record Counted (s : Sheet) (lines : ℕ) (words : List ℕ) : Type 0 where
  pub all : lines ≡ line_count s
  pub few : lines ≤ 4096
  pub sized : sizing s.lines ≡ in_order
  pub ends : end_of s.start (word_count s) ≤ 2 ^ 32
  pub counted : length words ≡ word_count s
