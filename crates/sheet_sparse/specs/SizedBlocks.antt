-- What `translate_sparse` knows on its way through the stages of 01's table.
use Rattle.std.specs.Prelude.{◌≡◌, cond, List, ℕ, ◌*◌, ◌≤◌, ltb, length, take}
use Rattle.sheet_spec.specs.Sheet.{sheet_in, line_count, word_count, encoded}
use Rattle.sheet_spec.specs.Translate.{in_order, sparse, sizing, encoding, outcome_of}
use Rattle.sheet_spec.specs.Promises.{MeasuredSheet}
use Rattle.sheet_passes.specs.Passes.{parsed_at}
use Rattle.sheet_blocks.specs.Blocks.{blocks_from}

-- the lines that so many places serve, at most as many as a sheet may have
abbrev pub lines_served : ℕ → ℕ
lines_served places = cond (ltb places 64) (64 * places) 4096

-- the lines begin at `from` and are so many, of so many words; s holds the blocks, and the ranges are left to be looked at
pub record SizedBlocks (text : List ℕ) (from lines words start : ℕ) (v s : List ℕ) : Type 0 where
  pub begin : parsed_at text from ≡ (sheet_in text).lines
  pub most : lines ≤ 4096
  pub counted : lines ≡ line_count (sheet_in text)
  pub needed : words ≡ word_count (sheet_in text)
  pub started : start ≡ (sheet_in text).start
  pub places : sparse.needed lines ≤ length s
  pub blocks : take (sparse.needed lines) s ≡ blocks_from text lines 0 from 0 (parsed_at text from)
  pub sized : sizing (sheet_in text).lines ≡ in_order
  pub measured : MeasuredSheet (sheet_in text)
  pub outcome : outcome_of sparse text (length s) (length v) ≡ encoding (encoded (sheet_in text))
