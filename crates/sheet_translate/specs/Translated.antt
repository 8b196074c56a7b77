-- What `translate` knows on its way through the stages of 01's table.
use Rattle.std.specs.Prelude.{◌≡◌, Bool, true, List, ℕ, ◌≤◌, length, take}
use Rattle.sheet_spec.specs.Sheet.{sheet_in, line_count, word_count, addresses, encoded}
use Rattle.sheet_spec.specs.Translate.{full, Outcome, in_order, refused, encoding, outcome_of}
use Rattle.sheet_spec.specs.Promises.{MeasuredSheet}
use Rattle.sheet_passes.specs.Passes.{parsed_at}
use Rattle.sheet_passes.specs.Settle.{Settled}

-- a refusal's number; 0 for none
abbrev pub outcome_number : Outcome → ℕ
outcome_number in_order = 0
outcome_number (refused number line detail value) = number

-- the lines begin at `from` and are so many, of so many words; s holds their addresses, and their ranges are left to be looked at;
-- where they are settled, those of the lines with a label
pub record SizedSheet (text : List ℕ) (from lines words : ℕ) (settled : Bool) (v s : List ℕ) : Type 0 where
  pub begin : parsed_at text from ≡ (sheet_in text).lines
  pub most : lines ≤ 4096
  pub counted : lines ≡ line_count (sheet_in text)
  pub needed : words ≡ word_count (sheet_in text)
  pub places : lines ≤ length s
  pub settles : settled ≡ true → Settled (addresses (sheet_in text)) (sheet_in text).lines
  pub addresses : take lines s ≡ addresses (sheet_in text)
  pub measured : MeasuredSheet (sheet_in text)
  pub outcome : outcome_of full text (length s) (length v) ≡ encoding (encoded (sheet_in text))
