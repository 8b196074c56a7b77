-- The lines whose ranges are looked at while they are measured: those without a label.
use Rattle.std.specs.Prelude.{◌≡◌, ℕ, ◌+◌, ◌*◌, ◌%◌, ◌^◌, ◌<◌, Bool, true, false, cond, not, ◌&&◌, ◌||◌, List, [], ◌∷◌, map, length, pos, ◌==◌, slice_index, slice_index_or}
use Rattle.isa.specs.declared.Encoded.{Encoded}
use Rattle.isa.specs.declared.Instruction.{Instruction}
use Rattle.isa.specs.declared.Measured.{Measured}
use Rattle.encode_spec.specs.Encode.{encode_of, size_of}
use Rattle.sheet_spec.specs.Line.{Parsed, no, line_of}
use Rattle.sheet_spec.specs.Made.{Made, made, of_lines}
use Rattle.sheet_spec.specs.Sheet.{sized_as, sized_of, sizes_of, half_of, total, encoded_line}
use Rattle.sheet_spec.specs.Translate.{Outcome, in_order, refused, sizing}
use Rattle.sheet_labels.specs.Labels.{listed, labelled_in}
use Rattle.sheet_passes.specs.declared.LineJudged.{LineJudged}
use Rattle.sheet_passes.specs.declared.Sized.{Sized}
use Rattle.sheet_passes.specs.Passes.{passed_of, line_encoded}

abbrev pub judged_instruction : Instruction → ℕ → LineJudged
judged_instruction i a = record { measured = size_of i; settled = ((encode_of i a).number == 0) }

abbrev pub judged_made : ℕ → Made → LineJudged
judged_made a m = record { measured = sized_as m; settled = ((encoded_line a m).number == 0) }

-- it has a label, or `encode` accepts it at its address
unfoldable pub settled_at : ℕ → ℕ → Parsed → Bool
settled_at n a p = labelled_in p || (encoded_line a (made (of_lines n (λ k. 0)) p)).number == 0

-- a line of a sheet of n lines, at an address
abbrev pub judged_line : ℕ → ℕ → Parsed → LineJudged
judged_line n a p = record { measured = sized_of n p; settled = settled_at n a p }

-- each line, from an address on
abbrev pub settled_from : ℕ → ℕ → List Parsed → Bool
settled_from n a [] = true
settled_from n a (p ∷ ps) = settled_at n (a % 2 ^ 32) p && settled_from n (a + 2 * half_of (sized_of n p)) ps

abbrev pub sized_by : Outcome → ℕ → Bool → Sized
sized_by in_order words settled = record { passed = passed_of in_order words; settled = settled }
sized_by (refused number line detail value) words settled = record { passed = passed_of (refused number line detail value) words; settled = false }

unfoldable pub sized_sheet : ℕ → List Parsed → Sized
sized_sheet start ps = sized_by (sizing ps) (total (map half_of (sizes_of ps))) (settled_from (length ps) start ps)

-- a line has the byte `@`
abbrev pub has_at : List ℕ → Bool
has_at [] = false
has_at (b ∷ bs) = b == 64 || has_at bs

-- why `encode` refuses a line at an address, its labels made addresses; a line without a label is passed over where the lines are settled
abbrev pub not_refused : Measured
not_refused = record { size = 0; number = 0; detail = 0; value = pos 0 }

abbrev pub refusal_parts : Encoded → Measured
refusal_parts e = record { size = 0; number = e.number; detail = e.detail; value = e.value }

unfoldable pub why_refused : List ℕ → List ℕ → ℕ → Bool → Measured
why_refused addresses line a settled = cond (has_at line || not settled) (refusal_parts (line_encoded addresses (line_of line) a)) not_refused

-- `encode` accepts each line without a label
abbrev pub Settled : List ℕ → List Parsed → Type 0
Settled addresses ps = (k : ℕ) → k < length ps → labelled_in (slice_index_or ps k no) ≡ false → (encoded_line (slice_index addresses k) (made (listed addresses) (slice_index_or ps k no))).number ≡ 0
