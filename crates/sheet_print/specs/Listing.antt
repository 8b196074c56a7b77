-- A listing from the lines' addresses and the words of all lines.
use Rattle.std.specs.Prelude.{ℕ, suc, ◌-◌, ◌/◌, ◌≤◌, ◌≡◌, List, [], ◌∷◌, ◌++◌, length, take, drop, get_or, true, false}
use Rattle.base_spec.specs.Written.{placed}
use Rattle.sheet_spec.specs.Translate.{ScratchRule, image_of, scratch_of}
use Rattle.print_spec.specs.declared.Output.{Output}
use Rattle.print_spec.specs.Printed.{line_text, printed_of}

-- the words of the first line, where so many are left: half the bytes up to the next line, or all
abbrev pub first_count : List ℕ → ℕ → ℕ
first_count [] left = left
first_count (a ∷ []) left = left
first_count (a ∷ (b ∷ rest)) left = (b - a) / 2

abbrev pub lines_text : ℕ → List ℕ → List ℕ → List ℕ
lines_text k [] words = []
lines_text k (a ∷ rest) words =
    let count = first_count (a ∷ rest) (length words) in
    line_text k a (take count words) ++ lines_text (suc k) rest (drop count words)

-- the second address, if there is one, is not below the first
abbrev pub Rises : List ℕ → Type 0
Rises addresses = get_or addresses 0 0 ≤ get_or addresses 1 (get_or addresses 0 0)

-- each line's words are at most eleven, and are there
abbrev pub Laid : List ℕ → List ℕ → Type 0
Laid [] words = Unit {0}
Laid (a ∷ rest) words =
    let count = first_count (a ∷ rest) (length words) in
    Rises (a ∷ rest) × (count ≤ 11) × (count ≤ length words) × Laid rest (drop count words)

-- how much was written, and that nothing was
abbrev pub wide_by : ℕ → Output
wide_by n = record { wide = true; count = n }

abbrev pub not_wide : Output
not_wide = record { wide = false; count = 0 }

-- n bytes printed from the buffer's first place on, at most 4,096 lines of 69; image and scratch as the translator leaves them
pub record PrintedWide (rule : ScratchRule) (text v s out v' s' out' : List ℕ) (n : ℕ) : Type 0 where
  pub count : n ≡ length (printed_of rule text (length s) (length v))
  pub buffer : out' ≡ placed out 0 (printed_of rule text (length s) (length v))
  pub few : n ≤ 282624
  pub image : v' ≡ image_of rule text (length s) v
  pub scratch : s' ≡ scratch_of rule text s v
