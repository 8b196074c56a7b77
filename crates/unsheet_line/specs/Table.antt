-- The table of lines, as code holds it: place p has the number of the line that begins at word p of the image, 0 where none does.
use Rattle.std.specs.Prelude.{ℕ, zero, suc, ◌-◌, ◌/◌, ◌%◌, cond, ◌&&◌, List, eqb, leb, get_or}
use Rattle.std.proofs.Math.Option.{Option, none, some}

abbrev pub as_line : ℕ → Option ℕ
as_line zero = none
as_line (suc k) = some (suc k)

-- the number of the line on whose first word a target lands, 0 where it lands on none
abbrev pub number_at : ℕ → List ℕ → ℕ → ℕ
number_at start table t = cond (leb start t && eqb ((t - start) % 2) 0) (get_or table ((t - start) / 2) 0) 0

abbrev pub lands_in : ℕ → List ℕ → ℕ → Option ℕ
lands_in start table t = as_line (number_at start table t)
