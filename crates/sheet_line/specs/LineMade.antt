-- What a line makes, with the lines of its sheet at given addresses.
use Rattle.std.specs.Prelude.{ℕ, true, false, List}
use Rattle.numeric_spec.specs.declared.Built.TheVariants as built
use Rattle.sheet_spec.specs.Line.{Parsed}
use Rattle.sheet_spec.specs.Made.{resolves_in, built_as, of_lines}
use Rattle.sheet_labels.specs.Labels.{listed, labelled_in}
use Rattle.sheet_line.specs.declared.LineMade.{LineMade}

unfoldable pub not_made : LineMade
not_made = record { built = built.NotInForm; labelled = false; resolves = true }

-- of a sheet of n lines
unfoldable pub line_made : ℕ → List ℕ → Parsed → LineMade
line_made n addresses p = record { built = built_as (listed addresses) p; labelled = labelled_in p; resolves = resolves_in (of_lines n (λ k. 0)) p }
