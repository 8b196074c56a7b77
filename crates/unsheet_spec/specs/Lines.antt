-- The lines that an image reads as (02, N6), one after the other from the start.
use Rattle.std.specs.Prelude.{ℕ, zero, suc, pred, ◌+◌, ◌*◌, ◌/◌, cond, List, [], ◌∷◌, map, eqb}
use Rattle.std.proofs.Math.Option.{Option, none, some}
use Rattle.read_spec.specs.Reading.{Reading, Read, Short, Nothing}
use Rattle.read_spec.specs.Read.{read_of}

-- the place of a line's first word, from 0, and what is read there: an instruction, or that the words end, or that nothing reads
pub record ReadLine : Type 0 where
  pub place : ℕ
  pub reading : Reading

-- where the word at a place stands
abbrev pub address_at : ℕ → ℕ → ℕ
address_at start place = start + 2 * place

-- the lines after a reading: `later` is told how many of its words still stand before them, all but the first; no lines where it is no instruction
abbrev pub reading_then : Reading → (ℕ → List ReadLine) → List ReadLine
reading_then (Read i n) later = later (pred (n / 2))
reading_then Short later = []
reading_then Nothing later = []

-- the lines of words, of which the first stands at a place and so many belong to the line before
abbrev pub lines_from : ℕ → ℕ → ℕ → List ℕ → List ReadLine
lines_from start place taken [] = []
lines_from start place (suc taken) (w ∷ ws) = lines_from start (suc place) taken ws
lines_from start place zero (w ∷ ws) =
    record { place = place; reading = read_of (w ∷ ws) (address_at start place) }
    ∷ reading_then (read_of (w ∷ ws) (address_at start place)) (λ taken. lines_from start (suc place) taken ws)

unfoldable pub lines_in : ℕ → List ℕ → List ReadLine
lines_in start image = lines_from start 0 0 image

-- the number, from k on, of the line whose first word stands at an address
abbrev pub line_standing_at : ℕ → List ℕ → ℕ → Option ℕ
line_standing_at k [] address = none
line_standing_at k (a ∷ later) address = cond (eqb a address) (some k) (line_standing_at (suc k) later address)

-- the line, from 1, on whose first word a target lands
abbrev pub landing : ℕ → List ReadLine → ℕ → Option ℕ
landing start ls target = line_standing_at 1 (map (λ l. address_at start l.place) ls) target
