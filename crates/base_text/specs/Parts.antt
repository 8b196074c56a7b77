-- Lines and fields: text parted by a byte.
use Rattle.std.specs.Prelude.{cond, List, [], ◌∷◌, ℕ, ◌+◌, length, drop, eqb}

-- what stands before the first `stop`
abbrev pub before : ℕ → List ℕ → List ℕ
before stop [] = []
before stop (b ∷ bs) = cond (eqb b stop) [] (b ∷ before stop bs)

-- where the part that begins at `from` ends: the next `stop`, or the end
abbrev pub part_end : ℕ → List ℕ → ℕ → ℕ
part_end stop s from = from + length (before stop (drop from s))
