-- Fields: text parted by a byte.
use Rattle.std.specs.Prelude.{cond, List, [], ◌∷◌, ℕ, eqb}

-- b in front of the first part
abbrev pub onto : ℕ → List (List ℕ) → List (List ℕ)
onto b [] = (b ∷ []) ∷ []
onto b (p ∷ ps) = (b ∷ p) ∷ ps

-- the parts between the stops; one more than there are stops
abbrev pub parts : ℕ → List ℕ → List (List ℕ)
parts stop [] = [] ∷ []
parts stop (b ∷ bs) = cond (eqb b stop) ([] ∷ parts stop bs) (onto b (parts stop bs))

-- the fields of a line, parted by tabs
abbrev pub fields : List ℕ → List (List ℕ)
fields line = parts 9 line
