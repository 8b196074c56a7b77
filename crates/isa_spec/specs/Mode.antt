-- The modes and their categories (the manual, table 2-4, "Effective Addressing Modes and Categories").
-- A column has one entry a mode, 0 to 11 as the Rust orders them:
-- Dn An (An) (An)+ -(An) d16(An) d8(An,Xn) (xxx).W (xxx).L d16(PC) d8(PC,Xn) #.
use Rattle.std.specs.Prelude.{ℕ, zero, suc, ◌+◌, ◌*◌, Bool, true, false, ◌&&◌, List, [], ◌∷◌}

abbrev X : Bool
X = true

abbrev o : Bool
o = false

abbrev pub every_column : List Bool
every_column = X ∷ X ∷ X ∷ X ∷ X ∷ X ∷ X ∷ X ∷ X ∷ X ∷ X ∷ X ∷ []

abbrev pub data_column : List Bool
data_column = X ∷ o ∷ X ∷ X ∷ X ∷ X ∷ X ∷ X ∷ X ∷ X ∷ X ∷ X ∷ []

abbrev pub memory_column : List Bool
memory_column = o ∷ o ∷ X ∷ X ∷ X ∷ X ∷ X ∷ X ∷ X ∷ X ∷ X ∷ X ∷ []

abbrev pub control_column : List Bool
control_column = o ∷ o ∷ X ∷ o ∷ o ∷ X ∷ X ∷ X ∷ X ∷ X ∷ X ∷ o ∷ []

abbrev pub alterable_column : List Bool
alterable_column = X ∷ X ∷ X ∷ X ∷ X ∷ X ∷ X ∷ X ∷ X ∷ o ∷ o ∷ o ∷ []

abbrev pub both : List Bool → List Bool → List Bool
both [] ys = []
both (x ∷ xs) [] = []
both (x ∷ xs) (y ∷ ys) = (x && y) ∷ both xs ys

-- a column with the mode n in it, or out of it
abbrev pub set_to : Bool → ℕ → List Bool → List Bool
set_to v n [] = []
set_to v zero (b ∷ bs) = v ∷ bs
set_to v (suc n) (b ∷ bs) = b ∷ set_to v n bs

-- the column of mode n alone
abbrev pub only : ℕ → List Bool
only n = set_to true n (o ∷ o ∷ o ∷ o ∷ o ∷ o ∷ o ∷ o ∷ o ∷ o ∷ o ∷ o ∷ [])

-- a column as a number, mode n its bit n
abbrev pub bits : List Bool → ℕ
bits [] = 0
bits (true ∷ bs) = 1 + 2 * bits bs
bits (false ∷ bs) = 2 * bits bs
