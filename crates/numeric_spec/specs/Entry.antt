-- A number with the type it is declared at, and a row of them.
use Rattle.std.specs.Prelude.{ℕ, ◌^◌, ◌≡◌, Bool, true, List, [], ◌∷◌, leb, ltb, ℤ, pos, negsuc}

-- a number from 0 to a top, or an i32
pub data Entry : Type 0 where
  unsigned : ℕ → ℕ → Entry
  signed : ℤ → Entry

abbrev pub entry_number : Entry → ℤ
entry_number (unsigned top n) = pos n
entry_number (signed z) = z

abbrev pub is_i32 : ℤ → Bool
is_i32 (pos n) = ltb n (2 ^ 31)
is_i32 (negsuc n) = ltb n (2 ^ 31)

abbrev pub inside : Entry → Bool
inside (unsigned top n) = leb n top
inside (signed z) = is_i32 z

-- every entry is inside its type
abbrev pub Inside : List Entry → Type 0
Inside [] = Unit {0}
Inside (e ∷ es) = (inside e ≡ true) × Inside es
