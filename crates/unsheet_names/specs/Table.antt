-- The names of all kinds, kind after kind.
use Rattle.std.specs.Prelude.{ℕ, List, map}
use Rattle.sheet_spec.specs.Names.{bytes, names_of}
use Rattle.sheet_kinds.specs.Packed.{kinds}
use Rattle.unsheet_names.specs.Rows.{joint}

-- the names of each kind, by the kinds' codes
unfoldable pub groups : List (List (List ℕ))
groups = map (λ k. map bytes (names_of k)) kinds

unfoldable pub names : List (List ℕ)
names = joint groups
