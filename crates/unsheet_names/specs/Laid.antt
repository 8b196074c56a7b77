-- A name as it stands in the joint text of the names of all kinds: the rows of a kind begin where those before them end, and so do a row's letters.
use Rattle.std.specs.Prelude.{ℕ, suc, ◌+◌, ◌-◌, cond, ltb, List, [], take, drop}
use Rattle.unsheet_names.specs.Rows.{joint, row_start}
use Rattle.unsheet_names.specs.Table.{groups, names}

-- what stands between where a row begins and where the next does
abbrev pub letters_of : {A : Type 0} → List (List A) → ℕ → List A
letters_of rs k = take (row_start rs (suc k) - row_start rs k) (drop (row_start rs k) (joint rs))

-- the name at a place of the kind with this code, nothing where it has none
unfoldable pub laid_name : ℕ → ℕ → List ℕ
laid_name code place = cond (ltb place (row_start groups (suc code) - row_start groups code)) (letters_of names (row_start groups code + place)) []
