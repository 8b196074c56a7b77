-- A name laid out is the name. Assumes nothing.
use Rattle.std.specs.Prelude.{ℕ, zero, suc, ◌+◌, ◌-◌, ◌<◌, ◌≤◌, ◌≡◌, refl, Bool, true, false, cond, ltb, List, [], ◌∷◌, map, length, get_or, take, drop}
use Rattle.std.proofs.Common.{ap, ◌∙◌, arith, ltb-true, ltb-false}
use Rattle.std.proofs.Math.Seq.{take-append_seam, drop-append-add}
use Rattle.base_facts.specs.Lists.{outside}
use Rattle.sheet_spec.specs.declared.Kind.{Kind}
use Rattle.sheet_spec.specs.Names.{bytes, names_of}
use Rattle.sheet_kinds.specs.Packed.{code_of}
use Rattle.unsheet_names.specs.Rows.{joint, row_start, start_next}
use Rattle.unsheet_names.specs.Table.{groups, names}
use Rattle.unsheet_names.specs.TableLaws.{kind_names, kind_name}
use Rattle.unsheet_names.specs.Laid.{letters_of, laid_name}

module _ {A : Type 0} where
  counted : (rs : List (List A)) (k : ℕ) → take (length (get_or rs k [])) (drop (row_start rs k) (joint rs)) ≡ get_or rs k []
  counted [] zero = refl
  counted [] (suc k) = refl
  counted (r ∷ rs) zero = take-append_seam r (joint rs)
  counted (r ∷ rs) (suc k) = ap (take (length (get_or rs k []))) (drop-append-add r (joint rs) (row_start rs k)) ∙ counted rs k

  -- the letters of a row are the row
  pub letters_is : (rs : List (List A)) (k : ℕ) → letters_of rs k ≡ get_or rs k []
  letters_is rs k =
      let e : row_start rs (suc k) - row_start rs k ≡ length (get_or rs k []) = omega (arith, start_next rs k) in
      ap (λ (n : ℕ). take n (drop (row_start rs k) (joint rs))) e ∙ counted rs k

pub laid_is : (k : Kind) (place : ℕ) → laid_name (code_of k) place ≡ get_or (map bytes (names_of k)) place []
unfolding laid_name
laid_is k place = go (ltb place (row_start groups (suc (code_of k)) - row_start groups (code_of k))) refl
  where
    count : row_start groups (suc (code_of k)) - row_start groups (code_of k) ≡ length (map bytes (names_of k))
    count = omega (arith, start_next groups (code_of k), ap length (kind_names k))

    go : (t : Bool) → ltb place (row_start groups (suc (code_of k)) - row_start groups (code_of k)) ≡ t
        → cond t (letters_of names (row_start groups (code_of k) + place)) [] ≡ get_or (map bytes (names_of k)) place []
    go true e = letters_is names (row_start groups (code_of k) + place) ∙ kind_name k (code_of k) (row_start groups (code_of k)) refl refl place (omega (arith, count, ltb-true place (row_start groups (suc (code_of k)) - row_start groups (code_of k)) e))
    go false e = outside (map bytes (names_of k)) place [] (omega (arith, count, ltb-false place (row_start groups (suc (code_of k)) - row_start groups (code_of k)) e))
