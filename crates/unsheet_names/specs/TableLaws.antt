-- Laws of the table of names. Assumes nothing.
use Rattle.std.specs.Prelude.{ℕ, ◌+◌, ◌≤◌, ◌<◌, ◌≡◌, refl, leb}
use Rattle.std.proofs.Math.Path.{ap}
use Rattle.std.proofs.Common.{◌∙◌, arith}
use mathlib.Core.List.{List, [], map}
use Rattle.std.proofs.Math.Numerals.{add-one}
use Rattle.std.proofs.Math.ListN.{length, get_or}
use Rattle.base_facts.specs.Tests.{below, leb_is}
use Rattle.sheet_spec.specs.declared.Kind.{Kind}
use Rattle.sheet_spec.specs.declared.Kind.TheVariants as kind
use Rattle.sheet_spec.specs.Names.{bytes, names_of}
use Rattle.sheet_kinds.specs.Packed.{code_of}
use Rattle.unsheet_names.specs.Rows.{joint, row_start, start_next, start-within, joint_at}
use Rattle.unsheet_names.specs.Table.{groups, names}

-- how many there are, and how long they are at most: computed
pub counts : ◌≡◌ {A = ℕ × ℕ × ℕ} (length groups, length names, length (joint names)) (18, 157, 861)
unfolding groups names
counts = refl

pub short : (row : ℕ) → row < 157 → length (get_or names row []) ≤ 20
unfolding groups names
short row h = leb_is (length (get_or names row [])) 20 (below (λ k. leb (length (get_or names k [])) 20) 157 refl row h)

pub kind_names : (k : Kind) → get_or groups (code_of k) [] ≡ map bytes (names_of k)
unfolding groups
kind_names kind.Number = refl
kind_names kind.Target = refl
kind_names kind.Place = refl
kind_names kind.Size = refl
kind_names kind.TargetDirection = refl
kind_names kind.RegisterOperand = refl
kind_names kind.AddressWidth = refl
kind_names kind.Condition = refl
kind_names kind.BranchSize = refl
kind_names kind.ShiftDirection = refl
kind_names kind.Sign = refl
kind_names kind.BitFieldOperation = refl
kind_names kind.FieldValue = refl
kind_names kind.TrapOperand = refl
kind_names kind.RegisterChoice = refl
kind_names kind.Operand = refl
kind_names kind.Instruction = refl

-- a row between where it begins and where the next does
pub row-between : (row from past : ℕ) → row < 157 → from ≡ row_start names row → past ≡ row_start names (row + 1)
    → (past ≡ from + length (get_or names row [])) × (past ≤ 861) × (length (get_or names row []) ≤ 20)
row-between row from past h e f =
    let n : row_start names (row + 1) ≡ row_start names row + length (get_or names row []) = rw add-one (start_next names row) in
    let l : length (joint names) ≡ 861 = ap (λ p. p.2) counts in
    (omega arith, omega (arith, start-within names (row + 1)), short row h)

-- the names of a kind, between the first of them and the first of the next kind
module _ (k : Kind) (number from : ℕ) (n : number ≡ code_of k) (e : from ≡ row_start groups number) where
  here : get_or groups number [] ≡ map bytes (names_of k)
  here = ap (λ (m : ℕ). get_or groups m []) n ∙ kind_names k

  pub kind_between : (past : ℕ) → past ≡ row_start groups (number + 1) → (past ≡ from + length (map bytes (names_of k))) × (past ≤ 157)
  unfolding names
  kind_between past f =
      let s : row_start groups (number + 1) ≡ row_start groups number + length (get_or groups number []) = rw add-one (start_next groups number) in
      let l : length (joint groups) ≡ 157 = ap (λ p. p.1) counts in
      (omega (arith, ap length here), omega (arith, start-within groups (number + 1)))

  pub kind_name : (place : ℕ) → place < length (map bytes (names_of k)) → get_or names (from + place) [] ≡ get_or (map bytes (names_of k)) place []
  unfolding names
  kind_name place h =
      ap (λ (m : ℕ). get_or (joint groups) (m + place) []) e ∙ joint_at [] groups number place (omega (arith, ap length here))
      ∙ ap (λ (r : List (List ℕ)). get_or r place []) here
