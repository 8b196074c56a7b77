-- The address of a line among addresses. Assumes nothing.
use Prim.Native.Nat.{ℕ, zero, suc, ◌-◌}
use mathlib.Core.Path.{◌≡◌, refl}
use mathlib.Core.List.{List}
use native.Mathlib.Omega.{arith}
use lib.ListN.{get_or}
use Rattle.sheet_labels.specs.Labels.{address_in}

pub address_line : (addresses : List ℕ) (k : ℕ) → (k ≡ 0 → ⊥) → address_in addresses k ≡ get_or addresses (k - 1) 0
address_line addresses zero h = absurd (h refl)
address_line addresses (suc k) h = let e : suc k - 1 ≡ k = omega arith in rw e
