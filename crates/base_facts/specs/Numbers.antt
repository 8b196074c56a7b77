-- What stands past the numbers of a match, and successors.
use Rattle.std.specs.Prelude.{ℕ, zero, suc, ◌≤◌, ◌≡◌}
use Rattle.std.proofs.Common.{arith}

-- k is none of the first n numbers
abbrev pub Rest : ℕ → ℕ → Type 0
Rest zero k = Unit {0}
Rest (suc n) k = Rest n k × (k ≡ n → ⊥)

pub rest_le : (n k : ℕ) → Rest n k → n ≤ k
rest_le zero k r = omega arith
rest_le (suc n) k r = omega (arith, rest_le n k r.0, r.1)

-- the nth successor of k
abbrev pub sucs : ℕ → ℕ → ℕ
sucs zero k = k
sucs (suc n) k = suc (sucs n k)
