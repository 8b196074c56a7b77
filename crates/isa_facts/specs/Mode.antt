-- A set of modes as the code holds it, a number whose bit n stands for mode n, and its column of table 2-4.
use Rattle.std.specs.Prelude.{ℕ, zero, suc, ◌+◌, ◌/◌, ◌%◌, ◌^◌, ◌<◌, Bool, true, false, cond, List, [], ◌∷◌, ◌≡◌, eqb, get_or}
use Rattle.std.proofs.Common.{ap, ◌∙◌, arith}
use Rattle.isa_spec.specs.Mode.{bits}

-- bit m of n
abbrev pub bit_at : ℕ → ℕ → Bool
bit_at n m = eqb (n / 2 ^ m % 2) 1

-- k entries from bit m on
abbrev column_from : ℕ → ℕ → ℕ → List Bool
column_from zero m n = []
column_from (suc k) m n = bit_at n m ∷ column_from k (suc m) n

abbrev pub column_of : ℕ → List Bool
column_of n = column_from 12 0 n

entry : (k m n j : ℕ) → j < k → get_or (column_from k m n) j false ≡ bit_at n (m + j)
entry zero m n j h = absurd (omega arith)
entry (suc k) m n zero h = ap (bit_at n) (omega arith)
entry (suc k) m n (suc j) h = entry k (suc m) n j (omega arith) ∙ ap (bit_at n) (omega arith)

pub column_bit : (n m : ℕ) → m < 12 → get_or (column_of n) m false ≡ bit_at n m
column_bit n m h = entry 12 0 n m h ∙ ap (bit_at n) (omega arith)

-- of one of two sets
pub column_cond : (b : Bool) (xs ys : List Bool) → column_of (bits xs) ≡ xs → column_of (bits ys) ≡ ys
    → column_of (cond b (bits xs) (bits ys)) ≡ cond b xs ys
column_cond true xs ys p q = p
column_cond false xs ys p q = q
