-- Rows one after the other: where each begins, and what stands there. Assumes nothing.
use Rattle.std.specs.Prelude.{ℕ, zero, suc, ◌+◌, ◌≤◌, ◌<◌, ◌≡◌, refl, List, [], ◌∷◌, ◌++◌, length, get_or}
use Rattle.std.proofs.Common.{ap, ◌∙◌, arith, length-append, get_or-append-add}
use Rattle.std.proofs.Math.ListN.{get_or-append}

module _ {A : Type 0} where
  abbrev pub joint : List (List A) → List A
  joint [] = []
  joint (r ∷ rs) = r ++ joint rs

  -- where row k begins
  abbrev pub row_start : List (List A) → ℕ → ℕ
  row_start rs zero = 0
  row_start [] (suc k) = 0
  row_start (r ∷ rs) (suc k) = length r + row_start rs k

  -- where each begins, from n on, and the last ends
  abbrev pub starts_from : ℕ → List (List A) → List ℕ
  starts_from n [] = n ∷ []
  starts_from n (r ∷ rs) = n ∷ starts_from (n + length r) rs

  pub starts_at : (n : ℕ) (rs : List (List A)) (k : ℕ) → k ≤ length rs → get_or (starts_from n rs) k 0 ≡ n + row_start rs k
  starts_at n [] zero h = omega arith
  starts_at n [] (suc k) h = absurd (omega arith)
  starts_at n (r ∷ rs) zero h = omega arith
  starts_at n (r ∷ rs) (suc k) h = omega (arith, starts_at (n + length r) rs k (omega arith))

  -- one row more
  pub start_next : (rs : List (List A)) (k : ℕ) → row_start rs (suc k) ≡ row_start rs k + length (get_or rs k [])
  start_next [] zero = refl
  start_next [] (suc k) = refl
  start_next (r ∷ rs) zero = omega arith
  start_next (r ∷ rs) (suc k) = omega (arith, start_next rs k)

  pub start-within : (rs : List (List A)) (k : ℕ) → row_start rs k ≤ length (joint rs)
  start-within rs zero = omega arith
  start-within [] (suc k) = omega arith
  start-within (r ∷ rs) (suc k) = omega (arith, start-within rs k, length-append r (joint rs))

  -- an entry of row k
  pub joint_at : (d : A) (rs : List (List A)) (k i : ℕ) → i < length (get_or rs k []) → get_or (joint rs) (row_start rs k + i) d ≡ get_or (get_or rs k []) i d
  joint_at d [] zero i h = absurd (omega arith)
  joint_at d [] (suc k) i h = absurd (omega arith)
  joint_at d (r ∷ rs) zero i h = ap (λ (n : ℕ). get_or (r ++ joint rs) n d) (omega arith) ∙ get_or-append r (joint rs) d i h
  joint_at d (r ∷ rs) (suc k) i h = ap (λ (n : ℕ). get_or (r ++ joint rs) n d) (omega arith) ∙ get_or-append-add r (joint rs) (row_start rs k + i) d ∙ joint_at d rs k i h
