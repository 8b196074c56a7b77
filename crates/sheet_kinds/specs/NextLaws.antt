-- Laws of the kinds in one number. Assumes nothing.
use Rattle.std.specs.Prelude.{ℕ, zero, suc, ◌+◌, ◌*◌, ◌/◌, ◌%◌, ◌^◌, ◌≤◌, ◌<◌, ◌≡◌, refl, true, ◌&&◌, List, [], ◌∷◌, ◌++◌, ltb, length, get_or}
use Rattle.std.proofs.Common.{sym, ap, ◌∙◌, arith, ltb-true, ne_eqb}
use Rattle.std.proofs.Math.ListN.{get_or-eq_default}
use Rattle.sheet_spec.specs.declared.Kind.{Kind}
use Rattle.sheet_spec.specs.declared.Kind.TheVariants as kind
use Rattle.sheet_spec.specs.Grammar.{kinds_of}
use Rattle.sheet_kinds.specs.Packed.{code_of, packed, kind_at}
use Rattle.sheet_kinds.specs.Next.{below, above, power_above, kinds_after}
use Rattle.base_facts.specs.Tests.{and-true}

codes : (k : Kind) → (ltb 0 (code_of k) && ltb (code_of k) 32 ≡ true) × (kind_at (code_of k) ≡ k)
codes kind.Number = (refl, refl)
codes kind.Target = (refl, refl)
codes kind.Place = (refl, refl)
codes kind.Size = (refl, refl)
codes kind.TargetDirection = (refl, refl)
codes kind.RegisterOperand = (refl, refl)
codes kind.AddressWidth = (refl, refl)
codes kind.Condition = (refl, refl)
codes kind.BranchSize = (refl, refl)
codes kind.ShiftDirection = (refl, refl)
codes kind.Sign = (refl, refl)
codes kind.BitFieldOperation = (refl, refl)
codes kind.FieldValue = (refl, refl)
codes kind.TrapOperand = (refl, refl)
codes kind.RegisterChoice = (refl, refl)
codes kind.Operand = (refl, refl)
codes kind.Instruction = (refl, refl)

pub code_fits : (k : Kind) → (0 < code_of k) × (code_of k < 32)
code_fits k =
    let t = and-true (ltb 0 (code_of k)) (ltb (code_of k) 32) (codes k).0 in
    (ltb-true 0 (code_of k) t.0, ltb-true (code_of k) 32 t.1)

pub packed_first : (k : Kind) (ks : List Kind) → kind_at (packed (k ∷ ks) % 32) ≡ k
packed_first k ks =
    let e : (code_of k + 32 * packed ks) % 32 ≡ code_of k = omega (arith, code_fits k) in
    ap kind_at e ∙ (codes k).1

pub packed_rest : (k : Kind) (ks : List Kind) → packed (k ∷ ks) / 32 ≡ packed ks
packed_rest k ks = omega (arith, code_fits k)

pub packed_none : (ks : List Kind) → packed ks ≡ 0 → ks ≡ []
packed_none [] e = refl
packed_none (k ∷ ks) e = absurd (omega (arith, code_fits k))

-- past the rows of a table
pub packed_past : (rows : List (List Kind)) (n : ℕ) → length rows ≤ n → 0 ≡ packed (get_or rows n [])
packed_past rows n h = sym (ap packed (get_or-eq_default rows [] h))

pub below-packed : (ks ls : List Kind) → below ks (packed ls) ≡ packed (ks ++ ls)
below-packed [] ls = refl
below-packed (k ∷ ks) ls = ap (λ (n : ℕ). code_of k + 32 * n) (below-packed ks ls)

pub next_packed : (k : Kind) (ks : List Kind) (n : ℕ) → kinds_after (packed (k ∷ ks)) n ≡ packed (kinds_of k n ++ ks)
next_packed k ks n = rw (packed_first k ks, packed_rest k ks) (below-packed (kinds_of k n) ks)

pub packed_small : (n : ℕ) (ks : List Kind) → length ks ≤ n → packed ks < 32 ^ n
packed_small zero [] h = omega arith
packed_small (suc n) [] h = omega (arith, packed_small n [] (omega arith))
packed_small zero (k ∷ ks) h = absurd (omega arith)
packed_small (suc n) (k ∷ ks) h = omega (arith, packed_small n ks (omega arith), code_fits k)

-- fields below a number
pub below-above : (ks : List Kind) (n : ℕ) → below ks n ≡ packed ks + above ks * n
below-above [] n = omega arith
below-above (k ∷ ks) n = omega (arith, below-above ks n)

-- the power of 32 above a number, and above fields
power_one : (k : ℕ) → 1 ≤ 32 ^ k
power_one zero = omega arith
power_one (suc k) = omega (arith, power_one k)

power_none : (d : ℕ) → power_above d 0 ≡ 1
power_none zero = refl
power_none (suc d) = refl

pub power_is : (d k n : ℕ) → k < d → 32 ^ k ≤ n → n < 32 ^ suc k → 32 ^ suc k ≡ power_above d n
power_is zero k n h lo hi = absurd (omega arith)
power_is (suc d) zero n h lo hi =
    let z : n / 32 ≡ 0 = omega arith in
    rw (ne_eqb n 0 (λ e. omega arith), z, power_none d)
power_is (suc d) (suc k) n h lo hi =
    let some : n ≡ 0 → ⊥ = λ e. omega (arith, power_one k) in
    let later : 32 ^ suc k ≡ power_above d (n / 32) = power_is d k (n / 32) (omega arith) (omega arith) (omega arith) in
    rw (ne_eqb n 0 some) (omega arith)

pub power_packed : (d : ℕ) (ks : List Kind) → length ks ≤ d → power_above d (packed ks) ≡ above ks
power_packed d [] h = power_none d
power_packed zero (k ∷ ks) h = absurd (omega arith)
power_packed (suc d) (k ∷ ks) h =
    let some : packed (k ∷ ks) ≡ 0 → ⊥ = λ e. omega (arith, code_fits k) in
    rw (ne_eqb (packed (k ∷ ks)) 0 some, packed_rest k ks) (ap (λ (x : ℕ). 32 * x) (power_packed d ks (omega arith)))
