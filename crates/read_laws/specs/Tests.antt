-- Facts by computed tests: of numbers below a bound, and of the six bits that a set of modes permits.
use Rattle.std.specs.Prelude.{ℕ, zero, suc, ◌<◌, ◌≡◌, refl, Bool, true, false, not, ◌&&◌, ◌||◌, List, [], ◌∷◌, eqb}
use Rattle.std.proofs.Common.{sym, subst, arith}
use Rattle.std.proofs.lemmas.Bool.{false≢true}
use Rattle.read_spec.specs.Operand.{permitted}
use Rattle.base_facts.specs.Tests.{Eq, eq?, all, all_in, below, and-true, eqb_eq}
use Rattle.read_operand_laws.specs.OperandLaws.{permitted_lt}

-- two numbers are equal, a test holds, or it fails
pub data Fact : Type 0 where
  equal : ℕ → ℕ → Fact
  yes : Bool → Fact
  no : Bool → Fact

abbrev tested : Fact → Bool
tested (equal m n) = eqb m n
tested (yes b) = b
tested (no b) = not b

abbrev pub known : List Fact → Bool
known [] = true
known (f ∷ fs) = tested f && known fs

abbrev Holds : Fact → Type 0
Holds (equal m n) = m ≡ n
Holds (yes b) = b ≡ true
Holds (no b) = b ≡ false

abbrev pub Known : List Fact → Type 0
Known [] = Unit {0}
Known (f ∷ fs) = Holds f × Known fs

pub not-true : (b : Bool) → not b ≡ true → b ≡ false
not-true true e = sym e
not-true false e = refl

holds : (f : Fact) → tested f ≡ true → Holds f
holds (equal m n) e = eqb_eq m n e
holds (yes b) e = e
holds (no b) e = not-true b e

pub says : (fs : List Fact) → known fs ≡ true → Known fs
says [] e = tt
says (f ∷ fs) e = let t = and-true (tested f) (known fs) e in (holds f t.0, says fs t.1)

pub facts_below : (n : ℕ) (fs : ℕ → List Fact) → all (λ k. known (fs k)) n ≡ true → (k : ℕ) → k < n → Known (fs k)
facts_below n fs t k h = says (fs k) (below (λ k. known (fs k)) n t k h)

abbrev pub implies : Bool → Bool → Bool
implies true b = b
implies false b = true

-- what a set of modes says of six bits
pub modes_say : (modes : ℕ) (fs : ℕ → List Fact) → all (λ ea. implies (permitted modes ea) (known (fs ea))) 64 ≡ true
    → (ea : ℕ) → permitted modes ea ≡ true → Known (fs ea)
modes_say modes fs t ea m =
    let w : implies (permitted modes ea) (known (fs ea)) ≡ true = below (λ ea. implies (permitted modes ea) (known (fs ea))) 64 t ea (permitted_lt modes ea m) in
    says (fs ea) (rw m at w)

-- a number that is one of a few
abbrev pub among : List ℕ → ℕ → Bool
among [] n = false
among (m ∷ ms) n = eqb n m || among ms n

abbrev pub Each : (ℕ → Type 0) → List ℕ → Type 0
Each P [] = Unit {0}
Each P (m ∷ ms) = P m × Each P ms

pub each : (P : ℕ → Type 0) (ms : List ℕ) → Each P ms → (n : ℕ) → among ms n ≡ true → P n
each P [] p n t = absurd (false≢true t)
each P (m ∷ ms) p n t = go (each P ms p.1 n) (eq? n m)
  where
    go : (among ms n ≡ true → P n) → Eq n m → P n
    go ih (Eq.same e g) = subst P (sym e) p.0
    go ih (Eq.other e g) = ih (rw g at t)

pub each-test : (f : ℕ → Bool) (ms : List ℕ) → all_in f ms ≡ true → (n : ℕ) → among ms n ≡ true → f n ≡ true
each-test f ms t = each (λ n. f n ≡ true) ms (go ms t)
  where
    go : (ms : List ℕ) → all_in f ms ≡ true → Each (λ n. f n ≡ true) ms
    go [] t = tt
    go (m ∷ ms) t = let u = and-true (f m) (all_in f ms) t in (u.0, go ms u.1)

pub each_eight : (P : ℕ → Type 0) → P 0 → P 1 → P 2 → P 3 → P 4 → P 5 → P 6 → P 7 → (n : ℕ) → n < 8 → P n
each_eight P a b c d e f g h zero l = a
each_eight P a b c d e f g h (suc zero) l = b
each_eight P a b c d e f g h (suc (suc zero)) l = c
each_eight P a b c d e f g h (suc (suc (suc zero))) l = d
each_eight P a b c d e f g h (suc (suc (suc (suc zero)))) l = e
each_eight P a b c d e f g h (suc (suc (suc (suc (suc zero))))) l = f
each_eight P a b c d e f g h (suc (suc (suc (suc (suc (suc zero)))))) l = g
each_eight P a b c d e f g h (suc (suc (suc (suc (suc (suc (suc zero))))))) l = h
each_eight P a b c d e f g h (suc (suc (suc (suc (suc (suc (suc (suc n)))))))) l = absurd (omega arith)
