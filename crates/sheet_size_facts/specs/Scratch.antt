-- What the rules of the scratch hold: as many places as are needed, and the sparse one the address of lines 1, 65, 129, …
use Rattle.std.specs.Prelude.{ℕ, zero, suc, ◌+◌, ◌*◌, ◌-◌, ◌/◌, ◌%◌, ◌<◌, ◌≡◌, refl, Bool, true, false, cond, List, [], ◌∷◌, map, eqb, leb, length, get_or}
use Rattle.std.proofs.Common.{ap, arith, eqb-true, le-leb}
use Rattle.std.proofs.lemmas.Bool.{eqb-false, lt-leb}
use Rattle.base_facts.specs.Tests.{Lt, less, past, lt?}
use Rattle.sheet_spec.specs.Translate.{ScratchRule, full, firsts_from, sparse}

pub record Filled (rule : ScratchRule) : Type 0 where
  pub places : (l : List ℕ) → length (rule.held l) ≡ rule.needed (length l)

pub full-filled : Filled full
full-filled = record { places = λ l. refl }

-- from line k + 1 on
pub firsts_length : (k : ℕ) (l : List ℕ) → length (firsts_from k l) ≡ (k + length l + 63) / 64 - (k + 63) / 64
firsts_length k [] = omega arith
firsts_length k (a ∷ l) = go (eqb (k % 64) 0) refl (firsts_length (suc k) l)
  where
    go : (t : Bool) → eqb (k % 64) 0 ≡ t → length (firsts_from (suc k) l) ≡ (suc k + length l + 63) / 64 - (suc k + 63) / 64
        → length (cond t (a ∷ firsts_from (suc k) l) (firsts_from (suc k) l)) ≡ (k + suc (length l) + 63) / 64 - (k + 63) / 64
    go true e h = omega (arith, eqb-true (k % 64) 0 e)
    go false e h = omega (arith, eqb-false (k % 64) 0 e)

pub sparse-filled : Filled sparse
sparse-filled = record { places = λ l. omega (arith, firsts_length 0 l) }

firsts_from_lem : (k : ℕ) (l : List ℕ) (b j : ℕ) → k + j ≡ 64 * ((k + 63) / 64 + b) → j < length l → get_or (firsts_from k l) b 0 ≡ get_or l j 0
firsts_from_lem k [] b j e h = absurd (omega arith)
firsts_from_lem k (a ∷ l) b j e h = go (eqb (k % 64) 0) refl (firsts_from_lem (suc k) l) b j e h
  where
    go : (t : Bool) → eqb (k % 64) 0 ≡ t → ((b j : ℕ) → suc k + j ≡ 64 * ((suc k + 63) / 64 + b) → j < length l → get_or (firsts_from (suc k) l) b 0 ≡ get_or l j 0)
        → (b j : ℕ) → k + j ≡ 64 * ((k + 63) / 64 + b) → j < suc (length l) → get_or (cond t (a ∷ firsts_from (suc k) l) (firsts_from (suc k) l)) b 0 ≡ get_or (a ∷ l) j 0
    go true f later zero zero e h = refl
    go true f later zero (suc j) e h = absurd (omega (arith, eqb-true (k % 64) 0 f))
    go true f later (suc b) zero e h = absurd (omega (arith, eqb-true (k % 64) 0 f))
    go true f later (suc b) (suc j) e h = later b j (omega (arith, eqb-true (k % 64) 0 f)) (omega arith)
    go false f later b zero e h = absurd (omega (arith, eqb-false (k % 64) 0 f))
    go false f later b (suc j) e h = later b j (omega (arith, eqb-false (k % 64) 0 f)) (omega arith)

-- place b has what stands at place 64 × b
pub firsts_at : (l : List ℕ) (b : ℕ) → 64 * b < length l → get_or (firsts_from 0 l) b 0 ≡ get_or l (64 * b) 0
firsts_at l b h = firsts_from_lem 0 l b (64 * b) (omega arith) h

pub map_firsts : (f : ℕ → ℕ) (k : ℕ) (l : List ℕ) → map f (firsts_from k l) ≡ firsts_from k (map f l)
map_firsts f k [] = refl
map_firsts f k (a ∷ l) = go (eqb (k % 64) 0) (map_firsts f (suc k) l)
  where
    go : (t : Bool) → map f (firsts_from (suc k) l) ≡ firsts_from (suc k) (map f l)
        → map f (cond t (a ∷ firsts_from (suc k) l) (firsts_from (suc k) l)) ≡ cond t (f a ∷ firsts_from (suc k) (map f l)) (firsts_from (suc k) (map f l))
    go true h = ap (λ (x : List ℕ). f a ∷ x) h
    go false h = h

-- so many places are enough by the sparse rule exactly where 64 times as many are by the full one
pub sparse_enough : (n places : ℕ) → leb (sparse.needed n) places ≡ leb n (64 * places)
sparse_enough n places = go (lt? (64 * places) n)
  where
    go : Lt (64 * places) n → leb ((n + 63) / 64) places ≡ leb n (64 * places)
    go (less h e) = rw (lt-leb ((n + 63) / 64) places (omega arith), lt-leb n (64 * places) h)
    go (past h e) = rw (le-leb ((n + 63) / 64) places (omega arith), le-leb n (64 * places) h)
