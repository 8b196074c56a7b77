-- A test with what it tells.
use Rattle.std.specs.Prelude.{ℕ, ◌<◌, ◌≤◌, zero, suc, ◌≡◌, refl, Bool, true, false, ◌&&◌, ◌||◌, cond, List, [], ◌∷◌, ltb, T, leb, eqb}
use Rattle.std.proofs.Common.{sym, ◌∙◌, subst, true≢false, arith}
use Rattle.std.proofs.lemmas.Bool.{false≢true}
use borrow.Author.Tests as tests

pub data Lt (a b : ℕ) : Type 0 where
  less : a < b → ltb a b ≡ true → Lt a b
  past : b ≤ a → ltb a b ≡ false → Lt a b

pub lt? : (a b : ℕ) → Lt a b
lt? a b = go (ltb a b) refl
  where
    go : (t : Bool) → ltb a b ≡ t → Lt a b
    go true e = less (tests.ltb-true a b e) e
    go false e = past (tests.ltb-false a b e) e

pub T_true : (b : Bool) → T b → b ≡ true
T_true true t = refl
T_true false t = absurd t

pub T_and : (a b : Bool) → T (a && b) → T a × T b
T_and true b t = (tt, t)
T_and false b t = absurd t

pub true_not_false : {C : Type 0} {b : Bool} → b ≡ true → b ≡ false → C
true_not_false e f = absurd (true≢false (sym e ∙ f))

pub and-true : (a b : Bool) → a && b ≡ true → (a ≡ true) × (b ≡ true)
and-true true b e = (refl, e)
and-true false b e = absurd (false≢true e)

pub true_and : (a b : Bool) → a ≡ true → b ≡ true → a && b ≡ true
true_and a b p q = rw (p, q)

pub or_no : (b : Bool) → (b || false) ≡ b
or_no true = refl
or_no false = refl

pub and_yes : (b : Bool) → b && true ≡ b
and_yes true = refl
and_yes false = refl

pub cond_true : {A : Type 0} (b : Bool) (x y : A) → b ≡ true → cond b x y ≡ x
cond_true b x y e = rw e

pub cond_false : {A : Type 0} (b : Bool) (x y : A) → b ≡ false → cond b x y ≡ y
cond_false b x y e = rw e

pub cond_lt : (b : Bool) (m n k : ℕ) → m < k → n < k → cond b m n < k
cond_lt true m n k h g = h
cond_lt false m n k h g = g

pub data Eq (a b : ℕ) : Type 0 where
  same : a ≡ b → eqb a b ≡ true → Eq a b
  other : (a ≡ b → ⊥) → eqb a b ≡ false → Eq a b

pub eq? : (a b : ℕ) → Eq a b
eq? a b = go (eqb a b) refl
  where
    go : (t : Bool) → eqb a b ≡ t → Eq a b
    go true e = same (tests.eqb-true a b e) e
    go false e = other (tests.eqb-false a b e) e

pub ltb-true : (a b : ℕ) → a < b → ltb a b ≡ true
ltb-true = tests.lt-ltb

pub ltb_not : (a b : ℕ) → b ≤ a → ltb a b ≡ false
ltb_not = tests.le-ltb

pub ltb_is : (a b : ℕ) → ltb a b ≡ true → a < b
ltb_is = tests.ltb-true

pub leb-true : (a b : ℕ) → a ≤ b → leb a b ≡ true
leb-true = tests.le-leb

pub leb_not : (a b : ℕ) → b < a → leb a b ≡ false
leb_not = tests.lt-leb

pub leb_is : (a b : ℕ) → leb a b ≡ true → a ≤ b
leb_is = tests.leb-true

pub eqb_is : (a b : ℕ) → a ≡ b → eqb a b ≡ true
eqb_is = tests.eq-eqb

pub eqb_not : (a b : ℕ) → (a ≡ b → ⊥) → eqb a b ≡ false
eqb_not = tests.ne_eqb

pub eqb_eq : (a b : ℕ) → eqb a b ≡ true → a ≡ b
eqb_eq = tests.eqb-true

abbrev pub all : (ℕ → Bool) → ℕ → Bool
all f zero = true
all f (suc n) = f n && all f n

pub below : (f : ℕ → Bool) (n : ℕ) → all f n ≡ true → (k : ℕ) → k < n → f k ≡ true
below f zero t k h = absurd (omega arith)
below f (suc n) t k h = go (below f n (and-true (f n) (all f n) t).1 k) (lt? k n)
  where
    go : (k < n → f k ≡ true) → Lt k n → f k ≡ true
    go ih (less l e) = ih l
    go ih (past l e) = let q : n ≡ k = omega arith in subst (λ (m : ℕ). f m ≡ true) q (and-true (f n) (all f n) t).0

-- of the numbers of a list
abbrev pub all_in : (ℕ → Bool) → List ℕ → Bool
all_in f [] = true
all_in f (k ∷ ks) = f k && all_in f ks

pub and-false : (t : Bool) → t && false ≡ false
and-false true = refl
and-false false = refl

pub never : {A : Type 0} → false ≡ true → A
never h = let z : ◌≡◌ {A = ℕ} 0 1 = cc in absurd (omega arith)
