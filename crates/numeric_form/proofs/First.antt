-- A literal against the number that it is.
use Rattle.std.specs.Prelude.{ℕ, zero, suc, ◌≡◌, ◌≤◌, refl, Bool, true, false, cond, not, ◌&&◌, ◌||◌, List, [], ◌∷◌, length, leb, eqb, ℤ, pos, negsuc, Option, Some, None}
use Rattle.std.proofs.Common.{arith, ap, ◌∙◌, leb-true}
use Rattle.base_facts.specs.Tests.{and-true, eqb_not}
use Rattle.base_spec.specs.Signed.{minus}
use Rattle.numeric_spec.specs.Take.{Taken, taken, not_there, take_unsigned, take_signed}
use Rattle.numeric_spec.specs.Entry.{is_i32}
use Rattle.base_spec.specs.declared.Literal.{Literal}
use Rattle.numeric_form.specs.Numbers.{number_of, numbers_in, unsigned_in, signed_in, first_taken}

and_true : (m : ℕ) (t : Bool) → cond t (Some m) None ≡ cond (t && true) (Some m) None
and_true m true = refl
and_true m false = refl

and_false : (m : ℕ) (t : Bool) → ◌≡◌ {A = Option ℕ} None (cond (t && false) (Some m) None)
and_false m true = refl
and_false m false = refl

unsigned_by : (top : ℕ) (b : Bool) (m : ℕ) → unsigned_in top (cond b (minus m) (pos m)) ≡ cond (leb m top && (not b || eqb m 0)) (Some m) None
unsigned_by top false m = and_true m (leb m top)
unsigned_by top true zero = and_true zero (leb 0 top)
unsigned_by top true (suc m) = rw (eqb_not (suc m) 0 (λ e. omega arith)) (and_false (suc m) (leb (suc m) top))

pub unsigned_is : (top : ℕ) (l : Literal) → leb l.magnitude top && (not l.negative || eqb l.magnitude 0) ≡ true → unsigned_in top (number_of l) ≡ Some l.magnitude
unsigned_is top l h = unsigned_by top l.negative l.magnitude ∙ ap (λ t. cond t (Some l.magnitude) None) h

pub unsigned_not : (top : ℕ) (l : Literal) → leb l.magnitude top && (not l.negative || eqb l.magnitude 0) ≡ false → unsigned_in top (number_of l) ≡ None
unsigned_not top l h = unsigned_by top l.negative l.magnitude ∙ ap (λ t. cond t (Some l.magnitude) None) h

pub unsigned_within : (top m : ℕ) (t : Bool) → leb m top && t ≡ true → m ≤ top
unsigned_within top m t h = leb-true m top ((and-true (leb m top) t h).0)

pub unsigned_first : (top : ℕ) (l : Literal) (ls : List Literal) → take_unsigned top (numbers_in (l ∷ ls)) ≡ first_taken (unsigned_in top (number_of l)) (numbers_in ls)
unfolding take_unsigned
unsigned_first top l ls = go (number_of l)
  where
    bounded : (n : ℕ) (t : Bool) → cond t (taken n (numbers_in ls)) not_there ≡ first_taken (cond t (Some n) None) (numbers_in ls)
    bounded n true = refl
    bounded n false = refl

    go : (z : ℤ) → take_unsigned top (z ∷ numbers_in ls) ≡ first_taken (unsigned_in top z) (numbers_in ls)
    go (pos n) = bounded n (leb n top)
    go (negsuc n) = refl

pub unsigned_none : (top : ℕ) (ls : List Literal) → length ls ≡ 0 → ◌≡◌ {A = Taken ℕ} not_there (take_unsigned top (numbers_in ls))
unfolding take_unsigned
unsigned_none top [] h = refl
unsigned_none top (l ∷ ls) h = absurd (omega arith)

pub signed_first : (l : Literal) (ls : List Literal) → take_signed (numbers_in (l ∷ ls)) ≡ first_taken (signed_in (number_of l)) (numbers_in ls)
unfolding take_signed
signed_first l ls = go (is_i32 (number_of l))
  where
    go : (t : Bool) → cond t (taken (number_of l) (numbers_in ls)) not_there ≡ first_taken (cond t (Some (number_of l)) None) (numbers_in ls)
    go true = refl
    go false = refl

pub signed_none : (ls : List Literal) → length ls ≡ 0 → ◌≡◌ {A = Taken ℤ} not_there (take_signed (numbers_in ls))
unfolding take_signed
signed_none [] h = refl
signed_none (l ∷ ls) h = absurd (omega arith)
