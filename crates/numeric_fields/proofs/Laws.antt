-- Laws of the numbers. Assumes nothing.
use Prim.Native.Nat.{ℕ, zero, suc, ◌+◌, ◌-◌, ◌≤◌, ◌<◌}
use mathlib.Core.Path.{◌≡◌, refl, sym, ap, ◌∙◌}
use mathlib.Core.Bool.{Bool, true, false, not, ◌&&◌, ◌||◌, and-true, and-false, and_assoc, or-false, or-true, cond}
use native.Mathlib.Omega.{arith}
use lib.Dec.{ltb, leb, eqb}
use lib.ListN.{get_or}
use lib.IntN.{pos, negsuc, nat_abs}
use borrow.Author.Tests.{ltb-true, leb-true, lt-ltb, le-ltb, ne_eqb}
use Rattle.numeric_places.specs.declared.Numbers.{Numbers}
use Rattle.base_spec.specs.Signed.{minus}
use Rattle.numeric_fields.specs.Number.{number_at, present, up_to, unsigned_at, signed_at}
use Rattle.numeric_spec.specs.Entry.{is_i32}
use Rattle.base_facts.specs.Tests as facts
use Rattle.base_facts.specs.Tests.{never}

abs_minus : (m : ℕ) → nat_abs (minus m) ≡ m
abs_minus zero = refl
abs_minus (suc m) = refl

-- a number that is written as a magnitude and a sign
module _ (m : ℕ) where
  abs_signed : (negative : Bool) → nat_abs (cond negative (minus m) (pos m)) ≡ m
  abs_signed true = abs_minus m
  abs_signed false = refl

  up_to_lem : (top : ℕ) (negative : Bool) → leb m top && (not negative || eqb m 0) ≡ up_to top (cond negative (minus m) (pos m))
  up_to_lem top false = and-true (leb m top)
  up_to_lem top true = up_to-minus top m
    where
      up_to-minus : (top m : ℕ) → leb m top && eqb m 0 ≡ up_to top (minus m)
      up_to-minus top zero = and-true (leb 0 top)
      up_to-minus top (suc m) = rw (ne_eqb (suc m) 0 (λ e. omega arith)) (and-false (leb (suc m) top))

abbrev pub code_test : ℕ → Numbers → ℕ → Bool
code_test top ns k = ltb k ns.count && leb (get_or ns.magnitude k 0) top && (not (get_or ns.negative k false) || eqb (get_or ns.magnitude k 0) 0)

module _ (top : ℕ) (ns : Numbers) (k : ℕ) (h : k < 24) where
  test-is : code_test top ns k ≡ present ns k && up_to top (number_at ns k)
  test-is =
      and_assoc (ltb k ns.count) (leb (get_or ns.magnitude k 0) top) (not (get_or ns.negative k false) || eqb (get_or ns.magnitude k 0) 0)
      ∙ ap (λ (b : Bool). ltb k ns.count && b) (up_to_lem (get_or ns.magnitude k 0) top (get_or ns.negative k false))
      ∙ sym (ap (λ (b : Bool). b && ltb k ns.count && up_to top (number_at ns k)) (lt-ltb k 24 h))

  pub unsigned_yes : code_test top ns k ≡ true → record { ok = true; value = get_or ns.magnitude k 0; next = k + 1 } ≡ unsigned_at top ns k
  unfolding unsigned_at
  unsigned_yes e = rw (← test-is, e, abs_signed (get_or ns.magnitude k 0) (get_or ns.negative k false))

  pub unsigned_no : code_test top ns k ≡ false → record { ok = false; value = 0; next = k } ≡ unsigned_at top ns k
  unfolding unsigned_at
  unsigned_no e = rw (← test-is, e)

pub unsigned_out : (top : ℕ) (ns : Numbers) (k : ℕ) → 24 ≤ k → record { ok = false; value = 0; next = k } ≡ unsigned_at top ns k
unfolding unsigned_at
unsigned_out top ns k h = rw (le-ltb k 24 h)

pub negsuc_minus : (m : ℕ) → 0 < m → negsuc (m - 1) ≡ minus m
negsuc_minus zero h = absurd (omega arith)
negsuc_minus (suc m) h = let e : suc m - 1 ≡ m = omega arith in rw e

-- the code's tests of an i32 below 0, and of one from 0 on
abbrev pub minus_test : Bool → ℕ → Bool → Bool
minus_test there m negative = there && negative && ltb 0 m && leb m 2147483648

abbrev pub plus_test : Bool → ℕ → Bool → Bool
plus_test there m negative = there && ltb m 2147483648 && (not negative || eqb m 0)

i32_test : (there : Bool) (m : ℕ) (negative : Bool) → minus_test there m negative || plus_test there m negative ≡ there && is_i32 (cond negative (minus m) (pos m))
i32_test false m negative = refl
i32_test true m false = and-true (ltb m 2147483648)
i32_test true zero true = refl
i32_test true (suc m) true =
    rw (lt-ltb 0 (suc m) (omega arith), ne_eqb (suc m) 0 (λ e. omega arith), and-false (ltb (suc m) 2147483648)) (or-false (leb (suc m) 2147483648))

pub minus_bounds : (there : Bool) (m : ℕ) (negative : Bool) → minus_test there m negative ≡ true → (0 < m) × (m ≤ 2147483648)
minus_bounds true m true h = let b = facts.and-true (ltb 0 m) (leb m 2147483648) h in (ltb-true 0 m b.0, leb-true m 2147483648 b.1)
minus_bounds true m false h = never h
minus_bounds false m negative h = never h

pub plus_bound : (there : Bool) (m : ℕ) (negative : Bool) → plus_test there m negative ≡ true → m < 2147483648
plus_bound true m negative h = ltb-true m 2147483648 (facts.and-true (ltb m 2147483648) (not negative || eqb m 0) h).0
plus_bound false m negative h = never h

minus-value : (there : Bool) (m : ℕ) (negative : Bool) → minus_test there m negative ≡ true → cond negative (minus m) (pos m) ≡ minus m
minus-value true m true h = refl
minus-value true m false h = never h
minus-value false m negative h = never h

plus_value : (there : Bool) (m : ℕ) (negative : Bool) → plus_test there m negative ≡ true → cond negative (minus m) (pos m) ≡ pos m
plus_value true m false h = refl
plus_value true zero true h = refl
plus_value true (suc m) true h = never (sym (ne_eqb (suc m) 0 (λ e. omega arith)) ∙ (facts.and-true (ltb (suc m) 2147483648) (eqb (suc m) 0) h).1)
plus_value false m negative h = never h

module _ (ns : Numbers) (k : ℕ) (h : k < 24) where
  abbrev there : Bool
  there = ltb k ns.count

  abbrev size : ℕ
  size = get_or ns.magnitude k 0

  abbrev sign : Bool
  sign = get_or ns.negative k false

  i32_is : minus_test there size sign || plus_test there size sign ≡ present ns k && is_i32 (number_at ns k)
  i32_is = i32_test there size sign ∙ sym (ap (λ (b : Bool). b && there && is_i32 (number_at ns k)) (lt-ltb k 24 h))

  pub signed-minus : minus_test there size sign ≡ true → record { ok = true; value = minus size; next = k + 1 } ≡ signed_at ns k
  unfolding signed_at
  signed-minus e = rw (← i32_is, e, minus-value there size sign e)

  pub signed_plus : plus_test there size sign ≡ true → record { ok = true; value = pos size; next = k + 1 } ≡ signed_at ns k
  unfolding signed_at
  signed_plus e = rw (← i32_is, e, or-true (minus_test there size sign), plus_value there size sign e)

  pub signed_no : minus_test there size sign ≡ false → plus_test there size sign ≡ false → record { ok = false; value = pos 0; next = k } ≡ signed_at ns k
  unfolding signed_at
  signed_no e f = rw (← i32_is, e, f)

pub signed_out : (ns : Numbers) (k : ℕ) → 24 ≤ k → record { ok = false; value = pos 0; next = k } ≡ signed_at ns k
unfolding signed_at
signed_out ns k h = rw (le-ltb k 24 h)
