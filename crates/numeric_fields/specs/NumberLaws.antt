-- A number read is at most its top. Assumes nothing.
use Rattle.std.specs.Prelude.{ℕ, ◌+◌, ◌≤◌, ◌≡◌, refl, Bool, true, false, ◌&&◌, cond, ℤ, pos, negsuc, nat_abs}
use Rattle.std.proofs.Common.{arith, leb-true}
use Rattle.numeric_places.specs.declared.Numbers.{Numbers}
use Rattle.numeric_fields.specs.declared.UnsignedAt.{UnsignedAt}
use Rattle.numeric_fields.specs.Number.{number_at, present, up_to, unsigned_at}

up_to_le : (top : ℕ) (z : ℤ) → up_to top z ≡ true → nat_abs z ≤ top
up_to_le top (pos n) h = leb-true n top h
up_to_le top (negsuc n) h = let z : ◌≡◌ {A = ℕ} 0 1 = cc in omega arith

pub unsigned_le : (top : ℕ) (ns : Numbers) (k : ℕ) → (unsigned_at top ns k).value ≤ top
unfolding unsigned_at
unsigned_le top ns k = go (present ns k) (up_to top (number_at ns k)) refl
  where
    go : (p t : Bool) → up_to top (number_at ns k) ≡ t → (cond {A = UnsignedAt} (p && t) (record { ok = true; value = nat_abs (number_at ns k); next = k + 1 }) (record { ok = false; value = 0; next = k })).value ≤ top
    go true true e = up_to_le top (number_at ns k) e
    go true false e = omega arith
    go false t e = omega arith
