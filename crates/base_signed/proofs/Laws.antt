-- Two's complement as std's conversions compute it. Assumes nothing.
use Rattle.std.proofs.Common.{◌≡◌, ℕ, suc, ◌-◌, ◌^◌, Bool, true, false, ltb, ℤ, pos, negsuc, refl, arith}
use Rattle.std.specs.Int.{w32, w64, cast_signed, cast_unsigned}
use Rattle.base_spec.specs.Signed.{signed32, signed64, bits_of}

pub signed32_is : (x : ℕ) → cast_signed w32 x ≡ signed32 x
signed32_is x = go (ltb x (2 ^ 31)) refl
  where
    go : (t : Bool) → ltb x (2 ^ 31) ≡ t → cast_signed w32 x ≡ signed32 x
    go true e = rw e
    go false e = let q : 2 ^ 32 - suc x ≡ 2 ^ 32 - 1 - x = omega arith in rw (e, q)

pub signed64_is : (x : ℕ) → cast_signed w64 x ≡ signed64 x
signed64_is x = go (ltb x (2 ^ 63)) refl
  where
    go : (t : Bool) → ltb x (2 ^ 63) ≡ t → cast_signed w64 x ≡ signed64 x
    go true e = rw e
    go false e = let q : 2 ^ 64 - suc x ≡ 2 ^ 64 - 1 - x = omega arith in rw (e, q)

pub bits_is : (z : ℤ) → cast_unsigned w64 z ≡ bits_of z
bits_is (pos n) = refl
bits_is (negsuc n) = let q : 2 ^ 64 - suc n ≡ 2 ^ 64 - 1 - n = omega arith in rw q
