-- Laws of signed numbers and addresses. Assumes nothing.
use Rattle.std.proofs.Common.{◌≡◌, ℕ, ◌+◌, ◌-◌, ◌%◌, ◌<◌, ◌≤◌, ℤ, negsuc, ap, arith}
use Rattle.base_spec.specs.Signed.{bits_of}
use Rattle.read_spec.specs.Number.{reach}

pub negative : (h x : ℕ) → x < h + h → h ≤ x → negsuc (h - 1 - (x - h)) ≡ negsuc (h + h - 1 - x)
negative h x p q = let e : h - 1 - (x - h) ≡ h + h - 1 - x = omega arith in ap negsuc e

pub reach-low : (p : ℕ) (z : ℤ) → (p + bits_of z % 4294967296) % 4294967296 ≡ reach p z
reach-low p z = omega arith
