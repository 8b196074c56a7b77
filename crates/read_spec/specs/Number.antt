-- Signed numbers in words, and the address that a displacement reaches.
use Rattle.std.specs.Prelude.{cond, ℕ, ◌+◌, ◌-◌, ◌%◌, ◌^◌, ltb, ℤ, pos, negsuc}
use Rattle.base_spec.specs.Signed.{bits_of}

-- x below twice h, read as signed
abbrev pub signed : ℕ → ℕ → ℤ
signed h x = cond (ltb x h) (pos x) (negsuc (h + h - 1 - x))

abbrev pub signed8 : ℕ → ℤ
signed8 = signed (2 ^ 7)

abbrev pub signed16 : ℕ → ℤ
signed16 = signed (2 ^ 15)

-- z beyond p, modulo 2^32
abbrev pub reach : ℕ → ℤ → ℕ
reach p z = (p + bits_of z) % 2 ^ 32
