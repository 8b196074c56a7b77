-- Two's complement numbers (the manual, section 1.4, "Integer Data Formats").
use Rattle.std.specs.Prelude.{ℕ, zero, suc, ◌+◌, ◌-◌, ◌%◌, ◌^◌, cond, ltb, ℤ, pos, negsuc}

-- x below 2^32, read as signed
abbrev pub signed32 : ℕ → ℤ
signed32 x = cond (ltb x (2 ^ 31)) (pos x) (negsuc (2 ^ 32 - 1 - x))

-- x below 2^64, read as signed
abbrev pub signed64 : ℕ → ℤ
signed64 x = cond (ltb x (2 ^ 63)) (pos x) (negsuc (2 ^ 64 - 1 - x))

-- the 64 bits of z
abbrev pub bits_of : ℤ → ℕ
bits_of (pos n) = n
bits_of (negsuc n) = 2 ^ 64 - 1 - n

-- a - b modulo 2^32
abbrev pub difference : ℕ → ℕ → ℕ
difference a b = (a + (2 ^ 32 - b)) % 2 ^ 32

-- -n
abbrev pub minus : ℕ → ℤ
minus zero = pos zero
minus (suc n) = negsuc n
