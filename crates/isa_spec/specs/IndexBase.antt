-- The base of an Extended operand: A0 to A7 as 0 to 7, the program counter as 8.
use Rattle.std.specs.Prelude.{ℕ, Bool, ltb, leb, eqb}

abbrev pub is_base : ℕ → Bool
is_base n = leb n 8

abbrev pub is_pc : ℕ → Bool
is_pc n = eqb n 8

-- whether it is an address register
abbrev pub is_address_base : ℕ → Bool
is_address_base n = ltb n 8
