-- The fields of an operation word.
use Rattle.std.specs.Prelude.{ℕ, ◌+◌, ◌*◌, ◌/◌, ◌%◌}

abbrev pub line_in : ℕ → ℕ
line_in w = w / 4096

abbrev pub x_in : ℕ → ℕ
x_in w = w / 512 % 8

abbrev pub opmode_in : ℕ → ℕ
opmode_in w = w / 64 % 8

abbrev pub ea_in : ℕ → ℕ
ea_in w = w % 64

-- a condition's code, and the low byte, of these fields
abbrev pub condition_in : ℕ → ℕ
condition_in w = x_in w * 2 + opmode_in w / 4

abbrev pub byte_in : ℕ → ℕ
byte_in w = opmode_in w % 4 * 64 + ea_in w
