-- Decimal numbers: digits with no leading zeros, `-` where the number is below 0.
use Rattle.std.specs.Prelude.{false, cond, ◌&&◌, List, ℕ, ◌^◌, ltb}
use Rattle.base_spec.specs.Number.{Number, Is, No, all_digits, value_from}

-- what digits say after digits that write a: a number below 2^64
abbrev pub digits_from : ℕ → List ℕ → Number
digits_from a bs = cond (all_digits bs && ltb (value_from a bs) (2 ^ 64)) (Is false (value_from a bs)) No
