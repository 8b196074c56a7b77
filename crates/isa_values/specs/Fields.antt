-- What the fields of a register and of a bit field hold of the numbers from 0 on: the pairs of fields 14 and 20.
use Rattle.std.specs.Prelude.{ℕ, ◌≡◌, pos, ltb}
use Rattle.isa_spec.specs.Field.{holds, ranges}
use Rattle.isa.specs.declared.Field.TheVariants as field
use Rattle.isa_facts.specs.Field.{upwards}

pub register-holds : (n : ℕ) → holds field.Register (pos n) ≡ ltb n 8
unfolding holds ranges
register-holds n = upwards n 7

pub bit_field-holds : (n : ℕ) → holds field.BitField (pos n) ≡ ltb n 32
unfolding holds ranges
bit_field-holds n = upwards n 31
