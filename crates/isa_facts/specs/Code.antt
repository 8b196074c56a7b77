-- How large codes are.
use Rattle.std.specs.Prelude.{◌<◌, Bool, true, false}
use Rattle.std.proofs.Common.{arith}
use Rattle.isa.specs.declared.Size.{Size}
use Rattle.isa.specs.declared.Size.TheVariants.{Byte, Word, Long}
use Rattle.isa.specs.declared.RegisterOperand.{RegisterOperand}
use Rattle.isa.specs.declared.RegisterOperand.TheVariants.{Address, Data}
use Rattle.isa_spec.specs.Code.{long_bit, general, bit}

pub bit_lt : (b : Bool) → bit b < 2
bit_lt true = omega arith
bit_lt false = omega arith

pub general_lt : (r : RegisterOperand) → general r < 16
general_lt (Address n) = omega arith
general_lt (Data n) = omega arith

pub long_lt : (s : Size) → long_bit s < 2
long_lt Byte = omega arith
long_lt Word = omega arith
long_lt Long = omega arith
