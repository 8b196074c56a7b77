-- Sizes of operations that name none, and codes of sizes, registers and conditions.
use Rattle.std.specs.Prelude.{ℕ, ◌+◌, ◌%◌, Bool, true, false}
use Rattle.isa.specs.declared.Size.{Size}
use Rattle.isa.specs.declared.Size.TheVariants.{Byte, Word, Long}
use Rattle.isa.specs.declared.RegisterOperand.{RegisterOperand}
use Rattle.isa.specs.declared.RegisterOperand.TheVariants.{Address, Data}
use Rattle.isa.specs.declared.TargetDirection.{TargetDirection}
use Rattle.isa.specs.declared.TargetDirection.TheVariants.{ToMemory, FromMemory}
use Rattle.isa.specs.declared.UnsizedOneOperation.{UnsizedOneOperation}
use Rattle.isa.specs.declared.UnsizedOneOperation.TheVariants.{PEA, NBCD, JSR, JMP, TAS, MOVEtoCCR, MOVEfromCCR, MOVEtoSR, MOVEfromSR}
use Rattle.isa.specs.declared.UnsizedRegisterOperation.{UnsizedRegisterOperation}
use Rattle.isa.specs.declared.UnsizedRegisterOperation.TheVariants.{LEA, CHK, CHKL}
use Rattle.isa.specs.declared.Condition.{Condition}
use Rattle.isa.specs.declared.Condition.TheVariants as condition

-- the size of an operation that names none (the manual, sections 4 and 6, "Attributes"); JSR and JMP, unsized there, take an address
abbrev pub unsized_size : UnsizedOneOperation → Size
unsized_size PEA = Long
unsized_size NBCD = Byte
unsized_size JSR = Long
unsized_size JMP = Long
unsized_size TAS = Byte
unsized_size MOVEtoCCR = Word
unsized_size MOVEfromCCR = Word
unsized_size MOVEtoSR = Word
unsized_size MOVEfromSR = Word

abbrev pub unsized_register_size : UnsizedRegisterOperation → Size
unsized_register_size LEA = Long
unsized_register_size CHK = Word
unsized_register_size CHKL = Long

-- the size field of most instructions: 00 byte, 01 word, 10 long
abbrev pub size_code : Size → ℕ
size_code Byte = 0
size_code Word = 1
size_code Long = 2

-- the size field of MOVE and MOVEA: 01 byte, 11 word, 10 long
abbrev pub move_code : Size → ℕ
move_code Byte = 1
move_code Word = 3
move_code Long = 2

abbrev pub is_byte : Size → Bool
is_byte Byte = true
is_byte Word = false
is_byte Long = false

abbrev pub is_word : Size → Bool
is_word Byte = false
is_word Word = true
is_word Long = false

-- one bit that says long
abbrev pub long_bit : Size → ℕ
long_bit Byte = 0
long_bit Word = 0
long_bit Long = 1

abbrev pub bit : Bool → ℕ
bit true = 1
bit false = 0

abbrev pub number_of_register : RegisterOperand → ℕ
number_of_register (Address n) = n
number_of_register (Data n) = n

-- the three bits of a register number
abbrev pub register_bits : RegisterOperand → ℕ
register_bits r = number_of_register r % 8

-- D/A and a register number, four bits, as extension words have them
abbrev pub general : RegisterOperand → ℕ
general (Address n) = 8 + n % 8
general (Data n) = n % 8

-- one bit that says to memory, and one that says from memory
abbrev pub to_memory : TargetDirection → ℕ
to_memory ToMemory = 1
to_memory FromMemory = 0

abbrev pub from_memory : TargetDirection → ℕ
from_memory ToMemory = 0
from_memory FromMemory = 1

-- the manual, table 3-19, "Conditional Tests"
abbrev pub condition_code : Condition → ℕ
condition_code condition.True = 0
condition_code condition.False = 1
condition_code condition.High = 2
condition_code condition.LowOrSame = 3
condition_code condition.CarryClear = 4
condition_code condition.CarrySet = 5
condition_code condition.NotEqual = 6
condition_code condition.Equal = 7
condition_code condition.OverflowClear = 8
condition_code condition.OverflowSet = 9
condition_code condition.Plus = 10
condition_code condition.Minus = 11
condition_code condition.GreaterThanOrEqual = 12
condition_code condition.LessThan = 13
condition_code condition.GreaterThan = 14
condition_code condition.LessThanOrEqual = 15
