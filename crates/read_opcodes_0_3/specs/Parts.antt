-- Parts of the instructions.
use Rattle.std.specs.Prelude.{cond, ℕ, ◌+◌, ◌-◌, ◌/◌, ◌%◌, eqb}
use Rattle.isa.specs.declared.RegisterOperand.TheVariants.{Data}
use Rattle.isa.specs.declared.Operand.{Operand}
use Rattle.isa.specs.declared.TransferOperation.TheVariants.{MOVEP}
use Rattle.isa.specs.declared.Instruction.{Instruction}
use Rattle.isa.specs.declared.Instruction.TheVariants.{Transfer, UnsizedPair}
use Rattle.read_spec.specs.Operation.{bit_at, size_at, to_memory_at}
use Rattle.read_spec.specs.Decoded.{data_operand}

-- MOVEP of any operand
abbrev pub movep : ℕ → ℕ → Operand → Instruction
movep x opmode o = Transfer MOVEP (to_memory_at (opmode / 2 % 2)) (size_at (1 + opmode % 2)) (Data x) o

-- a bit by a data register, and MOVEP
abbrev pub dynamic_instruction : ℕ → ℕ → ℕ → Operand → Instruction
dynamic_instruction x opmode ea o = cond (eqb (ea / 8) 1) (movep x opmode o) (UnsizedPair (bit_at (opmode - 4)) (data_operand x) o)
