-- Parts of the instructions.
use Rattle.std.specs.Prelude.{cond, ℕ, ◌-◌, ◌/◌, eqb}
use Rattle.isa.specs.declared.Operand.{Operand}
use Rattle.isa.specs.declared.PairOperation.TheVariants.{CMPM, EOR}
use Rattle.isa.specs.declared.Instruction.{Instruction}
use Rattle.isa.specs.declared.Instruction.TheVariants.{Pair}
use Rattle.read_spec.specs.Operation.{size_at}
use Rattle.read_spec.specs.Decoded.{data_operand}

-- EOR, and CMPM of any operands
abbrev pub compare_instruction : ℕ → ℕ → ℕ → Operand → Operand → Instruction
compare_instruction x opmode ea o d =
    cond (eqb (ea / 8) 1) (Pair CMPM o d (size_at (opmode - 4))) (Pair EOR (data_operand x) o (size_at (opmode - 4)))
