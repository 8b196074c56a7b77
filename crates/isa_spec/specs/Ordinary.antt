-- The instructions that the reader does not leave out (01, "The reading"; 02, N5) and that have a line in a sheet: all but IllegalWord and SIMHALT.
use Rattle.std.specs.Prelude.{ℕ, ◌≡◌}
use Rattle.isa.specs.declared.RawOperation.TheVariants.{IllegalWord}
use Rattle.isa.specs.declared.NoOperandOperation.TheVariants.{SIMHALT}
use Rattle.isa.specs.declared.Instruction.{Instruction}
use Rattle.isa.specs.declared.Instruction.TheVariants.{Raw, NoOperand}

abbrev pub Ordinary : Instruction → Type 0
Ordinary i = ((w : ℕ) → i ≡ Raw IllegalWord w → ⊥) × (i ≡ NoOperand SIMHALT → ⊥)
