-- The columns that an operation chooses, from their numbers.
use Rattle.std.specs.Prelude.{◌≡◌, refl}
use Rattle.isa.specs.declared.TargetDirection.{TargetDirection}
use Rattle.isa.specs.declared.TargetDirection.TheVariants.{ToMemory, FromMemory}
use Rattle.isa.specs.declared.ImmediateOperation.{ImmediateOperation}
use Rattle.isa.specs.declared.ImmediateOperation.TheVariants.{ADDI, SUBI, ANDI, ORI, EORI, CMPI}
use Rattle.isa_spec.specs.Mode.{bits}
use Rattle.isa_facts.specs.Mode.{column_of}
use Rattle.encode_spec.specs.Movement.{movem_modes}
use Rattle.encode_spec.specs.Arithmetic.{immediate_modes}

pub movem_column : (d : TargetDirection) → column_of (bits (movem_modes d)) ≡ movem_modes d
movem_column ToMemory = refl
movem_column FromMemory = refl

pub immediate_column : (op : ImmediateOperation) → column_of (bits (immediate_modes op)) ≡ immediate_modes op
immediate_column ADDI = refl
immediate_column SUBI = refl
immediate_column ANDI = refl
immediate_column ORI = refl
immediate_column EORI = refl
immediate_column CMPI = refl
