-- The numbers of an instruction that code holds are inside their declared types.
use Prim.Native.Nat.{ℕ, ◌<◌}
use mathlib.Core.List.{List}
use native.Mathlib.Omega.{arith}
use lib.IntN.{ℤ, pos, negsuc}
use denote.Laws.{Is}
use denote.Enum.Declared.{row}
use mir.Val.{Val}
use Rattle.isa.specs.declared.Operand.{Operand}
use Rattle.isa.specs.declared.Operand.TheVariants.{Immediate, Register, Indirect, PostIndirect, PreIndirect, IndirectDisplacement, IndirectIndex, PcDisplacement, PcIndex, Extended, Absolute}
use Rattle.isa.specs.declared.Instruction.{Instruction}
use Rattle.isa.specs.declared.Instruction.TheVariants.{IntoRegister, MOVEM, Transfer, Pair, Quick, MOVEQ, ImmediateInto, WordIntoData, SWAP, EXG, UnsizedIntoRegister, UnsizedOne, UnsizedPair, EXT, OneOperand, Bcc, Scc, DBcc, Branch, Link, UNLK, Shift, Vector, Status, ConditionCode, MOVEUSP, Raw, NoOperand, RTD, MOVEC, TRAPcc, MULL, Pack, CAS, CAS2, BF, DIVL}
use Rattle.isa.specs.declared.TrapOperand.{TrapOperand}
use Rattle.isa.specs.declared.TrapOperand.TheVariants as trap
use Rattle.isa.specs.contracts.TrapOperand as trap-type
use Rattle.isa.specs.contracts.Operand as operand
use Rattle.isa.specs.contracts.Instruction as instruction
use Rattle.read_operand_laws.specs.Facts.{as_fits32}
use Rattle.base_facts.specs.Tests.{ltb-true}
use Rattle.read_spec.specs.Accepted.{Fits32, InTypes, TrapInTypes, InstructionInTypes}

extended_in_types : (base w : ℕ) (z outer : ℤ) (vs : List Val) → Is (row operand.the_type) (Extended base w z outer) vs → (w < 65536) × Fits32 z × Fits32 outer
extended_in_types base w (pos m) (pos n) vs h = (omega (arith, h), as_fits32 (pos m) (ltb-true m _ (omega (arith, h))), as_fits32 (pos n) (ltb-true n _ (omega (arith, h))))
extended_in_types base w (pos m) (negsuc n) vs h = (omega (arith, h), as_fits32 (pos m) (ltb-true m _ (omega (arith, h))), as_fits32 (negsuc n) (ltb-true n _ (omega (arith, h))))
extended_in_types base w (negsuc m) (pos n) vs h = (omega (arith, h), as_fits32 (negsuc m) (ltb-true m _ (omega (arith, h))), as_fits32 (pos n) (ltb-true n _ (omega (arith, h))))
extended_in_types base w (negsuc m) (negsuc n) vs h = (omega (arith, h), as_fits32 (negsuc m) (ltb-true m _ (omega (arith, h))), as_fits32 (negsuc n) (ltb-true n _ (omega (arith, h))))

operand_in_types : (o : Operand) (vs : List Val) → Is (row operand.the_type) o vs → InTypes o
operand_in_types (Immediate v) vs h = tt
operand_in_types (Register r) vs h = tt
operand_in_types (Indirect n) vs h = tt
operand_in_types (PostIndirect n) vs h = tt
operand_in_types (PreIndirect n) vs h = tt
operand_in_types (IndirectDisplacement z base) vs h = tt
operand_in_types (IndirectIndex base z x) vs h = tt
operand_in_types (PcDisplacement t) vs h = omega (arith, h)
operand_in_types (PcIndex t x) vs h = omega (arith, h)
operand_in_types (Extended base w z outer) vs h = extended_in_types base w z outer vs h
operand_in_types (Absolute a width) vs h = omega (arith, h)

trap_in_types : (x : TrapOperand) (vs : List Val) → Is (row trap-type.the_type) x vs → TrapInTypes x
trap_in_types trap.None vs h = tt
trap_in_types (trap.Word v) vs h = omega (arith, h)
trap_in_types (trap.Long v) vs h = omega (arith, h)

pub instruction_in_types : (i : Instruction) (vs : List Val) → Is (row instruction.the_type) i vs → InstructionInTypes i
instruction_in_types (IntoRegister op o r s) vs h = operand_in_types o _ h.1.1.1.1.1.0
instruction_in_types (MOVEM direction s mask o) vs h = (omega (arith, h), operand_in_types o _ h.1.1.1.1.1.1.1.0)
instruction_in_types (Transfer op direction s r o) vs h = operand_in_types o _ h.1.1.1.1.1.1.1.1.0
instruction_in_types (Pair op o d s) vs h = (operand_in_types o _ h.1.1.1.1.1.0, operand_in_types d _ h.1.1.1.1.1.1.0)
instruction_in_types (Quick op n o s) vs h = operand_in_types o _ h.1.1.1.1.1.1.0
instruction_in_types (MOVEQ v r) vs h = omega (arith, h)
instruction_in_types (ImmediateInto op v o s) vs h = operand_in_types o _ h.1.1.1.1.1.1.0
instruction_in_types (WordIntoData op o r sign) vs h = operand_in_types o _ h.1.1.1.1.1.0
instruction_in_types (SWAP r) vs h = tt
instruction_in_types (EXG x y) vs h = tt
instruction_in_types (UnsizedIntoRegister op o r) vs h = operand_in_types o _ h.1.1.1.1.1.0
instruction_in_types (UnsizedOne op o) vs h = operand_in_types o _ h.1.1.1.1.1.0
instruction_in_types (UnsizedPair op o d) vs h = (operand_in_types o _ h.1.1.1.1.1.0, operand_in_types d _ h.1.1.1.1.1.1.0)
instruction_in_types (EXT r from to) vs h = tt
instruction_in_types (OneOperand op o s) vs h = operand_in_types o _ h.1.1.1.1.1.0
instruction_in_types (Bcc t condition s) vs h = omega (arith, h)
instruction_in_types (Scc o condition) vs h = operand_in_types o _ h.1.1.1.1.0
instruction_in_types (DBcc r t condition) vs h = omega (arith, h)
instruction_in_types (Branch op t s) vs h = omega (arith, h)
instruction_in_types (Link op r d) vs h = omega (arith, h)
instruction_in_types (UNLK r) vs h = tt
instruction_in_types (Shift op count o direction s) vs h = (operand_in_types count _ h.1.1.1.1.1.0, operand_in_types o _ h.1.1.1.1.1.1.0)
instruction_in_types (Vector op v) vs h = tt
instruction_in_types (Status op v) vs h = omega (arith, h)
instruction_in_types (ConditionCode op v) vs h = omega (arith, h)
instruction_in_types (MOVEUSP to r) vs h = tt
instruction_in_types (Raw op w) vs h = omega (arith, h)
instruction_in_types (NoOperand op) vs h = tt
instruction_in_types (RTD d) vs h = omega (arith, h)
instruction_in_types (MOVEC to control r) vs h = omega (arith, h)
instruction_in_types (TRAPcc condition x) vs h = trap_in_types x _ h.1.1.1.1.1.0
instruction_in_types (MULL o low high sign) vs h = operand_in_types o _ h.1.1.1.1.0
instruction_in_types (Pack op o d adjustment) vs h = (operand_in_types o _ h.1.1.1.1.1.0, operand_in_types d _ h.1.1.1.1.1.1.0, omega (arith, h))
instruction_in_types (CAS compare update o s) vs h = operand_in_types o _ h.1.1.1.1.1.1.0
instruction_in_types (CAS2 compare1 compare2 update1 update2 pointer1 pointer2 s) vs h = tt
instruction_in_types (BF op o f r) vs h = operand_in_types o _ h.1.1.1.1.1.0
instruction_in_types (DIVL o quotient remainder wide sign) vs h = operand_in_types o _ h.1.1.1.1.0
