-- How many numbers an instruction has. Assumes nothing.
use Rattle.std.specs.Prelude.{ℕ, ◌≤◌, ◌≡◌, refl, length}
use Rattle.std.proofs.Common.{arith, length-append}
use Rattle.isa.specs.declared.RegisterOperand.{RegisterOperand}
use Rattle.isa.specs.declared.RegisterOperand.TheVariants.{Address, Data}
use Rattle.isa.specs.declared.FieldValue.{FieldValue}
use Rattle.isa.specs.declared.FieldValue.TheVariants as value
use Rattle.isa.specs.declared.TrapOperand.{TrapOperand}
use Rattle.isa.specs.declared.TrapOperand.TheVariants as trap
use Rattle.std.specs.declared.option.Option.{Option}
use Rattle.std.specs.declared.option.Option.TheVariants as choice
use Rattle.isa.specs.declared.Operand.{Operand}
use Rattle.isa.specs.declared.Operand.TheVariants.{Immediate, Register, Indirect, PostIndirect, PreIndirect, IndirectDisplacement, IndirectIndex, PcDisplacement, PcIndex, Extended, Absolute}
use Rattle.isa.specs.declared.Instruction.{Instruction}
use Rattle.isa.specs.declared.Instruction.TheVariants.{IntoRegister, MOVEM, Transfer, Pair, Quick, MOVEQ, ImmediateInto, WordIntoData, SWAP, EXG, UnsizedIntoRegister, UnsizedOne, UnsizedPair, EXT, OneOperand, Bcc, Scc, DBcc, Branch, Link, UNLK, Shift, Vector, Status, ConditionCode, MOVEUSP, Raw, NoOperand, RTD, MOVEC, TRAPcc, MULL, Pack, CAS, CAS2, BF, DIVL}
use Rattle.numeric_spec.specs.Payload.{register_form, field_value_form, trap_operand_form, register_choice_form, operand_form}
use Rattle.numeric_spec.specs.Form.{payload_of, form_of}

register_length : (r : RegisterOperand) → length (register_form r) ≡ 2
register_length (Address n) = refl
register_length (Data n) = refl

field-value_length : (v : FieldValue) → length (field_value_form v) ≡ 2
field-value_length (value.Immediate n) = refl
field-value_length (value.Register n) = refl

trap_operand_length : (x : TrapOperand) → length (trap_operand_form x) ≤ 2
trap_operand_length trap.None = omega arith
trap_operand_length (trap.Word n) = omega arith
trap_operand_length (trap.Long n) = omega arith

register_choice_length : (x : Option ℕ) → length (register_choice_form x) ≤ 2
register_choice_length choice.None = omega arith
register_choice_length (choice.Some n) = omega arith

operand_length : (o : Operand) → length (operand_form o) ≤ 7
operand_length (Immediate v) = omega arith
operand_length (Register r) = omega (arith, register_length r)
operand_length (Indirect n) = omega arith
operand_length (PostIndirect n) = omega arith
operand_length (PreIndirect n) = omega arith
operand_length (IndirectDisplacement z base) = simp length-append (omega (arith, register_length base))
operand_length (IndirectIndex base z x) = simp length-append (omega (arith, register_length base, register_length x.register))
operand_length (PcDisplacement t) = omega arith
operand_length (PcIndex t x) = simp length-append (omega (arith, register_length x.register))
operand_length (Extended base w z outer) = omega arith
operand_length (Absolute a w) = omega arith

payload_length : (x : Instruction) → length (payload_of x) ≤ 16
payload_length (IntoRegister op o r s) = simp length-append (omega (arith, operand_length o, register_length r))
payload_length (MOVEM d s w o) = simp length-append (omega (arith, operand_length o))
payload_length (Transfer op d s r o) = simp length-append (omega (arith, register_length r, operand_length o))
payload_length (Pair op o o₂ s) = simp length-append (omega (arith, operand_length o, operand_length o₂))
payload_length (Quick op n o s) = simp length-append (omega (arith, operand_length o))
payload_length (MOVEQ n r) = simp length-append (omega (arith, register_length r))
payload_length (ImmediateInto op v o s) = simp length-append (omega (arith, operand_length o))
payload_length (WordIntoData op o r g) = simp length-append (omega (arith, operand_length o, register_length r))
payload_length (SWAP r) = omega (arith, register_length r)
payload_length (EXG r r₂) = simp length-append (omega (arith, register_length r, register_length r₂))
payload_length (UnsizedIntoRegister op o r) = simp length-append (omega (arith, operand_length o, register_length r))
payload_length (UnsizedOne op o) = omega (arith, operand_length o)
payload_length (UnsizedPair op o o₂) = simp length-append (omega (arith, operand_length o, operand_length o₂))
payload_length (EXT r s s₂) = simp length-append (omega (arith, register_length r))
payload_length (OneOperand op o s) = simp length-append (omega (arith, operand_length o))
payload_length (Bcc v c s) = omega arith
payload_length (Scc o c) = simp length-append (omega (arith, operand_length o))
payload_length (DBcc r v c) = simp length-append (omega (arith, register_length r))
payload_length (Branch op v s) = omega arith
payload_length (Link op r v) = simp length-append (omega (arith, register_length r))
payload_length (UNLK r) = omega (arith, register_length r)
payload_length (Shift op o o₂ d s) = simp length-append (omega (arith, operand_length o, operand_length o₂))
payload_length (Vector op n) = omega arith
payload_length (Status op w) = omega arith
payload_length (ConditionCode op n) = omega arith
payload_length (MOVEUSP b r) = simp length-append (omega (arith, register_length r))
payload_length (Raw op w) = omega arith
payload_length (NoOperand op) = omega arith
payload_length (RTD v) = omega arith
payload_length (MOVEC b w r) = simp length-append (omega (arith, register_length r))
payload_length (TRAPcc c t) = simp length-append (omega (arith, trap_operand_length t))
payload_length (MULL o n high g) = simp length-append (omega (arith, operand_length o, register_choice_length high))
payload_length (Pack op o o₂ w) = simp length-append (omega (arith, operand_length o, operand_length o₂))
payload_length (CAS n n₂ o s) = simp length-append (omega (arith, operand_length o))
payload_length (CAS2 n n₂ n₃ n₄ r r₂ s) = simp length-append (omega (arith, register_length r, register_length r₂))
payload_length (BF p o f n) = simp length-append (omega (arith, operand_length o, field-value_length f.offset, field-value_length f.width))
payload_length (DIVL o n n₂ b g) = simp length-append (omega (arith, operand_length o))

-- 17 numbers are enough
pub form_length : (x : Instruction) → length (form_of x) ≤ 17
unfolding form_of
form_length x = omega (arith, payload_length x)
