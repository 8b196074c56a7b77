-- The instruction that numbers say: its place in encoded.rs's Instruction, then its payload, and nothing after it.
use Rattle.std.specs.Prelude.{List, [], ◌∷◌, get_or, ℤ}
use Rattle.isa.specs.declared.RegisterOperation.TheVariants.{ADDA}
use Rattle.isa.specs.declared.Instruction as Isa
use Rattle.isa.specs.declared.Instruction.TheVariants.{IntoRegister, MOVEM, Transfer, Pair, Quick, MOVEQ, ImmediateInto, WordIntoData, SWAP, EXG, UnsizedIntoRegister, UnsizedOne, UnsizedPair, EXT, OneOperand, Bcc, Scc, DBcc, Branch, Link, UNLK, Shift, Vector, Status, ConditionCode, MOVEUSP, Raw, NoOperand, RTD, MOVEC, TRAPcc, MULL, Pack, CAS, CAS2, BF, DIVL}
use Rattle.numeric_spec.specs.declared.Built.{Built}
use Rattle.numeric_spec.specs.declared.Built.TheVariants.{Instruction, NotInForm}
use Rattle.numeric_spec.specs.Take.{Taken, taken, not_there, Take, given, take_both, make1, make2, make3, make4, variant, take_byte, take_word, take_long, take_flag, take_size, take_target_direction, take_condition, take_branch_size, take_shift_direction, take_sign, take_bit_field_operation, take_register, take_bit_field, take_trap_operand, take_register_choice, take_operand}
use Rattle.numeric_spec.specs.Shape.{Shape, shapes, into_register, movem, transfer, pair, quick, moveq, immediate_into, word_into_data, swap, exg, unsized_into_register, unsized_one, unsized_pair, ext, one_operand, bcc, scc, dbcc, branch, link, unlk, shift, vector, status, condition_code, moveusp, raw, no_operand, rtd, movec, trapcc, mull, pack, cas, cas2, bf, divl}

abbrev pub take_shape : Shape → Take Isa.Instruction
take_shape (into_register op) = make3 (IntoRegister op) take_operand take_register take_size
take_shape movem = make4 MOVEM take_target_direction take_size take_word take_operand
take_shape (transfer op) = make4 (Transfer op) take_target_direction take_size take_register take_operand
take_shape (pair op) = make3 (Pair op) take_operand take_operand take_size
take_shape (quick op) = make3 (Quick op) take_byte take_operand take_size
take_shape moveq = make2 MOVEQ take_byte take_register
take_shape (immediate_into op) = make3 (ImmediateInto op) take_long take_operand take_size
take_shape (word_into_data op) = make3 (WordIntoData op) take_operand take_register take_sign
take_shape swap = make1 SWAP take_register
take_shape exg = make2 EXG take_register take_register
take_shape (unsized_into_register op) = make2 (UnsizedIntoRegister op) take_operand take_register
take_shape (unsized_one op) = make1 (UnsizedOne op) take_operand
take_shape (unsized_pair op) = make2 (UnsizedPair op) take_operand take_operand
take_shape ext = make3 EXT take_register take_size take_size
take_shape (one_operand op) = make2 (OneOperand op) take_operand take_size
take_shape bcc = make3 Bcc take_long take_condition take_branch_size
take_shape scc = make2 Scc take_operand take_condition
take_shape dbcc = make3 DBcc take_register take_long take_condition
take_shape (branch op) = make2 (Branch op) take_long take_branch_size
take_shape (link op) = make2 (Link op) take_register take_long
take_shape unlk = make1 UNLK take_register
take_shape (shift op) = make4 (Shift op) take_operand take_operand take_shift_direction take_size
take_shape (vector op) = make1 (Vector op) take_byte
take_shape (status op) = make1 (Status op) take_word
take_shape (condition_code op) = make1 (ConditionCode op) take_byte
take_shape moveusp = make2 MOVEUSP take_flag take_register
take_shape (raw op) = make1 (Raw op) take_word
take_shape (no_operand op) = given (NoOperand op)
take_shape rtd = make1 RTD take_long
take_shape movec = make3 MOVEC take_flag take_word take_register
take_shape trapcc = make2 TRAPcc take_condition take_trap_operand
take_shape mull = make4 MULL take_operand take_byte take_register_choice take_sign
take_shape (pack op) = make3 (Pack op) take_operand take_operand take_word
take_shape cas = make4 CAS take_byte take_byte take_operand take_size
take_shape cas2 =
    make1 (λ x. CAS2 x.0.0.0.0.0.0 x.0.0.0.0.0.1 x.0.0.0.0.1 x.0.0.0.1 x.0.0.1 x.0.1 x.1)
    (take_both (take_both (take_both (take_both (take_both (take_both take_byte take_byte) take_byte) take_byte) take_register) take_register) take_size)
take_shape bf = make4 BF take_bit_field_operation take_operand take_bit_field take_byte
take_shape divl =
    make1 (λ x. DIVL x.0.0.0.0 x.0.0.0.1 x.0.0.1 x.0.1 x.1)
    (take_both (take_both (take_both (take_both take_operand take_byte) take_byte) take_flag) take_sign)

unfoldable pub take_instruction : Take Isa.Instruction
take_instruction = variant 98 (λ place. take_shape (get_or shapes place (into_register ADDA)))

abbrev pub whole : Taken Isa.Instruction → Built
whole (taken i []) = Instruction i
whole (taken i (z ∷ zs)) = NotInForm
whole not_there = NotInForm

unfoldable pub built_of : List ℤ → Built
built_of zs = whole (take_instruction zs)
