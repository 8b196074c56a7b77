-- The form of an instruction: its place in encoded.rs's Instruction, then its payload.
use Rattle.std.specs.Prelude.{ℕ, List, [], ◌∷◌, ◌++◌, map, ℤ}
use Rattle.isa.specs.declared.RegisterOperation.{RegisterOperation}
use Rattle.isa.specs.declared.RegisterOperation.TheVariants.{ADDA, SUBA, CMPA, MOVEA, CMP, CHK2, CMP2}
use Rattle.isa.specs.declared.TransferOperation.{TransferOperation}
use Rattle.isa.specs.declared.TransferOperation.TheVariants.{MOVEP, MOVES}
use Rattle.isa.specs.declared.PairOperation.{PairOperation}
use Rattle.isa.specs.declared.PairOperation.TheVariants.{MOVE, ADD, SUB, ADDX, SUBX, CMPM, OR, AND, EOR}
use Rattle.isa.specs.declared.QuickOperation.{QuickOperation}
use Rattle.isa.specs.declared.QuickOperation.TheVariants.{ADDQ, SUBQ}
use Rattle.isa.specs.declared.ImmediateOperation.{ImmediateOperation}
use Rattle.isa.specs.declared.ImmediateOperation.TheVariants.{ADDI, SUBI, ANDI, ORI, EORI, CMPI}
use Rattle.isa.specs.declared.WordOperation.{WordOperation}
use Rattle.isa.specs.declared.WordOperation.TheVariants.{DIVx, MULx}
use Rattle.isa.specs.declared.UnsizedRegisterOperation.{UnsizedRegisterOperation}
use Rattle.isa.specs.declared.UnsizedRegisterOperation.TheVariants.{LEA, CHK, CHKL}
use Rattle.isa.specs.declared.UnsizedOneOperation.{UnsizedOneOperation}
use Rattle.isa.specs.declared.UnsizedOneOperation.TheVariants.{PEA, NBCD, JSR, JMP, TAS, MOVEtoCCR, MOVEfromCCR, MOVEtoSR, MOVEfromSR}
use Rattle.isa.specs.declared.UnsizedPairOperation.{UnsizedPairOperation}
use Rattle.isa.specs.declared.UnsizedPairOperation.TheVariants.{ABCD, SBCD, BTST, BCLR, BSET, BCHG}
use Rattle.isa.specs.declared.OneOperation.{OneOperation}
use Rattle.isa.specs.declared.OneOperation.TheVariants.{CLR, NEG, NEGX, NOT, TST}
use Rattle.isa.specs.declared.ShiftOperation.{ShiftOperation}
use Rattle.isa.specs.declared.ShiftOperation.TheVariants.{ASd, ROd, LSd, ROXd}
use Rattle.isa.specs.declared.PackOperation.{PackOperation}
use Rattle.isa.specs.declared.PackOperation.TheVariants.{PACK, UNPK}
use Rattle.isa.specs.declared.BranchOperation.{BranchOperation}
use Rattle.isa.specs.declared.BranchOperation.TheVariants.{BRA, BSR}
use Rattle.isa.specs.declared.LinkOperation.{LinkOperation}
use Rattle.isa.specs.declared.LinkOperation.TheVariants.{LINK, LINKL}
use Rattle.isa.specs.declared.StatusOperation.{StatusOperation}
use Rattle.isa.specs.declared.StatusOperation.TheVariants.{ANDItoSR, ORItoSR, EORItoSR, STOP}
use Rattle.isa.specs.declared.ConditionCodeOperation.{ConditionCodeOperation}
use Rattle.isa.specs.declared.ConditionCodeOperation.TheVariants.{ANDItoCCR, ORItoCCR, EORItoCCR}
use Rattle.isa.specs.declared.VectorOperation.{VectorOperation}
use Rattle.isa.specs.declared.VectorOperation.TheVariants.{TRAP, BKPT}
use Rattle.isa.specs.declared.RawOperation.{RawOperation}
use Rattle.isa.specs.declared.RawOperation.TheVariants.{LINEA, LINEF, IllegalWord}
use Rattle.isa.specs.declared.NoOperandOperation.{NoOperandOperation}
use Rattle.isa.specs.declared.NoOperandOperation.TheVariants.{RTE, RESET, RTR, TRAPV, ILLEGAL, RTS, NOP, SIMHALT}
use Rattle.isa.specs.declared.Instruction.{Instruction}
use Rattle.isa.specs.declared.Instruction.TheVariants.{IntoRegister, MOVEM, Transfer, Pair, Quick, MOVEQ, ImmediateInto, WordIntoData, SWAP, EXG, UnsizedIntoRegister, UnsizedOne, UnsizedPair, EXT, OneOperand, Bcc, Scc, DBcc, Branch, Link, UNLK, Shift, Vector, Status, ConditionCode, MOVEUSP, Raw, NoOperand, RTD, MOVEC, TRAPcc, MULL, Pack, CAS, CAS2, BF, DIVL}
use Rattle.numeric_spec.specs.Entry.{Entry, unsigned, entry_number}
use Rattle.numeric_spec.specs.Payload.{bit_field_form, bit_field_operation_form, branch_size_form, byte_form, condition_form, flag_form, long_form, operand_form, register_choice_form, register_form, shift_direction_form, sign_form, size_form, target_direction_form, trap_operand_form, word_form}

abbrev pub register_operation_place : RegisterOperation → ℕ
register_operation_place ADDA = 0
register_operation_place SUBA = 1
register_operation_place CMPA = 2
register_operation_place MOVEA = 3
register_operation_place CMP = 34
register_operation_place CHK2 = 93
register_operation_place CMP2 = 94

abbrev pub transfer_operation_place : TransferOperation → ℕ
transfer_operation_place MOVEP = 63
transfer_operation_place MOVES = 86

abbrev pub pair_operation_place : PairOperation → ℕ
pair_operation_place MOVE = 5
pair_operation_place ADD = 6
pair_operation_place SUB = 7
pair_operation_place ADDX = 8
pair_operation_place SUBX = 9
pair_operation_place CMPM = 19
pair_operation_place OR = 42
pair_operation_place AND = 43
pair_operation_place EOR = 44

abbrev pub quick_operation_place : QuickOperation → ℕ
quick_operation_place ADDQ = 10
quick_operation_place SUBQ = 12

abbrev pub immediate_operation_place : ImmediateOperation → ℕ
immediate_operation_place ADDI = 13
immediate_operation_place SUBI = 14
immediate_operation_place ANDI = 15
immediate_operation_place ORI = 16
immediate_operation_place EORI = 17
immediate_operation_place CMPI = 18

abbrev pub word_operation_place : WordOperation → ℕ
word_operation_place DIVx = 20
word_operation_place MULx = 21

abbrev pub unsized_register_operation_place : UnsizedRegisterOperation → ℕ
unsized_register_operation_place LEA = 25
unsized_register_operation_place CHK = 76
unsized_register_operation_place CHKL = 87

abbrev pub unsized_one_operation_place : UnsizedOneOperation → ℕ
unsized_one_operation_place PEA = 26
unsized_one_operation_place NBCD = 31
unsized_one_operation_place JSR = 45
unsized_one_operation_place JMP = 54
unsized_one_operation_place TAS = 74
unsized_one_operation_place MOVEtoCCR = 64
unsized_one_operation_place MOVEfromCCR = 65
unsized_one_operation_place MOVEtoSR = 66
unsized_one_operation_place MOVEfromSR = 67

abbrev pub unsized_pair_operation_place : UnsizedPairOperation → ℕ
unsized_pair_operation_place ABCD = 29
unsized_pair_operation_place SBCD = 30
unsized_pair_operation_place BTST = 50
unsized_pair_operation_place BCLR = 51
unsized_pair_operation_place BSET = 52
unsized_pair_operation_place BCHG = 53

abbrev pub one_operation_place : OneOperation → ℕ
one_operation_place CLR = 23
one_operation_place NEG = 27
one_operation_place NEGX = 28
one_operation_place NOT = 41
one_operation_place TST = 33

abbrev pub shift_operation_place : ShiftOperation → ℕ
shift_operation_place ASd = 46
shift_operation_place ROd = 47
shift_operation_place LSd = 48
shift_operation_place ROXd = 49

abbrev pub pack_operation_place : PackOperation → ℕ
pack_operation_place PACK = 91
pack_operation_place UNPK = 92

abbrev pub branch_operation_place : BranchOperation → ℕ
branch_operation_place BRA = 38
branch_operation_place BSR = 55

abbrev pub link_operation_place : LinkOperation → ℕ
link_operation_place LINK = 39
link_operation_place LINKL = 88

abbrev pub status_operation_place : StatusOperation → ℕ
status_operation_place ANDItoSR = 71
status_operation_place ORItoSR = 72
status_operation_place EORItoSR = 73
status_operation_place STOP = 58

abbrev pub condition_code_operation_place : ConditionCodeOperation → ℕ
condition_code_operation_place ANDItoCCR = 68
condition_code_operation_place ORItoCCR = 69
condition_code_operation_place EORItoCCR = 70

abbrev pub vector_operation_place : VectorOperation → ℕ
vector_operation_place TRAP = 56
vector_operation_place BKPT = 84

abbrev pub raw_operation_place : RawOperation → ℕ
raw_operation_place LINEA = 61
raw_operation_place LINEF = 62
raw_operation_place IllegalWord = 79

abbrev pub no_operand_operation_place : NoOperandOperation → ℕ
no_operand_operation_place RTE = 57
no_operand_operation_place RESET = 59
no_operand_operation_place RTR = 75
no_operand_operation_place TRAPV = 77
no_operand_operation_place ILLEGAL = 78
no_operand_operation_place RTS = 80
no_operand_operation_place NOP = 81
no_operand_operation_place SIMHALT = 82

abbrev pub place_of : Instruction → ℕ
place_of (IntoRegister op o r s) = register_operation_place op
place_of (MOVEM d s w o) = 4
place_of (Transfer op d s r o) = transfer_operation_place op
place_of (Pair op o o₂ s) = pair_operation_place op
place_of (Quick op n o s) = quick_operation_place op
place_of (MOVEQ n r) = 11
place_of (ImmediateInto op v o s) = immediate_operation_place op
place_of (WordIntoData op o r g) = word_operation_place op
place_of (SWAP r) = 22
place_of (EXG r r₂) = 24
place_of (UnsizedIntoRegister op o r) = unsized_register_operation_place op
place_of (UnsizedOne op o) = unsized_one_operation_place op
place_of (UnsizedPair op o o₂) = unsized_pair_operation_place op
place_of (EXT r s s₂) = 32
place_of (OneOperand op o s) = one_operation_place op
place_of (Bcc v c s) = 35
place_of (Scc o c) = 36
place_of (DBcc r v c) = 37
place_of (Branch op v s) = branch_operation_place op
place_of (Link op r v) = link_operation_place op
place_of (UNLK r) = 40
place_of (Shift op o o₂ d s) = shift_operation_place op
place_of (Vector op n) = vector_operation_place op
place_of (Status op w) = status_operation_place op
place_of (ConditionCode op n) = condition_code_operation_place op
place_of (MOVEUSP b r) = 60
place_of (Raw op w) = raw_operation_place op
place_of (NoOperand op) = no_operand_operation_place op
place_of (RTD v) = 83
place_of (MOVEC b w r) = 85
place_of (TRAPcc c t) = 89
place_of (MULL o n high g) = 90
place_of (Pack op o o₂ w) = pack_operation_place op
place_of (CAS n n₂ o s) = 95
place_of (CAS2 n n₂ n₃ n₄ r r₂ s) = 96
place_of (BF p o f n) = 97
place_of (DIVL o n n₂ b g) = 98

abbrev pub payload_of : Instruction → List Entry
payload_of (IntoRegister op o r s) = operand_form o ++ register_form r ++ size_form s
payload_of (MOVEM d s w o) = target_direction_form d ++ size_form s ++ word_form w ++ operand_form o
payload_of (Transfer op d s r o) = target_direction_form d ++ size_form s ++ register_form r ++ operand_form o
payload_of (Pair op o o₂ s) = operand_form o ++ operand_form o₂ ++ size_form s
payload_of (Quick op n o s) = byte_form n ++ operand_form o ++ size_form s
payload_of (MOVEQ n r) = byte_form n ++ register_form r
payload_of (ImmediateInto op v o s) = long_form v ++ operand_form o ++ size_form s
payload_of (WordIntoData op o r g) = operand_form o ++ register_form r ++ sign_form g
payload_of (SWAP r) = register_form r
payload_of (EXG r r₂) = register_form r ++ register_form r₂
payload_of (UnsizedIntoRegister op o r) = operand_form o ++ register_form r
payload_of (UnsizedOne op o) = operand_form o
payload_of (UnsizedPair op o o₂) = operand_form o ++ operand_form o₂
payload_of (EXT r s s₂) = register_form r ++ size_form s ++ size_form s₂
payload_of (OneOperand op o s) = operand_form o ++ size_form s
payload_of (Bcc v c s) = long_form v ++ condition_form c ++ branch_size_form s
payload_of (Scc o c) = operand_form o ++ condition_form c
payload_of (DBcc r v c) = register_form r ++ long_form v ++ condition_form c
payload_of (Branch op v s) = long_form v ++ branch_size_form s
payload_of (Link op r v) = register_form r ++ long_form v
payload_of (UNLK r) = register_form r
payload_of (Shift op o o₂ d s) = operand_form o ++ operand_form o₂ ++ shift_direction_form d ++ size_form s
payload_of (Vector op n) = byte_form n
payload_of (Status op w) = word_form w
payload_of (ConditionCode op n) = byte_form n
payload_of (MOVEUSP b r) = flag_form b ++ register_form r
payload_of (Raw op w) = word_form w
payload_of (NoOperand op) = []
payload_of (RTD v) = long_form v
payload_of (MOVEC b w r) = flag_form b ++ word_form w ++ register_form r
payload_of (TRAPcc c t) = condition_form c ++ trap_operand_form t
payload_of (MULL o n high g) = operand_form o ++ byte_form n ++ register_choice_form high ++ sign_form g
payload_of (Pack op o o₂ w) = operand_form o ++ operand_form o₂ ++ word_form w
payload_of (CAS n n₂ o s) = byte_form n ++ byte_form n₂ ++ operand_form o ++ size_form s
payload_of (CAS2 n n₂ n₃ n₄ r r₂ s) = byte_form n ++ byte_form n₂ ++ byte_form n₃ ++ byte_form n₄ ++ register_form r ++ register_form r₂ ++ size_form s
payload_of (BF p o f n) = bit_field_operation_form p ++ operand_form o ++ bit_field_form f ++ byte_form n
payload_of (DIVL o n n₂ b g) = operand_form o ++ byte_form n ++ byte_form n₂ ++ flag_form b ++ sign_form g

unfoldable pub form_of : Instruction → List Entry
form_of i = unsigned 98 (place_of i) ∷ payload_of i

unfoldable pub numbers_of : Instruction → List ℤ
numbers_of i = map entry_number (form_of i)
