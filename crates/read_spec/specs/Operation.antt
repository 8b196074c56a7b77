-- What the fields of an operation word name (the manual, sections 4 and 6, each instruction's format).
use Rattle.std.specs.Prelude.{ℕ, ◌-◌, ◌/◌, ◌%◌, Bool, ◌&&◌, ◌||◌, cond, [], ◌∷◌, eqb, ltb, leb, get_or}
use Rattle.isa.specs.declared.Size.{Size}
use Rattle.isa.specs.declared.Size.TheVariants.{Byte, Word, Long}
use Rattle.isa.specs.declared.Sign.{Sign}
use Rattle.isa.specs.declared.Sign.TheVariants.{Signed, Unsigned}
use Rattle.isa.specs.declared.TargetDirection.{TargetDirection}
use Rattle.isa.specs.declared.TargetDirection.TheVariants.{ToMemory, FromMemory}
use Rattle.isa.specs.declared.ShiftDirection.{ShiftDirection}
use Rattle.isa.specs.declared.ShiftDirection.TheVariants.{Right, Left}
use Rattle.isa.specs.declared.FieldValue.{FieldValue}
use Rattle.isa.specs.declared.FieldValue.TheVariants as value
use Rattle.isa.specs.declared.BitFieldOperation.{BitFieldOperation}
use Rattle.isa.specs.declared.BitFieldOperation.TheVariants.{Test, ExtractUnsigned, Change, ExtractSigned, Clear, FindFirstOne, Set, Insert}
use Rattle.isa.specs.declared.TrapOperand.{TrapOperand}
use Rattle.isa.specs.declared.TrapOperand.TheVariants as trap
use Rattle.isa.specs.declared.RegisterOperand.{RegisterOperand}
use Rattle.isa.specs.declared.RegisterOperand.TheVariants.{Address, Data}
use Rattle.isa.specs.declared.Operand.{Operand}
use Rattle.isa.specs.declared.Operand.TheVariants.{Immediate, Register, PreIndirect}
use Rattle.isa.specs.declared.RegisterOperation.{RegisterOperation}
use Rattle.isa.specs.declared.RegisterOperation.TheVariants.{ADDA, SUBA, CMPA, CHK2, CMP2}
use Rattle.isa.specs.declared.PairOperation.{PairOperation}
use Rattle.isa.specs.declared.PairOperation.TheVariants.{ADD, SUB, ADDX, SUBX, OR, AND}
use Rattle.isa.specs.declared.ImmediateOperation.{ImmediateOperation}
use Rattle.isa.specs.declared.ImmediateOperation.TheVariants.{ADDI, SUBI, ANDI, ORI, EORI, CMPI}
use Rattle.isa.specs.declared.StatusOperation.{StatusOperation}
use Rattle.isa.specs.declared.StatusOperation.TheVariants.{ANDItoSR, ORItoSR, EORItoSR}
use Rattle.isa.specs.declared.ConditionCodeOperation.{ConditionCodeOperation}
use Rattle.isa.specs.declared.ConditionCodeOperation.TheVariants.{ANDItoCCR, ORItoCCR, EORItoCCR}
use Rattle.isa.specs.declared.UnsizedOneOperation.{UnsizedOneOperation}
use Rattle.isa.specs.declared.UnsizedOneOperation.TheVariants.{JSR, JMP, TAS, MOVEtoCCR, MOVEfromCCR, MOVEtoSR, MOVEfromSR}
use Rattle.isa.specs.declared.UnsizedPairOperation.{UnsizedPairOperation}
use Rattle.isa.specs.declared.UnsizedPairOperation.TheVariants.{ABCD, SBCD, BTST, BCLR, BSET, BCHG}
use Rattle.isa.specs.declared.OneOperation.{OneOperation}
use Rattle.isa.specs.declared.OneOperation.TheVariants.{CLR, NEG, NEGX, NOT, TST}
use Rattle.isa.specs.declared.QuickOperation.{QuickOperation}
use Rattle.isa.specs.declared.QuickOperation.TheVariants.{ADDQ, SUBQ}
use Rattle.isa.specs.declared.UnsizedRegisterOperation.{UnsizedRegisterOperation}
use Rattle.isa.specs.declared.UnsizedRegisterOperation.TheVariants.{CHK, CHKL}
use Rattle.isa.specs.declared.PackOperation.{PackOperation}
use Rattle.isa.specs.declared.PackOperation.TheVariants.{PACK, UNPK}
use Rattle.isa.specs.declared.WordOperation.{WordOperation}
use Rattle.isa.specs.declared.WordOperation.TheVariants.{DIVx, MULx}
use Rattle.isa.specs.declared.BitField.{BitField}
use Rattle.isa.specs.declared.ShiftOperation.{ShiftOperation}
use Rattle.isa.specs.declared.ShiftOperation.TheVariants.{ASd, ROd, LSd, ROXd}

-- the size field: 00 byte, 01 word, 10 long
abbrev pub size_at : ℕ → Size
size_at k = get_or (Byte ∷ Word ∷ Long ∷ []) k Byte

-- the lines 0001, 0010 and 0011 of MOVE
abbrev pub move_size : ℕ → Size
move_size line = get_or (Byte ∷ Byte ∷ Long ∷ Word ∷ []) line Byte

-- opmode 011 or 111 of ADDA, SUBA and CMPA
abbrev pub long_at : ℕ → Size
long_at opmode = cond (eqb opmode 7) Long Word

abbrev pub sign_at : ℕ → Sign
sign_at k = cond (eqb k 1) Signed Unsigned

-- bits 11 to 9 of ORI, ANDI, SUBI, ADDI, EORI and CMPI
abbrev pub immediate_at : ℕ → ImmediateOperation
immediate_at x = get_or (ORI ∷ ANDI ∷ SUBI ∷ ADDI ∷ CMPI ∷ EORI ∷ CMPI ∷ []) x CMPI

-- ORI, ANDI and EORI have forms to CCR and SR, where an immediate destination would stand
abbrev pub to_status : ℕ → ℕ → ℕ → Bool
to_status x opmode ea = eqb ea 60 && ltb opmode 2 && (ltb x 2 || eqb x 5)

abbrev pub condition_code_at : ℕ → ConditionCodeOperation
condition_code_at x = get_or (ORItoCCR ∷ ANDItoCCR ∷ []) x EORItoCCR

abbrev pub status_at : ℕ → StatusOperation
status_at x = get_or (ORItoSR ∷ ANDItoSR ∷ []) x EORItoSR

abbrev pub bit_at : ℕ → UnsizedPairOperation
bit_at k = get_or (BTST ∷ BCHG ∷ BCLR ∷ BSET ∷ []) k BTST

abbrev pub bounds_at : ℕ → RegisterOperation
bounds_at v = cond (eqb (v / 2048 % 2) 1) CHK2 CMP2

abbrev pub to_memory_at : ℕ → TargetDirection
to_memory_at k = cond (eqb k 1) ToMemory FromMemory

abbrev pub one_at : ℕ → OneOperation
one_at x = get_or (NEGX ∷ CLR ∷ NEG ∷ NOT ∷ []) x TST

abbrev pub unsized_at : ℕ → ℕ → UnsizedOneOperation
unsized_at x opmode = cond (eqb opmode 2) JSR (get_or (MOVEfromSR ∷ MOVEfromCCR ∷ MOVEtoCCR ∷ MOVEtoSR ∷ JMP ∷ TAS ∷ []) x JMP)

abbrev pub chk_at : ℕ → UnsizedRegisterOperation
chk_at opmode = cond (eqb opmode 4) CHKL CHK

-- a count of 1 to 8, 8 coded 0
abbrev pub count_at : ℕ → ℕ
count_at x = cond (eqb x 0) 8 x

abbrev pub quick_at : ℕ → QuickOperation
quick_at opmode = cond (leb 4 opmode) SUBQ ADDQ

abbrev pub pair_at : ℕ → PairOperation
pair_at line = get_or (OR ∷ SUB ∷ OR ∷ OR ∷ AND ∷ ADD ∷ []) (line - 8) OR

abbrev pub extend_at : ℕ → PairOperation
extend_at line = cond (eqb line 9) SUBX ADDX

abbrev pub address_at : ℕ → RegisterOperation
address_at line = get_or (ADDA ∷ SUBA ∷ ADDA ∷ CMPA ∷ ADDA ∷ ADDA ∷ []) (line - 8) ADDA

abbrev pub word_at : ℕ → WordOperation
word_at line = cond (eqb line 8) DIVx MULx

abbrev pub decimal_at : ℕ → UnsizedPairOperation
decimal_at line = cond (eqb line 8) SBCD ABCD

abbrev pub pack_at : ℕ → PackOperation
pack_at opmode = cond (eqb opmode 5) PACK UNPK

-- Dy or -(Ay), which bit 3 says
abbrev pub either_at : ℕ → ℕ → Operand
either_at ea k = cond (ltb ea 8) (Register (Data k)) (PreIndirect k)

-- the first register of an EXG with an address register
abbrev pub exchanged_at : ℕ → ℕ → RegisterOperand
exchanged_at x opmode = cond (eqb opmode 5) (Address x) (Data x)

abbrev pub shift_at : ℕ → ShiftOperation
shift_at k = get_or (ASd ∷ LSd ∷ ROXd ∷ ROd ∷ []) k ASd

abbrev pub direction_at : ℕ → ShiftDirection
direction_at k = cond (eqb k 1) Left Right

-- the count of a shift in bits 11 to 9: a register where i/r says so
abbrev pub shift_count : ℕ → ℕ → Operand
shift_count ea x = cond (eqb (ea / 32) 1) (Register (Data x)) (Immediate (count_at x))

-- bits 10 to 8 of a bit-field instruction
abbrev pub bit_field_at : ℕ → BitFieldOperation
bit_field_at k = get_or (Test ∷ ExtractUnsigned ∷ Change ∷ ExtractSigned ∷ Clear ∷ FindFirstOne ∷ Set ∷ Insert ∷ []) k Test

abbrev pub value_at : ℕ → FieldValue
value_at n = cond (eqb (n / 32) 1) (value.Register (n % 8)) (value.Immediate (n % 32))

abbrev pub field_in : ℕ → BitField
field_in v = record { offset = value_at (v / 64 % 64); width = value_at (v % 64) }

-- the operand of TRAPcc: 010 a word, 011 a long, 100 none
abbrev pub trap_at : ℕ → ℕ → TrapOperand
trap_at ea v = cond (eqb ea 58) (trap.Word (v % 65536)) (cond (eqb ea 59) (trap.Long v) trap.None)
