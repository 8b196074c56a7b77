-- The instruction that an operation word and what follows it are (the manual, sections 4 and 6, each instruction's format).
-- a is the address of the operation word; line, x, opmode and ea are its fields; v, o and d are the value of its specifier, its
-- source and its destination.
use Rattle.std.specs.Prelude.{ℕ, ◌+◌, ◌*◌, ◌-◌, ◌/◌, ◌%◌, ◌^◌, true, false, ◌&&◌, cond, [], ◌∷◌, eqb, ltb, leb, get_or}
use Rattle.isa.specs.declared.Size.{Size}
use Rattle.isa.specs.declared.Size.TheVariants.{Byte, Word, Long}
use Rattle.isa.specs.declared.BranchSize.{BranchSize}
use Rattle.isa.specs.declared.BranchSize.TheVariants as branch
use Rattle.std.specs.declared.option.Option.{Option}
use Rattle.std.specs.declared.option.Option.TheVariants.{None, Some}
use Rattle.isa.specs.declared.RegisterOperand.TheVariants.{Address, Data}
use Rattle.isa.specs.declared.Operand.{Operand}
use Rattle.isa.specs.declared.Operand.TheVariants.{Immediate, Register, Indirect, PostIndirect, PreIndirect, IndirectDisplacement, IndirectIndex, PcDisplacement, PcIndex, Extended, Absolute}
use Rattle.isa.specs.declared.RegisterOperation.TheVariants.{MOVEA, CMP}
use Rattle.isa.specs.declared.TransferOperation.TheVariants.{MOVEP, MOVES}
use Rattle.isa.specs.declared.PairOperation.TheVariants.{MOVE, CMPM, OR, AND, EOR}
use Rattle.isa.specs.declared.UnsizedRegisterOperation.TheVariants.{LEA}
use Rattle.isa.specs.declared.UnsizedOneOperation.TheVariants.{PEA, NBCD}
use Rattle.isa.specs.declared.BranchOperation.TheVariants.{BRA, BSR}
use Rattle.isa.specs.declared.LinkOperation.TheVariants.{LINK, LINKL}
use Rattle.isa.specs.declared.StatusOperation.TheVariants.{STOP}
use Rattle.isa.specs.declared.VectorOperation.TheVariants.{TRAP, BKPT}
use Rattle.isa.specs.declared.RawOperation.TheVariants.{LINEA, LINEF}
use Rattle.isa.specs.declared.NoOperandOperation.TheVariants.{RTE, RESET, RTR, TRAPV, ILLEGAL, RTS, NOP}
use Rattle.isa.specs.declared.Instruction.{Instruction}
use Rattle.isa.specs.declared.Instruction.TheVariants.{IntoRegister, MOVEM, Transfer, Pair, Quick, MOVEQ, ImmediateInto, WordIntoData, SWAP, EXG, UnsizedIntoRegister, UnsizedOne, UnsizedPair, EXT, OneOperand, Bcc, Scc, DBcc, Branch, Link, UNLK, Shift, Vector, Status, ConditionCode, MOVEUSP, Raw, NoOperand, RTD, MOVEC, TRAPcc, MULL, Pack, CAS, CAS2, BF, DIVL}
use Rattle.base_spec.specs.Signed.{signed32, bits_of}
use Rattle.isa_spec.specs.Condition.{condition_of}
use Rattle.encode_spec.specs.Item.{word_address}
use Rattle.read_spec.specs.declared.Group.{Group}
use Rattle.read_spec.specs.declared.Group.TheVariants as group
use Rattle.read_spec.specs.Number.{signed8, signed16, reach}
use Rattle.read_spec.specs.Tree.{Tree, ret, fail}
use Rattle.read_spec.specs.Operand.{general_of}
use Rattle.read_spec.specs.Operation.{size_at, move_size, long_at, bounds_at, chk_at, quick_at, word_at, decimal_at, pack_at, exchanged_at, field_in, sign_at, immediate_at, to_status, condition_code_at, status_at, bit_at, to_memory_at, one_at, unsized_at, count_at, pair_at, extend_at, address_at, either_at, shift_at, direction_at, shift_count, bit_field_at, trap_at}
use Rattle.read_spec.specs.Layouts.{is_exchange}

abbrev pub data_operand : ℕ → Operand
data_operand k = Register (Data k)

-- a word sign-extended to 32 bits
abbrev pub extended : ℕ → ℕ
extended v = bits_of (signed16 v) % 2 ^ 32

-- ORI, ANDI and EORI to CCR, and to SR
abbrev pub status_decoded : ℕ → ℕ → ℕ → Instruction
status_decoded x opmode v = cond (eqb opmode 0) (ConditionCode (condition_code_at x) (v % 256)) (Status (status_at x) (v % 65536))

abbrev pub immediate_decoded : ℕ → ℕ → ℕ → ℕ → Operand → Instruction
immediate_decoded x opmode ea v o =
    cond (to_status x opmode ea) (status_decoded x opmode v) (ImmediateInto (immediate_at x) v o (size_at opmode))

-- MOVEP takes d16(An) only
abbrev pub movep_decoded : ℕ → ℕ → Operand → Tree Instruction
movep_decoded x opmode (Immediate v) = fail
movep_decoded x opmode (Register r) = fail
movep_decoded x opmode (Indirect n) = fail
movep_decoded x opmode (PostIndirect n) = fail
movep_decoded x opmode (PreIndirect n) = fail
movep_decoded x opmode (IndirectDisplacement z base) =
    ret (Transfer MOVEP (to_memory_at (opmode / 2 % 2)) (size_at (1 + opmode % 2)) (Data x) (IndirectDisplacement z base))
movep_decoded x opmode (IndirectIndex base z i) = fail
movep_decoded x opmode (PcDisplacement t) = fail
movep_decoded x opmode (PcIndex t i) = fail
movep_decoded x opmode (Extended base w z outer) = fail
movep_decoded x opmode (Absolute a width) = fail

abbrev pub dynamic_bit_movep_decoded : ℕ → ℕ → ℕ → Operand → Tree Instruction
dynamic_bit_movep_decoded x opmode ea o = cond (eqb (ea / 8) 1) (movep_decoded x opmode o) (ret (UnsizedPair (bit_at (opmode - 4)) (data_operand x) o))

abbrev pub bounds_decoded : ℕ → ℕ → Operand → Instruction
bounds_decoded x v o = IntoRegister (bounds_at v) o (general_of (v / 4096 % 16)) (size_at x)

abbrev pub moves_decoded : ℕ → ℕ → Operand → Instruction
moves_decoded opmode v o = Transfer MOVES (to_memory_at (v / 2048 % 2)) (size_at opmode) (general_of (v / 4096 % 16)) o

-- CAS2: the words of the two comparisons
abbrev pub cas2_decoded : ℕ → ℕ → ℕ → Instruction
cas2_decoded x h l = CAS2 (h % 8) (l % 8) (h / 64 % 8) (l / 64 % 8) (general_of (h / 4096 % 16)) (general_of (l / 4096 % 16)) (size_at (x - 5))

abbrev pub cas_decoded : ℕ → ℕ → ℕ → Operand → Instruction
cas_decoded x ea v o = cond (eqb ea 60 && leb 6 x) (cas2_decoded x (v / 65536) (v % 65536)) (CAS (v % 8) (v / 64 % 8) o (size_at (x - 5)))

abbrev pub move_decoded : ℕ → ℕ → ℕ → Operand → Operand → Instruction
move_decoded line x opmode o d = cond (eqb opmode 1) (IntoRegister MOVEA o (Address x) (move_size line)) (Pair MOVE o d (move_size line))

abbrev pub unsized_one_illegal_decoded : ℕ → ℕ → ℕ → Operand → Instruction
unsized_one_illegal_decoded x opmode ea o = cond (eqb x 5 && eqb ea 60) (NoOperand ILLEGAL) (UnsizedOne (unsized_at x opmode) o)

abbrev pub nbcd_link_decoded : ℕ → ℕ → Operand → Instruction
nbcd_link_decoded ea v o = cond (eqb (ea / 8) 1) (Link LINKL (Address (ea % 8)) v) (UnsizedOne NBCD o)

abbrev pub pea_swap_bkpt_decoded : ℕ → Operand → Instruction
pea_swap_bkpt_decoded ea o = cond (ltb ea 8) (SWAP (Data ea)) (cond (ltb ea 16) (Vector BKPT (ea % 8)) (UnsizedOne PEA o))

abbrev pub movem_ext_decoded : ℕ → ℕ → ℕ → ℕ → Operand → Instruction
movem_ext_decoded x opmode ea v o =
    cond (eqb x 4 && ltb ea 8) (EXT (Data ea) (size_at (opmode - 2)) (size_at (opmode - 1)))
    (MOVEM (to_memory_at (5 - x)) (size_at (opmode - 1)) (v % 65536) o)

-- a 64-bit product has a register for its high half
abbrev pub high_at : ℕ → Option ℕ
high_at v = cond (eqb (v / 1024 % 2) 1) (Some (v % 8)) None

abbrev pub mull_decoded : ℕ → Operand → Instruction
mull_decoded v o = MULL o (v / 4096 % 8) (high_at v) (sign_at (v / 2048 % 2))

abbrev pub divl_decoded : ℕ → Operand → Instruction
divl_decoded v o = DIVL o (v / 4096 % 8) (v % 8) (eqb (v / 1024 % 2) 1) (sign_at (v / 2048 % 2))

-- $4E70 to $4E77
abbrev pub return_decoded : ℕ → ℕ → Instruction
return_decoded k v =
    get_or
    (NoOperand RESET ∷ NoOperand NOP ∷ Status STOP (v % 65536) ∷ NoOperand RTE ∷ RTD (extended (v % 65536)) ∷ NoOperand RTS ∷ NoOperand TRAPV ∷ NoOperand RTR ∷ [])
    k (NoOperand NOP)

-- any control number (01, exception iv)
abbrev pub movec_decoded : ℕ → ℕ → Instruction
movec_decoded ea v = MOVEC (eqb ea 59) (v % 4096) (general_of (v / 4096 % 16))

-- $4E40 to $4E7F, by bits 5 to 3
abbrev pub system_decoded : ℕ → ℕ → Instruction
system_decoded ea v =
    get_or
    (Vector TRAP ea
    ∷ Vector TRAP ea
    ∷ Link LINK (Address (ea % 8)) (extended (v % 65536))
    ∷ UNLK (Address (ea % 8))
    ∷ MOVEUSP true (Address (ea % 8))
    ∷ MOVEUSP false (Address (ea % 8))
    ∷ return_decoded (ea % 8) v
    ∷ [])
    (ea / 8) (movec_decoded ea v)

abbrev pub lea_extb_decoded : ℕ → ℕ → Operand → Instruction
lea_extb_decoded x ea o = cond (eqb x 4 && ltb ea 8) (EXT (Data ea) Byte Long) (UnsizedIntoRegister LEA o (Address x))

abbrev pub quick_decoded : ℕ → ℕ → Operand → Instruction
quick_decoded x opmode o = Quick (quick_at opmode) (count_at x) o (size_at (opmode % 4))

-- k is the condition's code
abbrev pub conditional_decoded : ℕ → ℕ → ℕ → ℕ → Operand → Instruction
conditional_decoded a k ea v o =
    cond (eqb (ea / 8) 1) (DBcc (Data (ea % 8)) (reach (word_address a 1) (signed16 (v % 65536))) (condition_of k))
    (cond (leb 58 ea && leb ea 60) (TRAPcc (condition_of k) (trap_at ea v)) (Scc o (condition_of k)))

-- the conditions T and F of a branch are BRA and BSR
abbrev pub branch_to : ℕ → ℕ → BranchSize → Instruction
branch_to k t s = cond (eqb k 0) (Branch BRA t s) (cond (eqb k 1) (Branch BSR t s) (Bcc t (condition_of k) s))

abbrev pub branch_decoded : ℕ → ℕ → ℕ → ℕ → Instruction
branch_decoded a k byte v =
    cond (eqb byte 0) (branch_to k (reach (word_address a 1) (signed16 (v % 65536))) branch.Word)
    (cond (eqb byte 255) (branch_to k (reach (word_address a 1) (signed32 v)) branch.Long)
    (branch_to k (reach (word_address a 1) (signed8 byte)) branch.Short))

abbrev pub into_data_decoded : ℕ → ℕ → ℕ → Operand → Instruction
into_data_decoded line x opmode o =
    cond (eqb line 11) (IntoRegister CMP o (Data x) (size_at opmode)) (Pair (pair_at line) o (data_operand x) (size_at opmode))

abbrev pub arithmetic_decoded : ℕ → ℕ → ℕ → ℕ → Operand → Instruction
arithmetic_decoded line x opmode ea o =
    cond (ltb ea 16) (Pair (extend_at line) (either_at ea (ea % 8)) (either_at ea x) (size_at (opmode - 4)))
    (Pair (pair_at line) (data_operand x) o (size_at (opmode - 4)))

abbrev pub logic_decimal_decoded : ℕ → ℕ → ℕ → Operand → Instruction
logic_decimal_decoded line x ea o =
    cond (ltb ea 16) (UnsizedPair (decimal_at line) (either_at ea (ea % 8)) (either_at ea x))
    (Pair (pair_at line) (data_operand x) o Byte)

abbrev pub logic_pack_decoded : ℕ → ℕ → ℕ → ℕ → Operand → Instruction
logic_pack_decoded x opmode ea v o =
    cond (ltb ea 16) (Pack (pack_at opmode) (either_at ea (ea % 8)) (either_at ea x) (v % 65536))
    (Pair OR (data_operand x) o (size_at (opmode - 4)))

-- the registers of EXG: bit 3 and opmode 101 say two data or two address registers, opmode 110 a data and an address register
abbrev pub exchanged : ℕ → ℕ → ℕ → Instruction
exchanged x opmode ea =
    cond (ltb ea 8) (EXG (Data x) (Data (ea % 8))) (EXG (exchanged_at x opmode) (Address (ea % 8)))

abbrev pub logic_exchange_decoded : ℕ → ℕ → ℕ → Operand → Instruction
logic_exchange_decoded x opmode ea o = cond (is_exchange opmode ea) (exchanged x opmode ea) (Pair AND (data_operand x) o (size_at (opmode - 4)))

-- CMPM takes two (An)+ only
abbrev pub cmpm_to : Size → ℕ → Operand → Tree Instruction
cmpm_to s y (Immediate v) = fail
cmpm_to s y (Register r) = fail
cmpm_to s y (Indirect n) = fail
cmpm_to s y (PostIndirect x) = ret (Pair CMPM (PostIndirect y) (PostIndirect x) s)
cmpm_to s y (PreIndirect n) = fail
cmpm_to s y (IndirectDisplacement z base) = fail
cmpm_to s y (IndirectIndex base z i) = fail
cmpm_to s y (PcDisplacement t) = fail
cmpm_to s y (PcIndex t i) = fail
cmpm_to s y (Extended base w z outer) = fail
cmpm_to s y (Absolute a width) = fail

abbrev pub cmpm_decoded : Size → Operand → Operand → Tree Instruction
cmpm_decoded s (Immediate v) d = fail
cmpm_decoded s (Register r) d = fail
cmpm_decoded s (Indirect n) d = fail
cmpm_decoded s (PostIndirect y) d = cmpm_to s y d
cmpm_decoded s (PreIndirect n) d = fail
cmpm_decoded s (IndirectDisplacement z base) d = fail
cmpm_decoded s (IndirectIndex base z i) d = fail
cmpm_decoded s (PcDisplacement t) d = fail
cmpm_decoded s (PcIndex t i) d = fail
cmpm_decoded s (Extended base w z outer) d = fail
cmpm_decoded s (Absolute a width) d = fail

abbrev pub logic_compare_decoded : ℕ → ℕ → ℕ → Operand → Operand → Tree Instruction
logic_compare_decoded x opmode ea o d =
    cond (eqb (ea / 8) 1) (cmpm_decoded (size_at (opmode - 4)) o d) (ret (Pair EOR (data_operand x) o (size_at (opmode - 4))))

abbrev pub word_decoded : ℕ → ℕ → ℕ → Operand → Instruction
word_decoded line x opmode o = WordIntoData (word_at line) o (Data x) (sign_at (opmode / 4))

abbrev pub shift_decoded : ℕ → ℕ → ℕ → Instruction
shift_decoded x opmode ea =
    Shift (shift_at (ea / 8 % 4)) (shift_count ea x) (data_operand (ea % 8)) (direction_at (opmode / 4)) (size_at (opmode % 4))

abbrev pub bit_field_decoded : ℕ → ℕ → ℕ → Operand → Instruction
bit_field_decoded x opmode v o =
    BF (bit_field_at ((x - 4) * 2 + opmode / 4)) o (field_in v) (v / 4096 % 8)

abbrev pub word_of : ℕ → ℕ → ℕ → ℕ → ℕ
word_of line x opmode ea = (line * 64 + x * 8 + opmode) * 64 + ea

abbrev pub decoded : ℕ → Group → ℕ → ℕ → ℕ → ℕ → ℕ → Operand → Operand → Tree Instruction
decoded a group.Unused line x opmode ea v o d = fail
decoded a group.ImmediateInto line x opmode ea v o d = ret (immediate_decoded x opmode ea v o)
decoded a group.StaticBit line x opmode ea v o d = ret (UnsizedPair (bit_at opmode) (Immediate v) o)
decoded a group.DynamicBitMovep line x opmode ea v o d = dynamic_bit_movep_decoded x opmode ea o
decoded a group.MOVES line x opmode ea v o d = ret (moves_decoded opmode v o)
decoded a group.Bounds line x opmode ea v o d = ret (bounds_decoded x v o)
decoded a group.CAS line x opmode ea v o d = ret (cas_decoded x ea v o)
decoded a group.MOVE line x opmode ea v o d = ret (move_decoded line x opmode o d)
decoded a group.OneOperand line x opmode ea v o d = ret (OneOperand (one_at x) o (size_at opmode))
decoded a group.UnsizedOneIllegal line x opmode ea v o d = ret (unsized_one_illegal_decoded x opmode ea o)
decoded a group.NbcdLink line x opmode ea v o d = ret (nbcd_link_decoded ea v o)
decoded a group.PeaSwapBkpt line x opmode ea v o d = ret (pea_swap_bkpt_decoded ea o)
decoded a group.MovemExt line x opmode ea v o d = ret (movem_ext_decoded x opmode ea v o)
decoded a group.MULL line x opmode ea v o d = ret (mull_decoded v o)
decoded a group.DIVL line x opmode ea v o d = ret (divl_decoded v o)
decoded a group.System line x opmode ea v o d = ret (system_decoded ea v)
decoded a group.LeaExtb line x opmode ea v o d = ret (lea_extb_decoded x ea o)
decoded a group.CHK line x opmode ea v o d = ret (UnsizedIntoRegister (chk_at opmode) o (Data x))
decoded a group.Quick line x opmode ea v o d = ret (quick_decoded x opmode o)
decoded a group.Conditional line x opmode ea v o d = ret (conditional_decoded a (x * 2 + opmode / 4) ea v o)
decoded a group.Branch line x opmode ea v o d = ret (branch_decoded a (x * 2 + opmode / 4) (opmode % 4 * 64 + ea) v)
decoded a group.MOVEQ line x opmode ea v o d = ret (MOVEQ (opmode % 4 * 64 + ea) (Data x))
decoded a group.IntoData line x opmode ea v o d = ret (into_data_decoded line x opmode o)
decoded a group.ArithmeticExtended line x opmode ea v o d = ret (arithmetic_decoded line x opmode ea o)
decoded a group.LogicDecimal line x opmode ea v o d = ret (logic_decimal_decoded line x ea o)
decoded a group.LogicPack line x opmode ea v o d = ret (logic_pack_decoded x opmode ea v o)
decoded a group.LogicExchange line x opmode ea v o d = ret (logic_exchange_decoded x opmode ea o)
decoded a group.LogicCompare line x opmode ea v o d = logic_compare_decoded x opmode ea o d
decoded a group.WordIntoData line x opmode ea v o d = ret (word_decoded line x opmode o)
decoded a group.IntoAddress line x opmode ea v o d = ret (IntoRegister (address_at line) o (Address x) (long_at opmode))
decoded a group.ShiftRegister line x opmode ea v o d = ret (shift_decoded x opmode ea)
decoded a group.ShiftMemory line x opmode ea v o d = ret (Shift (shift_at x) (Immediate 1) o (direction_at (opmode / 4)) Word)
decoded a group.BitField line x opmode ea v o d = ret (bit_field_decoded x opmode v o)
decoded a group.LineA line x opmode ea v o d = ret (Raw LINEA (word_of line x opmode ea))
decoded a group.LineF line x opmode ea v o d = ret (Raw LINEF (word_of line x opmode ea))
