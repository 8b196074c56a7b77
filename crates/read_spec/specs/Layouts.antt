-- What follows the operation words of each group (the manual, sections 4 and 6, each instruction's format; section 8).
-- line, x, opmode and ea are bits 15 to 12, 11 to 9, 8 to 6 and 5 to 0 of the operation word.
use Rattle.std.specs.Prelude.{ℕ, ◌+◌, ◌*◌, ◌-◌, ◌/◌, ◌%◌, Bool, ◌&&◌, ◌||◌, cond, eqb, ltb, leb}
use Rattle.isa.specs.declared.Size.{Size}
use Rattle.isa.specs.declared.Size.TheVariants.{Byte, Word, Long}
use Rattle.isa.specs.declared.BitFieldOperation.{BitFieldOperation}
use Rattle.isa.specs.declared.UnsizedOneOperation.{UnsizedOneOperation}
use Rattle.isa.specs.declared.UnsizedOneOperation.TheVariants.{PEA, NBCD}
use Rattle.isa_spec.specs.Code.{unsized_size, is_byte}
use Rattle.read_spec.specs.declared.Specifier.{Specifier}
use Rattle.read_spec.specs.declared.Specifier.TheVariants as specifier
use Rattle.read_spec.specs.declared.Layout.{Layout}
use Rattle.read_spec.specs.declared.Group.{Group}
use Rattle.read_spec.specs.declared.Group.TheVariants as group
use Rattle.read_spec.specs.Modes.{only_mode, all_modes, data_modes, control_modes, data_alterable_modes, memory_alterable_modes, readable_modes, quick_modes, immediate_modes_at, static_modes_at, dynamic_modes_at, movem_modes_at, bit_field_modes, unsized_modes}
use Rattle.read_spec.specs.Layout.{two, one, alone, bare, no_layout}
use Rattle.read_spec.specs.Operation.{size_at, move_size, to_status, unsized_at, bit_field_at}

-- an immediate before the destination
abbrev pub immediate_specifier : Size → Specifier
immediate_specifier Byte = specifier.Byte
immediate_specifier Word = specifier.Word
immediate_specifier Long = specifier.Long

-- ORI ANDI SUBI ADDI EORI CMPI, and to CCR and SR
abbrev pub immediate_layout : ℕ → ℕ → ℕ → Layout
immediate_layout x opmode ea =
    cond (to_status x opmode ea) (alone (immediate_specifier (size_at opmode)))
    (one (immediate_specifier (size_at opmode)) (size_at opmode) ea (immediate_modes_at x))

-- BTST BCHG BCLR BSET with a data register, and MOVEP, which reaches memory through d16(An) only
abbrev pub dynamic_bit_movep_layout : ℕ → ℕ → Layout
dynamic_bit_movep_layout opmode ea =
    cond (eqb (ea / 8) 1) (one specifier.Nothing Word (40 + ea % 8) (only_mode 5)) (one specifier.Nothing Byte ea (dynamic_modes_at (opmode - 4)))

-- CAS and CAS2
abbrev pub cas_layout : ℕ → ℕ → Layout
cas_layout x ea = cond (eqb ea 60 && leb 6 x) (alone specifier.CompareTwo) (one specifier.Compare (size_at (x - 5)) ea memory_alterable_modes)

-- MOVEA has no byte
abbrev pub movea_layout : Size → ℕ → Layout
movea_layout s ea = cond (is_byte s) no_layout (one specifier.Nothing s ea all_modes)

-- MOVE: the destination's register before its mode
abbrev pub move_layout : Size → ℕ → ℕ → ℕ → Layout
move_layout s x opmode ea = cond (eqb opmode 1) (movea_layout s ea) (two specifier.Nothing s ea (readable_modes s) (opmode * 8 + x) data_alterable_modes)

abbrev pub one_layout : Size → ℕ → ℕ → Layout
one_layout s x ea = one specifier.Nothing s ea (cond (eqb x 5) (readable_modes s) data_alterable_modes)

abbrev pub unsized_layout : UnsizedOneOperation → ℕ → Layout
unsized_layout op ea = one specifier.Nothing (unsized_size op) ea (unsized_modes op)

-- ILLEGAL stands where TAS would have an immediate operand
abbrev pub unsized_one_illegal_layout : ℕ → ℕ → ℕ → Layout
unsized_one_illegal_layout x opmode ea = cond (eqb x 5 && eqb ea 60) bare (unsized_layout (unsized_at x opmode) ea)

-- NBCD, and LINK with a long
abbrev pub nbcd_link_layout : ℕ → Layout
nbcd_link_layout ea = cond (eqb (ea / 8) 1) (alone specifier.Long) (unsized_layout NBCD ea)

-- PEA, SWAP and BKPT
abbrev pub pea_swap_bkpt_layout : ℕ → Layout
pea_swap_bkpt_layout ea = cond (ltb ea 16) bare (unsized_layout PEA ea)

-- MOVEM, and EXT
abbrev pub movem_ext_layout : ℕ → ℕ → ℕ → Layout
movem_ext_layout x opmode ea =
    cond (eqb x 4 && ltb ea 8) bare (one specifier.Word (size_at (opmode - 1)) ea (movem_modes_at x))

-- TRAP LINK UNLK MOVE USP RESET NOP STOP RTE RTD RTS TRAPV RTR MOVEC
abbrev pub system_specifier : ℕ → Specifier
system_specifier ea = cond (eqb (ea / 8) 2 || eqb ea 50 || eqb ea 52 || leb 56 ea) specifier.Word specifier.Nothing

abbrev pub system_layout : ℕ → Layout
system_layout ea = cond (ltb ea 56 || eqb (ea / 2) 29) (alone (system_specifier ea)) no_layout

-- LEA, and EXTB.L
abbrev pub lea_extb_layout : ℕ → ℕ → Layout
lea_extb_layout x ea = cond (eqb x 4 && ltb ea 8) bare (one specifier.Nothing Long ea control_modes)

abbrev pub quick_layout : Size → ℕ → Layout
quick_layout s ea = one specifier.Nothing s ea (quick_modes s)

-- Scc, DBcc and TRAPcc
abbrev pub trap_specifier : ℕ → Specifier
trap_specifier ea = cond (eqb ea 58) specifier.Word (cond (eqb ea 59) specifier.Long specifier.Nothing)

abbrev pub conditional_layout : ℕ → Layout
conditional_layout ea =
    cond (eqb (ea / 8) 1) (alone specifier.Word)
    (cond (leb 58 ea && leb ea 60) (alone (trap_specifier ea)) (one specifier.Nothing Byte ea data_alterable_modes))

-- the displacement's byte: $00 before a word, $FF before a long
abbrev pub branch_layout : ℕ → Layout
branch_layout byte = cond (eqb byte 0) (alone specifier.Word) (cond (eqb byte 255) (alone specifier.Long) bare)

-- <ea>,Dn of OR, AND, SUB, CMP and ADD
abbrev pub into_data_layout : ℕ → Size → ℕ → Layout
into_data_layout line s ea = one specifier.Nothing s ea (cond (eqb line 8 || eqb line 12) data_modes (readable_modes s))

-- Dn,<ea> of OR, AND, SUB and ADD; below 16 stand the forms Dy,Dx and -(Ay),-(Ax) of others
abbrev pub from_data_layout : Specifier → Size → ℕ → Layout
from_data_layout k s ea = cond (ltb ea 16) (alone k) (one specifier.Nothing s ea memory_alterable_modes)

-- EXG of two data registers, two address registers, or a data and an address register
abbrev pub is_exchange : ℕ → ℕ → Bool
is_exchange opmode ea = ltb ea 16 && (eqb opmode 5 || leb 8 ea)

abbrev pub logic_exchange_layout : ℕ → ℕ → Layout
logic_exchange_layout opmode ea = cond (is_exchange opmode ea) bare (one specifier.Nothing (size_at (opmode - 4)) ea memory_alterable_modes)

-- CMPM takes two (An)+ only; EOR
abbrev pub logic_compare_layout : ℕ → ℕ → ℕ → Layout
logic_compare_layout x opmode ea =
    cond (eqb (ea / 8) 1) (two specifier.Nothing Byte (24 + ea % 8) (only_mode 3) (24 + x) (only_mode 3))
    (one specifier.Nothing (size_at (opmode - 4)) ea data_alterable_modes)

abbrev pub bit_field_layout : BitFieldOperation → ℕ → Layout
bit_field_layout op ea = one specifier.BitField Byte ea (bit_field_modes op)

abbrev pub layout_of : Group → ℕ → ℕ → ℕ → ℕ → Layout
layout_of group.Unused line x opmode ea = no_layout
layout_of group.ImmediateInto line x opmode ea = immediate_layout x opmode ea
layout_of group.StaticBit line x opmode ea = one specifier.Byte Byte ea (static_modes_at opmode)
layout_of group.DynamicBitMovep line x opmode ea = dynamic_bit_movep_layout opmode ea
layout_of group.MOVES line x opmode ea = one specifier.General (size_at opmode) ea memory_alterable_modes
layout_of group.Bounds line x opmode ea = one specifier.General (size_at x) ea control_modes
layout_of group.CAS line x opmode ea = cas_layout x ea
layout_of group.MOVE line x opmode ea = move_layout (move_size line) x opmode ea
layout_of group.OneOperand line x opmode ea = one_layout (size_at opmode) x ea
layout_of group.UnsizedOneIllegal line x opmode ea = unsized_one_illegal_layout x opmode ea
layout_of group.NbcdLink line x opmode ea = nbcd_link_layout ea
layout_of group.PeaSwapBkpt line x opmode ea = pea_swap_bkpt_layout ea
layout_of group.MovemExt line x opmode ea = movem_ext_layout x opmode ea
layout_of group.MULL line x opmode ea = one specifier.Multiply Long ea data_modes
layout_of group.DIVL line x opmode ea = one specifier.Divide Long ea data_modes
layout_of group.System line x opmode ea = system_layout ea
layout_of group.LeaExtb line x opmode ea = lea_extb_layout x ea
layout_of group.CHK line x opmode ea = one specifier.Nothing (cond (eqb opmode 4) Long Word) ea data_modes
layout_of group.Quick line x opmode ea = quick_layout (size_at (opmode % 4)) ea
layout_of group.Conditional line x opmode ea = conditional_layout ea
layout_of group.Branch line x opmode ea = branch_layout (opmode % 4 * 64 + ea)
layout_of group.MOVEQ line x opmode ea = bare
layout_of group.IntoData line x opmode ea = into_data_layout line (size_at opmode) ea
layout_of group.ArithmeticExtended line x opmode ea = from_data_layout specifier.Nothing (size_at (opmode - 4)) ea
layout_of group.LogicDecimal line x opmode ea = from_data_layout specifier.Nothing Byte ea
layout_of group.LogicPack line x opmode ea = from_data_layout specifier.Word (size_at (opmode - 4)) ea
layout_of group.LogicExchange line x opmode ea = logic_exchange_layout opmode ea
layout_of group.LogicCompare line x opmode ea = logic_compare_layout x opmode ea
layout_of group.WordIntoData line x opmode ea = one specifier.Nothing Word ea data_modes
layout_of group.IntoAddress line x opmode ea = one specifier.Nothing (cond (eqb opmode 7) Long Word) ea all_modes
layout_of group.ShiftRegister line x opmode ea = bare
layout_of group.ShiftMemory line x opmode ea = one specifier.Nothing Word ea memory_alterable_modes
layout_of group.BitField line x opmode ea = bit_field_layout (bit_field_at ((x - 4) * 2 + opmode / 4)) ea
layout_of group.LineA line x opmode ea = bare
layout_of group.LineF line x opmode ea = bare
