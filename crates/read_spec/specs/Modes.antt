-- The addressing modes that operands may be in: the categories of table 2-4, "Effective Addressing Modes and Categories", as each
-- instruction's entry in sections 4 and 6 of the manual names them. A set of modes is a number, mode n its bit n; from 0 on the modes are
-- Dn An (An) (An)+ -(An) d16(An) d8(An,Xn) (xxx).W (xxx).L d16(PC) d8(PC,Xn) #.
use Rattle.std.specs.Prelude.{ℕ, true, false, cond, eqb}
use Rattle.isa.specs.declared.Size.{Size}
use Rattle.isa.specs.declared.BitFieldOperation.{BitFieldOperation}
use Rattle.isa.specs.declared.UnsizedOneOperation.{UnsizedOneOperation}
use Rattle.isa.specs.declared.UnsizedOneOperation.TheVariants.{PEA, NBCD, JSR, JMP, TAS, MOVEtoCCR, MOVEfromCCR, MOVEtoSR, MOVEfromSR}
use Rattle.isa_spec.specs.Code.{is_byte}
use Rattle.isa_spec.specs.Mode.{every_column, data_column, memory_column, control_column, alterable_column, both, set_to, only, bits}
use Rattle.encode_spec.specs.Bits.{writes}

-- one mode alone
abbrev pub only_mode : ℕ → ℕ
only_mode n = bits (only n)

abbrev pub all_modes : ℕ
all_modes = bits every_column

abbrev pub data_modes : ℕ
data_modes = bits data_column

abbrev pub control_modes : ℕ
control_modes = bits control_column

abbrev pub alterable_modes : ℕ
alterable_modes = bits alterable_column

abbrev pub data_alterable_modes : ℕ
data_alterable_modes = bits (both data_column alterable_column)

abbrev pub memory_alterable_modes : ℕ
memory_alterable_modes = bits (both memory_column alterable_column)

-- CMPI and BTST of a number: data, but no #
abbrev pub compared_modes : ℕ
compared_modes = bits (set_to false 11 data_column)

-- all modes, or all that are alterable, but no byte of an address register
abbrev pub readable_modes : Size → ℕ
readable_modes s = cond (is_byte s) data_modes all_modes

abbrev pub quick_modes : Size → ℕ
quick_modes s = cond (is_byte s) data_alterable_modes alterable_modes

-- ORI ANDI SUBI ADDI EORI CMPI, by bits 11 to 9
abbrev pub immediate_modes_at : ℕ → ℕ
immediate_modes_at x = cond (eqb x 6) compared_modes data_alterable_modes

-- BTST BCHG BCLR BSET, 0 to 3, of a number and of a data register
abbrev pub static_modes_at : ℕ → ℕ
static_modes_at k = cond (eqb k 0) compared_modes data_alterable_modes

abbrev pub dynamic_modes_at : ℕ → ℕ
dynamic_modes_at k = cond (eqb k 0) data_modes data_alterable_modes

-- MOVEM, by bits 11 to 9: to memory control alterable or -(An), from memory control or (An)+
abbrev pub movem_modes_at : ℕ → ℕ
movem_modes_at x = cond (eqb x 4) (bits (set_to true 4 (both control_column alterable_column))) (bits (set_to true 3 control_column))

-- a bit field: Dn or control, alterable where it is written
abbrev pub bit_field_modes : BitFieldOperation → ℕ
bit_field_modes op = cond (writes op) (bits (set_to true 0 (both control_column alterable_column))) (bits (set_to true 0 control_column))

abbrev pub unsized_modes : UnsizedOneOperation → ℕ
unsized_modes PEA = control_modes
unsized_modes NBCD = data_alterable_modes
unsized_modes JSR = control_modes
unsized_modes JMP = control_modes
unsized_modes TAS = data_alterable_modes
unsized_modes MOVEtoCCR = data_modes
unsized_modes MOVEfromCCR = data_alterable_modes
unsized_modes MOVEtoSR = data_modes
unsized_modes MOVEfromSR = data_alterable_modes
