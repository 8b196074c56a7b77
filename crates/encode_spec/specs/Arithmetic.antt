-- Integer arithmetic (the manual, section 3.1.2; section 4 has each format), and what has its forms: ANDI ORI EORI, ABCD SBCD, CHK2, TST
-- and SWAP.
use Rattle.std.specs.Prelude.{ℕ, ◌+◌, ◌*◌, ◌%◌, Bool, not, cond, List, [], ◌∷◌, eqb, pos}
use Rattle.isa.specs.declared.Size.{Size}
use Rattle.isa.specs.declared.Size.TheVariants.{Byte, Word, Long}
use Rattle.isa.specs.declared.RegisterOperand.{RegisterOperand}
use Rattle.isa.specs.declared.Operand.{Operand}
use Rattle.isa.specs.declared.Field.TheVariants as field
use Rattle.encode_spec.specs.Item.{Part, word, range, register, data_register, allow, operation, fixed}
use Rattle.isa_spec.specs.Code.{size_code, is_byte, long_bit, bit, number_of_register, register_bits, general}
use Rattle.isa_spec.specs.Mode.{every_column, data_column, alterable_column, control_column}
use Rattle.encode_spec.specs.Ea.{data_alterable, memory_alterable, data_not_immediate, byte_of_address, ea_field, register_field, immediate_items, effective, is_register, register_in, register_number, both_of, paired, memory_bit, single, with_data, with_address, from_data}
use Rattle.isa.specs.declared.ImmediateOperation.{ImmediateOperation}
use Rattle.isa.specs.declared.ImmediateOperation.TheVariants.{ADDI, SUBI, ANDI, ORI, EORI, CMPI}
use Rattle.isa.specs.declared.QuickOperation.{QuickOperation}
use Rattle.isa.specs.declared.QuickOperation.TheVariants.{ADDQ, SUBQ}
use Rattle.isa.specs.declared.Sign.{Sign}
use Rattle.isa.specs.declared.Sign.TheVariants.{Signed, Unsigned}
use Rattle.std.specs.declared.option.Option.{Option}
use Rattle.std.specs.declared.option.Option.TheVariants.{None, Some}

-- ORI ANDI SUBI ADDI EORI CMPI: the immediate's words before the destination's
abbrev pub immediate_kind : ImmediateOperation → ℕ
immediate_kind ADDI = 3
immediate_kind SUBI = 2
immediate_kind ANDI = 1
immediate_kind ORI = 0
immediate_kind EORI = 5
immediate_kind CMPI = 6

abbrev pub immediate_modes : ImmediateOperation → List Bool
immediate_modes ADDI = data_alterable
immediate_modes SUBI = data_alterable
immediate_modes ANDI = data_alterable
immediate_modes ORI = data_alterable
immediate_modes EORI = data_alterable
immediate_modes CMPI = data_not_immediate

abbrev pub immediate_reason : ImmediateOperation → ℕ
immediate_reason ADDI = 47
immediate_reason SUBI = 47
immediate_reason ANDI = 47
immediate_reason ORI = 47
immediate_reason EORI = 47
immediate_reason CMPI = 46

unfoldable pub immediate_parts : ImmediateOperation → ℕ → Operand → Size → List Part
immediate_parts op v destination s =
    fixed (operation 0 (immediate_kind op) (size_code s) (ea_field destination) ∷ immediate_items v s)
    ∷ effective destination s (immediate_modes op) (immediate_reason op) ∷ []

-- ADDQ SUBQ: the count in bits 11 to 9, 8 coded 0
abbrev pub quick_bit : QuickOperation → ℕ
quick_bit ADDQ = 0
quick_bit SUBQ = 1

unfoldable pub quick_parts : QuickOperation → ℕ → Operand → Size → List Part
quick_parts op count target s =
    fixed (range field.Count (pos count) ∷ allow (not (byte_of_address s target)) 55 ∷ [])
    ∷ single 5 (count % 8) (4 * quick_bit op + size_code s) target s alterable_column 56

-- <ea>,Dn of ADD, SUB and CMP: any operand, an address register not as a byte
unfoldable pub into_data_parts : ℕ → ℕ → Operand → RegisterOperand → Size → List Part
into_data_parts line reason source r s =
    fixed (allow (not (byte_of_address s source)) 7 ∷ []) ∷ with_data line r (size_code s) source s every_column reason

-- ADD SUB
unfoldable pub arithmetic_parts : ℕ → Operand → Operand → Size → List Part
arithmetic_parts line source destination s =
    cond (is_register destination) (into_data_parts line 59 source (register_in destination) s)
    (from_data line memory_alterable 60 source destination s)

-- ADDA SUBA CMPA: bit 8 says a long
unfoldable pub into_address_parts : ℕ → ℕ → Operand → RegisterOperand → Size → List Part
into_address_parts line reason source r s =
    fixed (allow (not (is_byte s)) 61 ∷ []) ∷ with_address line r (3 + 4 * long_bit s) source s every_column reason

-- CHK2 CMP2: bit 11 of the extension word says a trap
unfoldable pub bounds_parts : Bool → Operand → RegisterOperand → Size → List Part
bounds_parts trap bounds r s =
    fixed (operation 0 (size_code s) 3 (ea_field bounds) ∷ register (number_of_register r) ∷ word (general r * 4096 + bit trap * 2048) ∷ [])
    ∷ effective bounds s control_column 49 ∷ []

-- ADDX SUBX ABCD SBCD: Dy,Dx or -(Ay),-(Ax), x in bits 11 to 9 and y in bits 2 to 0
unfoldable pub extended_parts : ℕ → ℕ → Operand → Operand → List Part
extended_parts line opmode source destination =
    fixed
    (operation line (register_field destination) opmode (8 * memory_bit source + register_field source) ∷ allow (paired source destination) 62
    ∷ register (register_number destination) ∷ register (register_number source) ∷ [])
    ∷ []

-- CMPM: (Ay)+,(Ax)+
unfoldable pub cmpm_parts : Operand → Operand → Size → List Part
cmpm_parts source destination s =
    fixed
    (operation 11 (register_field destination) (4 + size_code s) (8 + register_field source) ∷ allow (both_of 3 source destination) 41
    ∷ register (register_number destination) ∷ register (register_number source) ∷ [])
    ∷ []

-- the bit that says signed
abbrev pub signed_bit : Sign → ℕ
signed_bit Signed = 1
signed_bit Unsigned = 0

-- MULS.L MULU.L: Dl in bits 14 to 12 of the extension word, and Dh in bits 2 to 0 of a 64-bit product
abbrev pub high_number : Option ℕ → ℕ
high_number None = 0
high_number (Some n) = n

abbrev pub high_bits : Option ℕ → ℕ
high_bits None = 0
high_bits (Some n) = 1024 + n % 8

unfoldable pub mull_parts : Operand → ℕ → Option ℕ → Sign → List Part
mull_parts source low high sign =
    fixed
    (operation 4 6 0 (ea_field source) ∷ register (high_number high) ∷ register low
    ∷ word (low % 8 * 4096 + signed_bit sign * 2048 + high_bits high) ∷ [])
    ∷ effective source Long data_column 28 ∷ []

-- DIVS.L DIVU.L: Dq in bits 14 to 12, Dr in bits 2 to 0, bit 10 a 64-bit dividend
unfoldable pub divl_parts : Operand → ℕ → ℕ → Bool → Sign → List Part
divl_parts source quotient remainder wide sign =
    fixed
    (operation 4 6 1 (ea_field source) ∷ register quotient ∷ register remainder
    ∷ word (quotient % 8 * 4096 + signed_bit sign * 2048 + bit wide * 1024 + remainder % 8) ∷ [])
    ∷ effective source Long data_column 29 ∷ []

-- TST: any operand, an address register not as a byte
unfoldable pub tst_parts : Operand → Size → List Part
tst_parts target s = fixed (allow (not (byte_of_address s target)) 7 ∷ []) ∷ single 4 5 (size_code s) target s every_column 12

-- EXT.W EXT.L EXTB.L; 0 where there is none
abbrev pub ext_opmode : Size → Size → ℕ
ext_opmode Byte Byte = 0
ext_opmode Byte Word = 2
ext_opmode Byte Long = 7
ext_opmode Word Byte = 0
ext_opmode Word Word = 0
ext_opmode Word Long = 3
ext_opmode Long Byte = 0
ext_opmode Long Word = 0
ext_opmode Long Long = 0

unfoldable pub ext_parts : RegisterOperand → Size → Size → List Part
ext_parts r from to =
    fixed
    (operation 4 4 (ext_opmode from to) (register_bits r) ∷ allow (not (eqb (ext_opmode from to) 0)) 19 ∷ data_register r ∷ [])
    ∷ []

unfoldable pub swap_parts : RegisterOperand → List Part
swap_parts r = fixed (operation 4 4 1 (register_bits r) ∷ data_register r ∷ []) ∷ []
