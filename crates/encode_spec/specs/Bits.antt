-- Bit manipulation, bit field and binary-coded decimal (the manual, sections 3.1.5 to 3.1.7; section 4 has each format).
use Rattle.std.specs.Prelude.{ℕ, ◌+◌, ◌*◌, ◌/◌, ◌%◌, Bool, true, false, ◌&&◌, cond, List, [], ◌∷◌, ltb, eqb, pos}
use Rattle.isa.specs.declared.Size.TheVariants.{Byte}
use Rattle.isa.specs.declared.RegisterOperand.{RegisterOperand}
use Rattle.isa.specs.declared.Operand.{Operand}
use Rattle.isa.specs.declared.Field.TheVariants as field
use Rattle.encode_spec.specs.Item.{Part, Verdict, out_of_range, no_encoding, word, check, range, unless, register, allow, operation, fixed}
use Rattle.isa_spec.specs.Mode.{data_column}
use Rattle.encode_spec.specs.Ea.{data_alterable, data_not_immediate, bit_field_read, bit_field_written, ea_field, register_field, effective, is_register, is_immediate, register_in, immediate_in, register_number, paired, memory_bit, with_data}
use Rattle.isa.specs.declared.FieldValue.{FieldValue}
use Rattle.isa.specs.declared.FieldValue.TheVariants as value
use Rattle.isa.specs.declared.BitField.{BitField}
use Rattle.isa.specs.declared.BitFieldOperation.{BitFieldOperation}
use Rattle.isa.specs.declared.BitFieldOperation.TheVariants.{Test, ExtractUnsigned, Change, ExtractSigned, Clear, FindFirstOne, Set, Insert}

-- BTST 0, BCHG 1, BCLR 2, BSET 3; BTST only reads its operand
abbrev pub dynamic_modes : ℕ → List Bool
dynamic_modes kind = cond (eqb kind 0) data_column data_alterable

abbrev pub dynamic_reason : ℕ → ℕ
dynamic_reason kind = cond (eqb kind 0) 50 51

abbrev pub static_modes : ℕ → List Bool
static_modes kind = cond (eqb kind 0) data_not_immediate data_alterable

abbrev pub static_reason : ℕ → ℕ
static_reason kind = cond (eqb kind 0) 52 51

-- the bit number in a data register
unfoldable pub dynamic_parts : ℕ → RegisterOperand → Operand → List Part
dynamic_parts kind r target = with_data 0 r (4 + kind) target Byte (dynamic_modes kind) (dynamic_reason kind)

-- the bit number in the low byte of the word after the operation word
unfoldable pub static_parts : ℕ → ℕ → Operand → List Part
static_parts kind number target =
    fixed (operation 0 4 kind (ea_field target) ∷ range field.BitNumber (pos number) ∷ word (number % 256) ∷ [])
    ∷ effective target Byte (static_modes kind) (static_reason kind) ∷ []

unfoldable pub bit_parts : ℕ → Operand → Operand → List Part
bit_parts kind number target =
    cond (is_register number) (dynamic_parts kind (register_in number) target)
    (cond (is_immediate number) (static_parts kind (immediate_in number) target)
    (fixed (operation 0 4 kind (ea_field target) ∷ check (no_encoding 53) ∷ []) ∷ []))

-- the bit-field operations, in bits 10 to 8
abbrev pub bit_field_code : BitFieldOperation → ℕ
bit_field_code Test = 0
bit_field_code ExtractUnsigned = 1
bit_field_code Change = 2
bit_field_code ExtractSigned = 3
bit_field_code Clear = 4
bit_field_code FindFirstOne = 5
bit_field_code Set = 6
bit_field_code Insert = 7

abbrev pub writes : BitFieldOperation → Bool
writes Test = false
writes ExtractUnsigned = false
writes Change = true
writes ExtractSigned = false
writes Clear = true
writes FindFirstOne = false
writes Set = true
writes Insert = true

-- an offset or width: Do or Dw and a register, or five bits
abbrev pub value_number : FieldValue → ℕ
value_number (value.Immediate n) = n
value_number (value.Register n) = n

abbrev pub value_bits : FieldValue → ℕ
value_bits (value.Immediate n) = n % 32
value_bits (value.Register n) = 32 + n % 8

abbrev pub value_holds : FieldValue → Bool
value_holds (value.Immediate n) = ltb n 32
value_holds (value.Register n) = ltb n 8

-- where either is too large the larger is reported
abbrev pub larger : ℕ → ℕ → ℕ
larger x y = cond (ltb x y) y x

abbrev pub bit_field_verdict : BitField → Verdict
bit_field_verdict f =
    unless (value_holds f.offset && value_holds f.width)
    (out_of_range field.BitField (pos (larger (value_number f.offset) (value_number f.width))))

-- Test, Change, Clear and Set write their register number too (01, exception ii)
unfoldable pub bit_field_parts : BitFieldOperation → Operand → BitField → ℕ → List Part
bit_field_parts op target f r =
    fixed
    (operation 14 (4 + bit_field_code op / 2) (4 * (bit_field_code op % 2) + 3) (ea_field target) ∷ check (bit_field_verdict f) ∷ register r
    ∷ word (r % 8 * 4096 + value_bits f.offset * 64 + value_bits f.width) ∷ [])
    ∷ effective target Byte (cond (writes op) bit_field_written bit_field_read) (cond (writes op) 32 33) ∷ []

-- PACK UNPK: the adjustment in the word after the operation word
unfoldable pub pack_parts : ℕ → Operand → Operand → ℕ → List Part
pack_parts opmode source destination adjustment =
    fixed
    (operation 8 (register_field destination) opmode (8 * memory_bit source + register_field source) ∷ allow (paired source destination) 48
    ∷ word adjustment ∷ register (register_number destination) ∷ register (register_number source) ∷ [])
    ∷ []
