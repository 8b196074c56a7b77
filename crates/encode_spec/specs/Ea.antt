-- Effective addresses (the manual, section 2.2, "Effective Addressing Modes").
use Rattle.std.specs.Prelude.{ℕ, ◌+◌, ◌*◌, ◌/◌, ◌%◌, Bool, true, false, not, ◌&&◌, ◌||◌, cond, List, [], ◌∷◌, ◌++◌, ltb, eqb, ℤ, pos, get_or}
use Rattle.isa.specs.declared.Size.{Size}
use Rattle.isa.specs.declared.Size.TheVariants.{Byte, Word, Long}
use Rattle.isa.specs.declared.AddressWidth.{AddressWidth}
use Rattle.isa.specs.declared.AddressWidth.TheVariants as width
use Rattle.isa.specs.declared.DisplacementSize.{DisplacementSize}
use Rattle.isa.specs.declared.DisplacementSize.TheVariants as displacement
use Rattle.isa.specs.declared.RegisterOperand.{RegisterOperand}
use Rattle.isa.specs.declared.RegisterOperand.TheVariants.{Address, Data}
use Rattle.isa.specs.declared.IndexRegister.{IndexRegister}
use Rattle.isa.specs.declared.Operand.{Operand}
use Rattle.isa.specs.declared.Operand.TheVariants.{Immediate, Register, Indirect, PostIndirect, PreIndirect, IndirectDisplacement, IndirectIndex, PcDisplacement, PcIndex, Extended, Absolute}
use Rattle.isa.specs.declared.Field.{Field}
use Rattle.isa.specs.declared.Field.TheVariants as field
use Rattle.isa_spec.specs.Field.{remainder_of}
use Rattle.base_spec.specs.Signed.{signed32, signed64, bits_of, difference}
use Rattle.encode_spec.specs.Item.{Item, Part, Verdict, fine, malformed, no_encoding, word, check, range, unless, register, data_register, address_register, allow, operation, fixed}
use Rattle.isa_spec.specs.Code.{size_code, number_of_register, register_bits, general, long_bit, is_byte, bit}
use Rattle.isa_spec.specs.ExtensionWord.{is_full, base_suppressed, base_size, outer_size, is_canonical}
use Rattle.isa_spec.specs.IndexBase.{is_base, is_pc, is_address_base}
use Rattle.isa_spec.specs.Mode.{data_column, memory_column, control_column, alterable_column, both, set_to}

-- the mode of an operand, 0 to 11
abbrev pub register_mode : RegisterOperand → ℕ
register_mode (Address n) = 1
register_mode (Data n) = 0

abbrev pub absolute_mode : AddressWidth → ℕ
absolute_mode width.Word = 7
absolute_mode width.Long = 8

abbrev pub extended_mode : ℕ → ℕ
extended_mode base = cond (is_pc base) 10 6

abbrev pub mode_of : Operand → ℕ
mode_of (Immediate v) = 11
mode_of (Register r) = register_mode r
mode_of (Indirect n) = 2
mode_of (PostIndirect n) = 3
mode_of (PreIndirect n) = 4
mode_of (IndirectDisplacement z base) = 5
mode_of (IndirectIndex base z x) = 6
mode_of (PcDisplacement t) = 9
mode_of (PcIndex t x) = 10
mode_of (Extended base w z outer) = extended_mode base
mode_of (Absolute a width) = absolute_mode width

-- sets of modes, from the columns of table 2-4
abbrev pub data_alterable : List Bool
data_alterable = both data_column alterable_column

abbrev pub memory_alterable : List Bool
memory_alterable = both memory_column alterable_column

abbrev pub data_not_immediate : List Bool
data_not_immediate = set_to false 11 data_column

-- MOVEM: control alterable or -(An), and control or (An)+
abbrev pub movem_to_memory : List Bool
movem_to_memory = set_to true 4 (both control_column alterable_column)

abbrev pub movem_from_memory : List Bool
movem_from_memory = set_to true 3 control_column

-- a bit field: Dn or control, and alterable where it is written
abbrev pub bit_field_read : List Bool
bit_field_read = set_to true 0 control_column

abbrev pub bit_field_written : List Bool
bit_field_written = set_to true 0 (both control_column alterable_column)

-- whether a set has the operand's mode
unfoldable pub permits : List Bool → Operand → Bool
permits column x = get_or column (mode_of x) false

-- a byte of an address register, which no instruction reads or writes
unfoldable pub byte_of_address : Size → Operand → Bool
byte_of_address s x = is_byte s && eqb (mode_of x) 1

-- the mode field and the register field, three bits each (table 2-4)
abbrev pub extended_mode_field : ℕ → ℕ
extended_mode_field base = cond (is_address_base base) 6 7

abbrev pub mode_field : Operand → ℕ
mode_field (Immediate v) = 7
mode_field (Register r) = register_mode r
mode_field (Indirect n) = 2
mode_field (PostIndirect n) = 3
mode_field (PreIndirect n) = 4
mode_field (IndirectDisplacement z base) = 5
mode_field (IndirectIndex base z x) = 6
mode_field (PcDisplacement t) = 7
mode_field (PcIndex t x) = 7
mode_field (Extended base w z outer) = extended_mode_field base
mode_field (Absolute a width) = 7

abbrev pub extended_register_field : ℕ → ℕ
extended_register_field base = cond (is_address_base base) (base % 8) 3

abbrev pub absolute_register_field : AddressWidth → ℕ
absolute_register_field width.Word = 0
absolute_register_field width.Long = 1

abbrev pub register_field : Operand → ℕ
register_field (Immediate v) = 4
register_field (Register r) = number_of_register r % 8
register_field (Indirect n) = n % 8
register_field (PostIndirect n) = n % 8
register_field (PreIndirect n) = n % 8
register_field (IndirectDisplacement z base) = number_of_register base % 8
register_field (IndirectIndex base z x) = number_of_register base % 8
register_field (PcDisplacement t) = 2
register_field (PcIndex t x) = 3
register_field (Extended base w z outer) = extended_register_field base
register_field (Absolute a width) = absolute_register_field width

abbrev pub ea_field : Operand → ℕ
ea_field x = mode_field x * 8 + register_field x

-- a signed distance modulo 2^32, from `at` to t
abbrev pub distance : ℕ → ℕ → ℤ
distance t at = signed32 (difference t at)

-- words that hold a long, the high half first
abbrev pub long_items : ℕ → List Item
long_items v = word (v / 65536) ∷ word (v % 65536) ∷ []

-- a displacement of one word
abbrev pub word_items : Field → ℤ → List Item
word_items f z = range f z ∷ word (bits_of z % 65536) ∷ []

-- #<data>: a byte in the low half of a word, a word, or a long
abbrev pub immediate_words : ℕ → Size → List Item
immediate_words v Byte = word (remainder_of Byte v) ∷ []
immediate_words v Word = word (remainder_of Word v) ∷ []
immediate_words v Long = long_items v

abbrev pub immediate_items : ℕ → Size → List Item
immediate_items v s = range (field.Immediate s) (pos v) ∷ immediate_words v s

-- an index register is a word or a long
abbrev pub index_size_verdict : Size → Verdict
index_size_verdict Byte = no_encoding 4
index_size_verdict Word = fine
index_size_verdict Long = fine

-- the brief extension word: D/A, register, W/L, scale 1, displacement
abbrev pub brief_items : IndexRegister → ℤ → Field → List Item
brief_items x z f =
    range f z ∷ register (number_of_register x.register) ∷ check (index_size_verdict x.size)
    ∷ word (general x.register * 4096 + long_bit x.size * 2048 + bits_of z % 256) ∷ []

-- a base or outer displacement of the full extension word
abbrev pub displacement_items : DisplacementSize → ℤ → Field → List Item
displacement_items displacement.Null z f = range field.NullDisplacement z ∷ []
displacement_items displacement.Word z f = word_items f z
displacement_items displacement.Long z f = long_items (bits_of z % 4294967296)

-- the base displacement of an extension word at `at`: from the program counter, not suppressed, it is measured from the word
abbrev pub from_pc : ℕ → ℕ → Bool
from_pc base w = is_pc base && not (base_suppressed w)

abbrev pub base_displacement : ℕ → ℕ → ℤ → ℕ → ℤ
base_displacement base w z at = cond (from_pc base w) (distance (bits_of z % 4294967296) at) z

abbrev pub full_items : ℕ → ℤ → ℤ → List Item
full_items w z outer =
    word w ∷ (displacement_items (base_size w) z field.BaseDisplacement ++ displacement_items (outer_size w) outer field.OuterDisplacement)

abbrev pub brief_field : ℕ → Field
brief_field base = cond (is_pc base) field.PcIndex field.IndexDisplacement

abbrev pub scaled_items : ℕ → ℕ → ℤ → List Item
scaled_items base w z = range (brief_field base) z ∷ word (w / 256 * 256 + bits_of z % 256) ∷ []

abbrev pub extended_items : ℕ → ℕ → ℤ → ℤ → ℕ → List Item
extended_items base w z outer at =
    cond (is_full w) (full_items w (base_displacement base w z at) outer) (scaled_items base w (base_displacement base w z at))

-- an absolute address; a word holds it sign-extended
abbrev pub absolute_items : ℕ → AddressWidth → List Item
absolute_items a width.Word = range field.LongAddress (signed64 a) ∷ range field.ShortAddress (signed32 (a % 4294967296)) ∷ word (a % 65536) ∷ []
absolute_items a width.Long = range field.LongAddress (signed64 a) ∷ long_items (a % 4294967296)

-- the extension words of an operand, the first of them at `at`, with the checks before each
abbrev pub ea_items : Operand → Size → ℕ → List Item
ea_items (Immediate v) s at = immediate_items v s
ea_items (Register r) s at = register (number_of_register r) ∷ []
ea_items (Indirect n) s at = register n ∷ []
ea_items (PostIndirect n) s at = register n ∷ []
ea_items (PreIndirect n) s at = register n ∷ []
ea_items (IndirectDisplacement z base) s at = address_register base ∷ word_items field.Displacement z
ea_items (IndirectIndex base z x) s at = address_register base ∷ brief_items x z field.IndexDisplacement
ea_items (PcDisplacement t) s at = word_items field.PcDisplacement (distance t at)
ea_items (PcIndex t x) s at = brief_items x (distance t at) field.PcIndex
ea_items (Extended base w z outer) s at = extended_items base w z outer at
ea_items (Absolute a width) s at = absolute_items a width

-- an operand in one of the modes allowed, else a reason
abbrev pub effective : Operand → Size → List Bool → ℕ → Part
effective x s allowed reason at = allow (permits allowed x) reason ∷ ea_items x s at

-- refusal 1: an IndexBase above 8, or a full word that is not canonical
abbrev pub is_typed : Operand → Bool
is_typed (Immediate v) = true
is_typed (Register r) = true
is_typed (Indirect n) = true
is_typed (PostIndirect n) = true
is_typed (PreIndirect n) = true
is_typed (IndirectDisplacement z base) = true
is_typed (IndirectIndex base z x) = true
is_typed (PcDisplacement t) = true
is_typed (PcIndex t x) = true
is_typed (Extended base w z outer) = is_base base && is_canonical w
is_typed (Absolute a width) = true

abbrev pub typed : Operand → Item
typed x = check (unless (is_typed x) malformed)

-- Dn or An, and #<data>
abbrev pub is_register : Operand → Bool
is_register x = ltb (mode_of x) 2

abbrev pub is_immediate : Operand → Bool
is_immediate x = eqb (mode_of x) 11

-- the register of a Register operand
abbrev pub register_in : Operand → RegisterOperand
register_in (Immediate v) = Data 0
register_in (Register r) = r
register_in (Indirect n) = Data 0
register_in (PostIndirect n) = Data 0
register_in (PreIndirect n) = Data 0
register_in (IndirectDisplacement z base) = Data 0
register_in (IndirectIndex base z x) = Data 0
register_in (PcDisplacement t) = Data 0
register_in (PcIndex t x) = Data 0
register_in (Extended base w z outer) = Data 0
register_in (Absolute a width) = Data 0

-- the number of an Immediate operand
abbrev pub immediate_in : Operand → ℕ
immediate_in (Immediate v) = v
immediate_in (Register r) = 0
immediate_in (Indirect n) = 0
immediate_in (PostIndirect n) = 0
immediate_in (PreIndirect n) = 0
immediate_in (IndirectDisplacement z base) = 0
immediate_in (IndirectIndex base z x) = 0
immediate_in (PcDisplacement t) = 0
immediate_in (PcIndex t x) = 0
immediate_in (Extended base w z outer) = 0
immediate_in (Absolute a width) = 0

-- the register number of a Register, (An), (An)+ or -(An)
abbrev pub register_number : Operand → ℕ
register_number (Immediate v) = 0
register_number (Register r) = number_of_register r
register_number (Indirect n) = n
register_number (PostIndirect n) = n
register_number (PreIndirect n) = n
register_number (IndirectDisplacement z base) = 0
register_number (IndirectIndex base z x) = 0
register_number (PcDisplacement t) = 0
register_number (PcIndex t x) = 0
register_number (Extended base w z outer) = 0
register_number (Absolute a width) = 0

-- two operands of mode m
abbrev pub both_of : ℕ → Operand → Operand → Bool
both_of m x y = eqb (mode_of x) m && eqb (mode_of y) m

-- Dy,Dx or -(Ay),-(Ax), and the bit that tells them apart
abbrev pub paired : Operand → Operand → Bool
paired x y = both_of 0 x y || both_of 4 x y

abbrev pub memory_bit : Operand → ℕ
memory_bit x = bit (eqb (mode_of x) 4)

-- the forms that most instructions have: an operation word and an effective address, alone, with a data register or with an
-- address register in bits 11 to 9
unfoldable pub single : ℕ → ℕ → ℕ → Operand → Size → List Bool → ℕ → List Part
single line x opmode ea s allowed reason = fixed (operation line x opmode (ea_field ea) ∷ []) ∷ effective ea s allowed reason ∷ []

unfoldable pub with_data : ℕ → RegisterOperand → ℕ → Operand → Size → List Bool → ℕ → List Part
with_data line r opmode ea s allowed reason =
    fixed (operation line (register_bits r) opmode (ea_field ea) ∷ data_register r ∷ []) ∷ effective ea s allowed reason ∷ []

unfoldable pub with_address : ℕ → RegisterOperand → ℕ → Operand → Size → List Bool → ℕ → List Part
with_address line r opmode ea s allowed reason =
    fixed (operation line (register_bits r) opmode (ea_field ea) ∷ address_register r ∷ []) ∷ effective ea s allowed reason ∷ []

-- Dn,<ea> of ADD, SUB, AND, OR and EOR
unfoldable pub from_data : ℕ → List Bool → ℕ → Operand → Operand → Size → List Part
from_data line allowed reason source destination s =
    fixed (allow (is_register source) 3 ∷ []) ∷ with_data line (register_in source) (4 + size_code s) destination s allowed reason
