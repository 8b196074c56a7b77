-- What the functions on values give: lists of numbers. Sizes and displacement sizes are told by their codes, registers by their places in a mask of MOVEM.
use Rattle.std.specs.Prelude.{ℕ, ◌+◌, ◌*◌, ◌%◌, ◌^◌, Bool, cond, List, [], ◌∷◌, eqb, get_or}
use Rattle.isa.specs.declared.Size.{Size}
use Rattle.isa.specs.declared.Size.TheVariants.{Byte, Word, Long}
use Rattle.isa.specs.declared.RegisterOperand.{RegisterOperand}
use Rattle.isa.specs.declared.RegisterOperand.TheVariants.{Address, Data}
use Rattle.std.specs.declared.option.Option.{Option}
use Rattle.isa.specs.declared.IndexRegister.{IndexRegister}
use Rattle.isa.specs.declared.Indirection.{Indirection}
use Rattle.isa.specs.declared.Indirection.TheVariants.{None, Preindexed, Postindexed}
use Rattle.isa_spec.specs.Code.{size_code, bit, condition_code}
use Rattle.isa_spec.specs.Condition.{condition_of}
use Rattle.isa_spec.specs.ExtensionWord.{is_full, base_suppressed, index_suppressed, size_of_code, base_size, indirection_of, outer_size, is_canonical}
use Rattle.encode_spec.specs.Bits.{bit_field_code, writes}
use Rattle.std.specs.declared.option.Option.TheVariants as choice
use Rattle.isa_values.specs.declared.processor.Processor.{Processor}
use Rattle.isa_values.specs.declared.processor.Processor.TheVariants.{M68000, M68010, M68020}
use Rattle.isa_values.specs.BitFieldOperation.{has_register, bit_field_of}
use Rattle.isa_values.specs.ControlRegister.{processor_of}
use Rattle.isa_values.specs.DisplacementSize.{displacement_bytes, displacement_code}
use Rattle.isa_values.specs.ExtensionWord.{index_register, scale_shift, index, extension_bytes}
use Rattle.isa_spec.specs.IndexBase.{is_pc}
use Rattle.isa_values.specs.IndexBase.{address_register}
use Rattle.isa_values.specs.RegisterOperand.{index_of}
use Rattle.isa_values.specs.Size.{byte_count, bit_count}

-- 0 where there is none
abbrev pub choice_number : Option ℕ → ℕ
choice_number choice.None = 0
choice_number (choice.Some n) = 1 + n

abbrev pub index_number : IndexRegister → ℕ
index_number x = index_of x.register * 4 + size_code x.size

abbrev pub index_choice_number : Option IndexRegister → ℕ
index_choice_number choice.None = 0
index_choice_number (choice.Some x) = 1 + index_number x

abbrev pub processor_place : Processor → ℕ
processor_place M68000 = 1
processor_place M68010 = 2
processor_place M68020 = 3

abbrev pub processor_number : Option Processor → ℕ
processor_number choice.None = 0
processor_number (choice.Some p) = processor_place p

abbrev pub indirection_number : Indirection → ℕ
indirection_number None = 0
indirection_number Preindexed = 1
indirection_number Postindexed = 2

-- the values that numbers ask for
abbrev pub size_by : ℕ → Size
size_by k = get_or (Byte ∷ Word ∷ Long ∷ []) (k % 3) Byte

abbrev pub indirection_by : ℕ → Indirection
indirection_by k = get_or (None ∷ Preindexed ∷ Postindexed ∷ []) (k % 3) None

abbrev pub register_by : ℕ → ℕ → RegisterOperand
register_by k n = cond (eqb (k % 2) 0) (Address (n % 256)) (Data (n % 256))

abbrev pub index_by : ℕ → ℕ → ℕ → IndexRegister
index_by k n size = record { register = register_by k n; size = size_by size }

abbrev pub flag_by : ℕ → Bool
flag_by k = eqb (k % 2) 1

-- of a word: as an extension word, and as a code of every other kind
unfoldable pub word_values : ℕ → List ℕ
word_values w =
    bit (is_full w) ∷ bit (base_suppressed w) ∷ bit (index_suppressed w) ∷ bit (is_canonical w)
    ∷ index_number (index_register w) ∷ scale_shift w ∷ 2 ^ scale_shift w ∷ index_choice_number (index w)
    ∷ displacement_code (base_size w) ∷ indirection_number (indirection_of w) ∷ displacement_code (outer_size w) ∷ extension_bytes w
    ∷ displacement_code (size_of_code w) ∷ condition_code (condition_of w) ∷ w % 4096 ∷ processor_number (processor_of w) ∷ bit_field_code (bit_field_of w) ∷ []

abbrev pub size_values : ℕ → List ℕ
size_values k = byte_count (size_by k) ∷ bit_count (size_by k) ∷ []

abbrev pub displacement_values : ℕ → List ℕ
displacement_values k = displacement_bytes (size_of_code (k % 4)) ∷ displacement_code (size_of_code (k % 4)) ∷ []

abbrev pub bit_field_values : ℕ → List ℕ
bit_field_values k = bit (has_register (bit_field_of (k % 8))) ∷ bit (writes (bit_field_of (k % 8))) ∷ bit_field_code (bit_field_of (k % 8)) ∷ []

abbrev pub base_values : ℕ → List ℕ
base_values n = bit (is_pc (n % 256 % 8)) ∷ choice_number (address_register (n % 256 % 8)) ∷ []

-- FULL, BASE_SUPPRESSED, INDEX_SUPPRESSED, EXTENSION_WORD_OFFSET, what the base PC says, SFC, DFC, CACR, USP, VBR, CAAR, MSP, ISP
abbrev pub constant_values : List ℕ
constant_values =
    256 ∷ 128 ∷ 64 ∷ 2 ∷ bit (is_pc 8) ∷ choice_number (address_register 8) ∷ 0 ∷ 1 ∷ 2 ∷ 2048 ∷ 2049 ∷ 2050 ∷ 2051 ∷ 2052 ∷ []
