-- Extension words made and read (the manual, section 2.1, figure 2-2 and tables 2-1 and 2-2).
use Rattle.std.specs.Prelude.{ℕ, ◌+◌, ◌*◌, ◌/◌, ◌%◌, Bool, cond, eqb}
use Rattle.isa.specs.declared.Size.{Size}
use Rattle.isa.specs.declared.Size.TheVariants as size
use Rattle.isa.specs.declared.RegisterOperand.{RegisterOperand}
use Rattle.isa.specs.declared.RegisterOperand.TheVariants as register
use Rattle.isa.specs.declared.IndexRegister.{IndexRegister}
use Rattle.isa.specs.declared.DisplacementSize.{DisplacementSize}
use Rattle.isa.specs.declared.Indirection.{Indirection}
use Rattle.isa.specs.declared.Indirection.TheVariants as indirect
use Rattle.isa_spec.specs.Code.{long_bit, general, bit}
use Rattle.isa_spec.specs.ExtensionWord.{is_full, index_suppressed, base_size, outer_size}
use Rattle.isa_values.specs.DisplacementSize.{displacement_bytes, displacement_code}
use Rattle.std.specs.declared.option.Option.{Option}
use Rattle.std.specs.declared.option.Option.TheVariants as choice

-- D/A, bit 15, and REGISTER, bits 14 to 12
abbrev pub index_operand : ℕ → RegisterOperand
index_operand w = cond (eqb (w / 32768 % 2) 1) (register.Address (w / 4096 % 8)) (register.Data (w / 4096 % 8))

-- W/L, bit 11
abbrev pub index_size : ℕ → Size
index_size w = cond (eqb (w / 2048 % 2) 1) size.Long size.Word

abbrev pub index_register : ℕ → IndexRegister
index_register w = record { register = index_operand w; size = index_size w }

-- SCALE, bits 10 and 9: the index times 1, 2, 4 or 8
abbrev pub scale_shift : ℕ → ℕ
scale_shift w = w / 512 % 4

abbrev pub index : ℕ → Option IndexRegister
index w = cond (index_suppressed w) choice.None (choice.Some (index_register w))

-- the word and the displacements that follow it
abbrev pub extension_bytes : ℕ → ℕ
extension_bytes w = cond (is_full w) (2 + displacement_bytes (base_size w) + displacement_bytes (outer_size w)) 2

-- a scale other than 2, 4 and 8 counts as 1
abbrev pub scale_code : ℕ → ℕ
scale_code s = cond (eqb s 2) 1 (cond (eqb s 4) 2 (cond (eqb s 8) 3 0))

-- bits 15 to 9
abbrev pub index_bits : IndexRegister → ℕ → ℕ
index_bits x s = general x.register * 4096 + long_bit x.size * 2048 + scale_code s * 512

-- I/IS: 0 without indirection, and else the outer displacement's size, with 4 where the index is added after
abbrev pub indirection_code : Indirection → DisplacementSize → ℕ
indirection_code indirect.None outer = 0
indirection_code indirect.Preindexed outer = displacement_code outer
indirection_code indirect.Postindexed outer = 4 + displacement_code outer

-- the index in bits 15 to 9, 1 in bit 8, BS, IS, BD SIZE and I/IS
abbrev pub full_word : IndexRegister → ℕ → Bool → Bool → DisplacementSize → Indirection → DisplacementSize → ℕ
full_word x s bs is bd i od =
    index_bits x s + 256 + bit bs * 128 + bit is * 64 + (displacement_code bd * 16 + indirection_code i od)
