-- Data movement (the manual, section 3.1.1; section 4 has each format).
use Rattle.std.specs.Prelude.{ℕ, ◌+◌, ◌*◌, ◌/◌, ◌%◌, Bool, true, false, not, ◌&&◌, ◌||◌, List, [], ◌∷◌}
use Rattle.isa.specs.declared.Size.{Size}
use Rattle.isa.specs.declared.Size.TheVariants.{Word}
use Rattle.isa.specs.declared.RegisterOperand.{RegisterOperand}
use Rattle.isa.specs.declared.RegisterOperand.TheVariants.{Address, Data}
use Rattle.isa.specs.declared.Operand.{Operand}
use Rattle.isa.specs.declared.Field.TheVariants as field
use Rattle.base_spec.specs.Signed.{signed32}
use Rattle.encode_spec.specs.Item.{Part, word, register, data_register, address_register, allow, operation, fixed}
use Rattle.isa_spec.specs.Code.{move_code, is_byte, long_bit, bit, number_of_register, register_bits, general, to_memory, from_memory}
use Rattle.isa_spec.specs.Mode.{every_column, only}
use Rattle.encode_spec.specs.Ea.{data_alterable, movem_to_memory, movem_from_memory, byte_of_address, ea_field, mode_field, register_field, long_items, word_items, effective, with_address}
use Rattle.isa.specs.declared.TargetDirection.{TargetDirection}
use Rattle.isa.specs.declared.TargetDirection.TheVariants.{ToMemory, FromMemory}

-- MOVE: the destination's register stands before its mode
unfoldable pub move_parts : Operand → Operand → Size → List Part
move_parts source destination s =
    fixed (operation (move_code s) (register_field destination) (mode_field destination) (ea_field source) ∷ allow (not (byte_of_address s source)) 7 ∷ [])
    ∷ effective source s every_column 8 ∷ effective destination s data_alterable 9 ∷ []

unfoldable pub movea_parts : Operand → RegisterOperand → Size → List Part
movea_parts source r s = fixed (allow (not (is_byte s)) 10 ∷ []) ∷ with_address (move_code s) r 1 source s every_column 11

-- MOVEM: the direction dr, and the mask before the operand's words
abbrev pub movem_modes : TargetDirection → List Bool
movem_modes ToMemory = movem_to_memory
movem_modes FromMemory = movem_from_memory

abbrev pub movem_reason : TargetDirection → ℕ
movem_reason ToMemory = 21
movem_reason FromMemory = 22

unfoldable pub movem_parts : TargetDirection → Size → ℕ → Operand → List Part
movem_parts direction s mask target =
    fixed (operation 4 (4 + 2 * from_memory direction) (2 + long_bit s) (ea_field target) ∷ allow (not (is_byte s)) 20 ∷ word mask ∷ [])
    ∷ effective target s (movem_modes direction) (movem_reason direction) ∷ []

-- MOVEP reaches memory through d16(An) only
unfoldable pub movep_parts : TargetDirection → Size → RegisterOperand → Operand → List Part
movep_parts direction s r target =
    fixed (operation 0 (register_bits r) (4 + 2 * to_memory direction + long_bit s) (8 + register_field target) ∷ data_register r ∷ [])
    ∷ effective target Word (only 5) 5 ∷ fixed (allow (not (is_byte s)) 6 ∷ []) ∷ []

-- MOVEQ: the data in bits 7 to 0
unfoldable pub moveq_parts : ℕ → RegisterOperand → List Part
moveq_parts v r = fixed (operation 7 (register_bits r) (v / 64) (v % 64) ∷ data_register r ∷ []) ∷ []

-- EXG: bits 8 to 3 are 101000 for two data registers, 101001 for two address registers, 110001 for a data and an address register
abbrev pub is_address : RegisterOperand → Bool
is_address (Address n) = true
is_address (Data n) = false

abbrev pub exg_opmode : RegisterOperand → RegisterOperand → ℕ
exg_opmode x y = 5 + bit (not (is_address x) && is_address y)

unfoldable pub exg_parts : RegisterOperand → RegisterOperand → List Part
exg_parts x y =
    fixed
    (operation 12 (register_bits x) (exg_opmode x y) (general y) ∷ allow (not (is_address x) || is_address y) 43
    ∷ register (number_of_register x) ∷ register (number_of_register y) ∷ [])
    ∷ []

unfoldable pub link_parts : RegisterOperand → ℕ → List Part
link_parts r d = fixed (operation 4 7 1 (16 + register_bits r) ∷ address_register r ∷ word_items field.LinkDisplacement (signed32 d)) ∷ []

unfoldable pub linkl_parts : RegisterOperand → ℕ → List Part
linkl_parts r d = fixed (operation 4 4 0 (8 + register_bits r) ∷ address_register r ∷ long_items d) ∷ []

unfoldable pub unlk_parts : RegisterOperand → List Part
unlk_parts r = fixed (operation 4 7 1 (24 + register_bits r) ∷ address_register r ∷ []) ∷ []
