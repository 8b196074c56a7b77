-- Logical, shift and rotate (the manual, sections 3.1.3 and 3.1.4; section 4 has each format).
use Rattle.std.specs.Prelude.{ℕ, ◌+◌, ◌*◌, ◌%◌, Bool, ◌&&◌, cond, List, [], ◌∷◌, eqb, pos}
use Rattle.isa.specs.declared.Size.{Size}
use Rattle.isa.specs.declared.Size.TheVariants.{Word}
use Rattle.isa.specs.declared.RegisterOperand.{RegisterOperand}
use Rattle.isa.specs.declared.Operand.{Operand}
use Rattle.isa.specs.declared.Field.TheVariants as field
use Rattle.encode_spec.specs.Item.{Item, Part, no_encoding, check, range, data_register, allow, operation, fixed}
use Rattle.isa_spec.specs.Code.{size_code, is_word, bit, register_bits}
use Rattle.isa_spec.specs.Mode.{data_column}
use Rattle.encode_spec.specs.Ea.{memory_alterable, is_register, is_immediate, register_in, immediate_in, single, with_data, from_data}
use Rattle.isa.specs.declared.ShiftOperation.{ShiftOperation}
use Rattle.isa.specs.declared.ShiftOperation.TheVariants.{ASd, ROd, LSd, ROXd}
use Rattle.isa.specs.declared.ShiftDirection.{ShiftDirection}
use Rattle.isa.specs.declared.ShiftDirection.TheVariants.{Right, Left}

-- AND OR
unfoldable pub logical_parts : ℕ → Operand → Operand → Size → List Part
logical_parts line source destination s =
    cond (is_register destination) (with_data line (register_in destination) (size_code s) source s data_column 57)
    (from_data line memory_alterable 58 source destination s)

-- the kind of a shift or rotate, and its direction dr
abbrev pub shift_kind : ShiftOperation → ℕ
shift_kind ASd = 0
shift_kind LSd = 1
shift_kind ROXd = 2
shift_kind ROd = 3

abbrev pub left_bit : ShiftDirection → ℕ
left_bit Right = 0
left_bit Left = 1

-- the count: 1 to 8, 8 coded 0, or a data register, which i/r says
abbrev pub count_bits : Operand → ℕ
count_bits count = cond (is_register count) (register_bits (register_in count)) (immediate_in count % 8)

abbrev pub count_items : Operand → List Item
count_items count =
    cond (is_register count) (data_register (register_in count) ∷ [])
    (cond (is_immediate count) (range field.Count (pos (immediate_in count)) ∷ []) (check (no_encoding 63) ∷ []))

unfoldable pub shift_register_parts : ShiftOperation → Operand → RegisterOperand → ShiftDirection → Size → List Part
shift_register_parts op count r direction s =
    fixed
    (operation 14 (count_bits count) (4 * left_bit direction + size_code s) (32 * bit (is_register count) + 8 * shift_kind op + register_bits r)
    ∷ data_register r ∷ count_items count)
    ∷ []

-- in memory a word is shifted by one
abbrev pub is_one : Operand → Bool
is_one count = is_immediate count && eqb (immediate_in count) 1

unfoldable pub shift_memory_parts : ShiftOperation → Operand → Operand → ShiftDirection → Size → List Part
shift_memory_parts op count target direction s =
    fixed (allow (is_one count && is_word s) 64 ∷ [])
    ∷ single 14 (shift_kind op) (4 * left_bit direction + 3) target Word memory_alterable 65

unfoldable pub shift_parts : ShiftOperation → Operand → Operand → ShiftDirection → Size → List Part
shift_parts op count target direction s =
    cond (is_register target) (shift_register_parts op count (register_in target) direction s) (shift_memory_parts op count target direction s)
