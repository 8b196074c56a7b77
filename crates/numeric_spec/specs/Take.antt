-- What stands first in a list of numbers, read as a value of a type, and the numbers after it.
use Rattle.std.specs.Prelude.{ℕ, ◌-◌, ◌^◌, Bool, cond, List, [], ◌∷◌, leb, eqb, get_or, ℤ, pos, negsuc}
use Rattle.isa.specs.declared.Size.{Size}
use Rattle.isa.specs.declared.TargetDirection.{TargetDirection}
use Rattle.isa.specs.declared.AddressWidth.{AddressWidth}
use Rattle.isa.specs.declared.Condition.{Condition}
use Rattle.isa.specs.declared.BranchSize.{BranchSize}
use Rattle.isa.specs.declared.ShiftDirection.{ShiftDirection}
use Rattle.isa.specs.declared.Sign.{Sign}
use Rattle.isa.specs.declared.BitFieldOperation.{BitFieldOperation}
use Rattle.isa.specs.declared.RegisterOperand.{RegisterOperand}
use Rattle.isa.specs.declared.FieldValue.{FieldValue}
use Rattle.isa.specs.declared.TrapOperand.{TrapOperand}
use Rattle.isa.specs.declared.TrapOperand.TheVariants as trap
use Rattle.std.specs.declared.option.Option.{Option}
use Rattle.std.specs.declared.option.Option.TheVariants as choice
use Rattle.isa.specs.declared.Operand.{Operand}
use Rattle.isa.specs.declared.Operand.TheVariants.{Immediate, Register, Indirect, PostIndirect, PreIndirect, IndirectDisplacement, IndirectIndex, PcDisplacement, PcIndex, Extended, Absolute}
use Rattle.isa.specs.declared.IndexRegister.{IndexRegister}
use Rattle.isa.specs.declared.BitField.{BitField}
use Rattle.numeric_spec.specs.Entry.{is_i32}
use Rattle.numeric_spec.specs.Value.{size_by_place, address_width_by_place, target_direction_by_place, condition_by_place, branch_size_by_place, shift_direction_by_place, sign_by_place, bit_field_operation_by_place, register_by_place, field_value_by_place}

pub data Taken (A : Type 0) : Type 0 where
  taken : A → List ℤ → Taken A
  not_there : Taken A

abbrev pub Take : Type 0 → Type 0
Take A = List ℤ → Taken A

abbrev pub then_take : {A B : Type 0} → Taken A → (A → Take B) → Taken B
then_take (taken a rest) f = f a rest
then_take not_there f = not_there

-- a value that has no numbers, and no value
abbrev pub given : {A : Type 0} → A → Take A
given a zs = taken a zs

abbrev pub none : {A : Type 0} → Take A
none zs = not_there

-- a number from 0 to top
unfoldable pub take_unsigned : ℕ → Take ℕ
take_unsigned top [] = not_there
take_unsigned top (pos n ∷ zs) = cond (leb n top) (taken n zs) not_there
take_unsigned top (negsuc n ∷ zs) = not_there

-- an i32
unfoldable pub take_signed : Take ℤ
take_signed [] = not_there
take_signed (z ∷ zs) = cond (is_i32 z) (taken z zs) not_there

-- one value after another, and what is made of them
abbrev pub take_both : {A B : Type 0} → Take A → Take B → Take (A × B)
take_both t u zs = then_take (t zs) (λ a rest. then_take (u rest) (λ b end. taken (a, b) end))

abbrev pub make1 : {A B : Type 0} → (A → B) → Take A → Take B
make1 f t zs = then_take (t zs) (λ a rest. taken (f a) rest)

abbrev pub make2 : {A B C : Type 0} → (A → B → C) → Take A → Take B → Take C
make2 f t u = make1 (λ x. f x.0 x.1) (take_both t u)

abbrev pub make3 : {A B C D : Type 0} → (A → B → C → D) → Take A → Take B → Take C → Take D
make3 f t u v = make1 (λ x. f x.0.0 x.0.1 x.1) (take_both (take_both t u) v)

abbrev pub make4 : {A B C D E : Type 0} → (A → B → C → D → E) → Take A → Take B → Take C → Take D → Take E
make4 f t u v w = make1 (λ x. f x.0.0.0 x.0.0.1 x.0.1 x.1) (take_both (take_both (take_both t u) v) w)

-- a variant's place, up to top, then its payload
abbrev pub variant : {A : Type 0} → ℕ → (ℕ → Take A) → Take A
variant top payload zs = then_take (take_unsigned top zs) payload

abbrev pub take_byte : Take ℕ
take_byte = take_unsigned (2 ^ 8 - 1)

abbrev pub take_word : Take ℕ
take_word = take_unsigned (2 ^ 16 - 1)

abbrev pub take_long : Take ℕ
take_long = take_unsigned (2 ^ 32 - 1)

abbrev pub take_address : Take ℕ
take_address = take_unsigned (2 ^ 64 - 1)

abbrev pub take_flag : Take Bool
take_flag = make1 (λ n. eqb n 1) (take_unsigned 1)

abbrev pub take_size : Take Size
take_size = make1 size_by_place (take_unsigned 2)

abbrev pub take_target_direction : Take TargetDirection
take_target_direction = make1 target_direction_by_place (take_unsigned 1)

abbrev pub take_address_width : Take AddressWidth
take_address_width = make1 address_width_by_place (take_unsigned 1)

abbrev pub take_condition : Take Condition
take_condition = make1 condition_by_place (take_unsigned 15)

abbrev pub take_branch_size : Take BranchSize
take_branch_size = make1 branch_size_by_place (take_unsigned 2)

abbrev pub take_shift_direction : Take ShiftDirection
take_shift_direction = make1 shift_direction_by_place (take_unsigned 1)

abbrev pub take_sign : Take Sign
take_sign = make1 sign_by_place (take_unsigned 1)

abbrev pub take_bit_field_operation : Take BitFieldOperation
take_bit_field_operation = make1 bit_field_operation_by_place (take_unsigned 7)

unfoldable pub take_register : Take RegisterOperand
take_register = variant 1 (λ place. make1 (register_by_place place) take_byte)

unfoldable pub take_index : Take IndexRegister
take_index = make2 (λ register size. record { register = register; size = size }) take_register take_size

unfoldable pub take_field_value : Take FieldValue
take_field_value = variant 1 (λ place. make1 (field_value_by_place place) take_byte)

unfoldable pub take_bit_field : Take BitField
take_bit_field = make2 (λ offset width. record { offset = offset; width = width }) take_field_value take_field_value

unfoldable pub take_trap_operand : Take TrapOperand
take_trap_operand = variant 2 (λ place. get_or (given trap.None ∷ make1 trap.Word take_word ∷ make1 trap.Long take_long ∷ []) place none)

unfoldable pub take_register_choice : Take (Option ℕ)
take_register_choice = variant 1 (λ place. get_or (given choice.None ∷ make1 choice.Some take_byte ∷ []) place none)

unfoldable pub operand_payloads : List (Take Operand)
operand_payloads =
    make1 Immediate take_long
    ∷ make1 Register take_register
    ∷ make1 Indirect take_byte
    ∷ make1 PostIndirect take_byte
    ∷ make1 PreIndirect take_byte
    ∷ make2 IndirectDisplacement take_signed take_register
    ∷ make3 IndirectIndex take_register take_signed take_index
    ∷ make1 PcDisplacement take_long
    ∷ make2 PcIndex take_long take_index
    ∷ make4 Extended take_byte take_word take_signed take_signed
    ∷ make2 Absolute take_address take_address_width
    ∷ []

unfoldable pub take_operand : Take Operand
take_operand = variant 10 (λ place. get_or operand_payloads place none)
