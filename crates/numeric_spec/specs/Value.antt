-- Enums and registers, by their variants' places.
use Rattle.std.specs.Prelude.{ℕ, [], ◌∷◌, get_or}
use Rattle.isa.specs.declared.Size.{Size}
use Rattle.isa.specs.declared.Size.TheVariants as size
use Rattle.isa.specs.declared.AddressWidth.{AddressWidth}
use Rattle.isa.specs.declared.AddressWidth.TheVariants as width
use Rattle.isa.specs.declared.TargetDirection.{TargetDirection}
use Rattle.isa.specs.declared.TargetDirection.TheVariants.{ToMemory, FromMemory}
use Rattle.isa.specs.declared.Condition.{Condition}
use Rattle.isa.specs.declared.Condition.TheVariants.{True, False, High, LowOrSame, CarryClear, CarrySet, NotEqual, Equal, OverflowClear, OverflowSet, Plus, Minus, GreaterThanOrEqual, LessThan, GreaterThan, LessThanOrEqual}
use Rattle.isa.specs.declared.BranchSize.{BranchSize}
use Rattle.isa.specs.declared.BranchSize.TheVariants as branch
use Rattle.isa.specs.declared.ShiftDirection.{ShiftDirection}
use Rattle.isa.specs.declared.ShiftDirection.TheVariants.{Right, Left}
use Rattle.isa.specs.declared.Sign.{Sign}
use Rattle.isa.specs.declared.Sign.TheVariants.{Signed, Unsigned}
use Rattle.isa.specs.declared.BitFieldOperation.{BitFieldOperation}
use Rattle.isa.specs.declared.BitFieldOperation.TheVariants.{Test, ExtractUnsigned, Change, ExtractSigned, Clear, FindFirstOne, Set, Insert}
use Rattle.isa.specs.declared.RegisterOperand.{RegisterOperand}
use Rattle.isa.specs.declared.RegisterOperand.TheVariants.{Address, Data}
use Rattle.isa.specs.declared.FieldValue.{FieldValue}
use Rattle.isa.specs.declared.FieldValue.TheVariants as value

abbrev pub size_by_place : ℕ → Size
size_by_place place = get_or (size.Byte ∷ size.Word ∷ size.Long ∷ []) place size.Byte

abbrev pub address_width_by_place : ℕ → AddressWidth
address_width_by_place place = get_or (width.Word ∷ width.Long ∷ []) place width.Word

abbrev pub target_direction_by_place : ℕ → TargetDirection
target_direction_by_place place = get_or (ToMemory ∷ FromMemory ∷ []) place ToMemory

abbrev pub condition_by_place : ℕ → Condition
condition_by_place place = get_or (True ∷ False ∷ High ∷ LowOrSame ∷ CarryClear ∷ CarrySet ∷ NotEqual ∷ Equal ∷ OverflowClear ∷ OverflowSet ∷ Plus ∷ Minus ∷ GreaterThanOrEqual ∷ LessThan ∷ GreaterThan ∷ LessThanOrEqual ∷ []) place True

abbrev pub branch_size_by_place : ℕ → BranchSize
branch_size_by_place place = get_or (branch.Short ∷ branch.Word ∷ branch.Long ∷ []) place branch.Short

abbrev pub shift_direction_by_place : ℕ → ShiftDirection
shift_direction_by_place place = get_or (Right ∷ Left ∷ []) place Right

abbrev pub sign_by_place : ℕ → Sign
sign_by_place place = get_or (Signed ∷ Unsigned ∷ []) place Signed

abbrev pub bit_field_operation_by_place : ℕ → BitFieldOperation
bit_field_operation_by_place place = get_or (Test ∷ ExtractUnsigned ∷ Change ∷ ExtractSigned ∷ Clear ∷ FindFirstOne ∷ Set ∷ Insert ∷ []) place Test

unfoldable pub register_by_place : ℕ → ℕ → RegisterOperand
register_by_place place number = get_or (Address number ∷ Data number ∷ []) place (Address number)

unfoldable pub field_value_by_place : ℕ → ℕ → FieldValue
field_value_by_place place number = get_or (value.Immediate number ∷ value.Register number ∷ []) place (value.Immediate number)
