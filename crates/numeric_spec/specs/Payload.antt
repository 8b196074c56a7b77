-- The values of a payload: each as its numbers, with the types that they are declared at.
use Rattle.std.specs.Prelude.{ℕ, ◌-◌, ◌^◌, Bool, true, false, List, [], ◌∷◌, ◌++◌, ℤ}
use Rattle.isa.specs.declared.Size.{Size}
use Rattle.isa.specs.declared.Size.TheVariants as size
use Rattle.isa.specs.declared.TargetDirection.{TargetDirection}
use Rattle.isa.specs.declared.TargetDirection.TheVariants.{ToMemory, FromMemory}
use Rattle.isa.specs.declared.AddressWidth.{AddressWidth}
use Rattle.isa.specs.declared.AddressWidth.TheVariants as width
use Rattle.isa.specs.declared.Condition.{Condition}
use Rattle.isa.specs.declared.Condition.TheVariants.{True, False, High, LowOrSame, CarryClear, CarrySet, NotEqual, Equal, OverflowClear, OverflowSet, Plus, Minus, GreaterThanOrEqual, LessThan, GreaterThan, LessThanOrEqual}
use Rattle.isa.specs.declared.BranchSize.{BranchSize}
use Rattle.isa.specs.declared.BranchSize.TheVariants as branch
use Rattle.isa.specs.declared.ShiftDirection.{ShiftDirection}
use Rattle.isa.specs.declared.ShiftDirection.TheVariants.{Right, Left}
use Rattle.isa.specs.declared.Sign.{Sign}
use Rattle.isa.specs.declared.Sign.TheVariants.{Signed, Unsigned}
use Rattle.isa.specs.declared.BitFieldOperation.{BitFieldOperation}
use Rattle.isa.specs.declared.BitFieldOperation.TheVariants.{Test, ExtractUnsigned, Change, ExtractSigned, Clear, FindFirstOne, Set, Insert}
use Rattle.isa.specs.declared.RegisterOperand.{RegisterOperand}
use Rattle.isa.specs.declared.RegisterOperand.TheVariants.{Address, Data}
use Rattle.isa.specs.declared.FieldValue.{FieldValue}
use Rattle.isa.specs.declared.FieldValue.TheVariants as value
use Rattle.isa.specs.declared.TrapOperand.{TrapOperand}
use Rattle.isa.specs.declared.TrapOperand.TheVariants as trap
use Rattle.std.specs.declared.option.Option.{Option}
use Rattle.std.specs.declared.option.Option.TheVariants as choice
use Rattle.isa.specs.declared.Operand.{Operand}
use Rattle.isa.specs.declared.Operand.TheVariants.{Immediate, Register, Indirect, PostIndirect, PreIndirect, IndirectDisplacement, IndirectIndex, PcDisplacement, PcIndex, Extended, Absolute}
use Rattle.isa.specs.declared.IndexRegister.{IndexRegister}
use Rattle.isa.specs.declared.BitField.{BitField}
use Rattle.numeric_spec.specs.Entry.{Entry, unsigned, signed}

abbrev pub unsigned_form : ℕ → ℕ → List Entry
unsigned_form top n = unsigned top n ∷ []

abbrev pub byte_form : ℕ → List Entry
byte_form n = unsigned_form (2 ^ 8 - 1) n

abbrev pub word_form : ℕ → List Entry
word_form n = unsigned_form (2 ^ 16 - 1) n

abbrev pub long_form : ℕ → List Entry
long_form n = unsigned_form (2 ^ 32 - 1) n

abbrev pub address_form : ℕ → List Entry
address_form n = unsigned_form (2 ^ 64 - 1) n

abbrev pub signed_form : ℤ → List Entry
signed_form z = signed z ∷ []

abbrev pub flag_place : Bool → ℕ
flag_place false = 0
flag_place true = 1

abbrev pub flag_form : Bool → List Entry
flag_form b = unsigned_form 1 (flag_place b)

abbrev pub size_place : Size → ℕ
size_place size.Byte = 0
size_place size.Word = 1
size_place size.Long = 2

abbrev pub size_form : Size → List Entry
size_form x = unsigned_form 2 (size_place x)

abbrev pub target_direction_place : TargetDirection → ℕ
target_direction_place ToMemory = 0
target_direction_place FromMemory = 1

abbrev pub target_direction_form : TargetDirection → List Entry
target_direction_form x = unsigned_form 1 (target_direction_place x)

abbrev pub address_width_place : AddressWidth → ℕ
address_width_place width.Word = 0
address_width_place width.Long = 1

abbrev pub address_width_form : AddressWidth → List Entry
address_width_form x = unsigned_form 1 (address_width_place x)

abbrev pub condition_place : Condition → ℕ
condition_place True = 0
condition_place False = 1
condition_place High = 2
condition_place LowOrSame = 3
condition_place CarryClear = 4
condition_place CarrySet = 5
condition_place NotEqual = 6
condition_place Equal = 7
condition_place OverflowClear = 8
condition_place OverflowSet = 9
condition_place Plus = 10
condition_place Minus = 11
condition_place GreaterThanOrEqual = 12
condition_place LessThan = 13
condition_place GreaterThan = 14
condition_place LessThanOrEqual = 15

abbrev pub condition_form : Condition → List Entry
condition_form x = unsigned_form 15 (condition_place x)

abbrev pub branch_size_place : BranchSize → ℕ
branch_size_place branch.Short = 0
branch_size_place branch.Word = 1
branch_size_place branch.Long = 2

abbrev pub branch_size_form : BranchSize → List Entry
branch_size_form x = unsigned_form 2 (branch_size_place x)

abbrev pub shift_direction_place : ShiftDirection → ℕ
shift_direction_place Right = 0
shift_direction_place Left = 1

abbrev pub shift_direction_form : ShiftDirection → List Entry
shift_direction_form x = unsigned_form 1 (shift_direction_place x)

abbrev pub sign_place : Sign → ℕ
sign_place Signed = 0
sign_place Unsigned = 1

abbrev pub sign_form : Sign → List Entry
sign_form x = unsigned_form 1 (sign_place x)

abbrev pub bit_field_operation_place : BitFieldOperation → ℕ
bit_field_operation_place Test = 0
bit_field_operation_place ExtractUnsigned = 1
bit_field_operation_place Change = 2
bit_field_operation_place ExtractSigned = 3
bit_field_operation_place Clear = 4
bit_field_operation_place FindFirstOne = 5
bit_field_operation_place Set = 6
bit_field_operation_place Insert = 7

abbrev pub bit_field_operation_form : BitFieldOperation → List Entry
bit_field_operation_form x = unsigned_form 7 (bit_field_operation_place x)

-- an enum with payload: its variant's place, then it
abbrev pub register_place : RegisterOperand → ℕ
register_place (Address n) = 0
register_place (Data n) = 1

abbrev pub register_payload : RegisterOperand → List Entry
register_payload (Address n) = byte_form n
register_payload (Data n) = byte_form n

abbrev pub register_form : RegisterOperand → List Entry
register_form r = unsigned 1 (register_place r) ∷ register_payload r

abbrev pub index_form : IndexRegister → List Entry
index_form x = register_form x.register ++ size_form x.size

abbrev pub field_value_place : FieldValue → ℕ
field_value_place (value.Immediate n) = 0
field_value_place (value.Register n) = 1

abbrev pub field_value_payload : FieldValue → List Entry
field_value_payload (value.Immediate n) = byte_form n
field_value_payload (value.Register n) = byte_form n

abbrev pub field_value_form : FieldValue → List Entry
field_value_form v = unsigned 1 (field_value_place v) ∷ field_value_payload v

abbrev pub bit_field_form : BitField → List Entry
bit_field_form f = field_value_form f.offset ++ field_value_form f.width

abbrev pub trap_operand_place : TrapOperand → ℕ
trap_operand_place trap.None = 0
trap_operand_place (trap.Word n) = 1
trap_operand_place (trap.Long n) = 2

abbrev pub trap_operand_payload : TrapOperand → List Entry
trap_operand_payload trap.None = []
trap_operand_payload (trap.Word n) = word_form n
trap_operand_payload (trap.Long n) = long_form n

abbrev pub trap_operand_form : TrapOperand → List Entry
trap_operand_form x = unsigned 2 (trap_operand_place x) ∷ trap_operand_payload x

abbrev pub register_choice_place : Option ℕ → ℕ
register_choice_place choice.None = 0
register_choice_place (choice.Some n) = 1

abbrev pub register_choice_payload : Option ℕ → List Entry
register_choice_payload choice.None = []
register_choice_payload (choice.Some n) = byte_form n

abbrev pub register_choice_form : Option ℕ → List Entry
register_choice_form x = unsigned 1 (register_choice_place x) ∷ register_choice_payload x

abbrev pub operand_place : Operand → ℕ
operand_place (Immediate v) = 0
operand_place (Register r) = 1
operand_place (Indirect n) = 2
operand_place (PostIndirect n) = 3
operand_place (PreIndirect n) = 4
operand_place (IndirectDisplacement z base) = 5
operand_place (IndirectIndex base z x) = 6
operand_place (PcDisplacement t) = 7
operand_place (PcIndex t x) = 8
operand_place (Extended base w z outer) = 9
operand_place (Absolute a w) = 10

abbrev pub operand_payload : Operand → List Entry
operand_payload (Immediate v) = long_form v
operand_payload (Register r) = register_form r
operand_payload (Indirect n) = byte_form n
operand_payload (PostIndirect n) = byte_form n
operand_payload (PreIndirect n) = byte_form n
operand_payload (IndirectDisplacement z base) = signed_form z ++ register_form base
operand_payload (IndirectIndex base z x) = register_form base ++ signed_form z ++ index_form x
operand_payload (PcDisplacement t) = long_form t
operand_payload (PcIndex t x) = long_form t ++ index_form x
operand_payload (Extended base w z outer) = byte_form base ++ word_form w ++ signed_form z ++ signed_form outer
operand_payload (Absolute a w) = address_form a ++ address_width_form w

abbrev pub operand_form : Operand → List Entry
operand_form o = unsigned 10 (operand_place o) ∷ operand_payload o
