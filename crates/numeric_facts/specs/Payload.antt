-- Each type of a payload: what is taken is exactly its form. Assumes nothing.
use Rattle.std.specs.Prelude.{ℕ, zero, suc, ◌-◌, ◌^◌, ◌≤◌, ◌≡◌, refl, Bool, true, false, List, [], ◌∷◌, ◌++◌, eqb, get_or, ℤ}
use Rattle.std.proofs.Common.{ap, ◌∙◌, arith}
use Rattle.isa.specs.declared.Size.{Size}
use Rattle.isa.specs.declared.Size.TheVariants as size
use Rattle.isa.specs.declared.TargetDirection.{TargetDirection}
use Rattle.isa.specs.declared.TargetDirection.TheVariants.{ToMemory, FromMemory}
use Rattle.isa.specs.declared.AddressWidth.{AddressWidth}
use Rattle.isa.specs.declared.AddressWidth.TheVariants as width
use Rattle.isa.specs.declared.Condition.{Condition}
use Rattle.isa.specs.declared.Condition.TheVariants.{True, False, High, LowOrSame, CarryClear, CarrySet, NotEqual, Equal, OverflowClear, OverflowSet, Plus, Minus, GreaterThanOrEqual, LessThan, GreaterThan, LessThanOrEqual}
use Rattle.isa.specs.declared.BranchSize.{BranchSize}
use Rattle.isa.specs.declared.BranchSize.TheVariants as branch
use Rattle.isa.specs.declared.ShiftDirection.{ShiftDirection}
use Rattle.isa.specs.declared.ShiftDirection.TheVariants.{Right, Left}
use Rattle.isa.specs.declared.Sign.{Sign}
use Rattle.isa.specs.declared.Sign.TheVariants.{Signed, Unsigned}
use Rattle.isa.specs.declared.BitFieldOperation.{BitFieldOperation}
use Rattle.isa.specs.declared.BitFieldOperation.TheVariants.{Test, ExtractUnsigned, Change, ExtractSigned, Clear, FindFirstOne, Set, Insert}
use Rattle.isa.specs.declared.RegisterOperand.{RegisterOperand}
use Rattle.isa.specs.declared.RegisterOperand.TheVariants.{Address, Data}
use Rattle.isa.specs.declared.FieldValue.{FieldValue}
use Rattle.isa.specs.declared.FieldValue.TheVariants as value
use Rattle.isa.specs.declared.TrapOperand.{TrapOperand}
use Rattle.isa.specs.declared.TrapOperand.TheVariants as trap
use Rattle.std.specs.declared.option.Option.{Option}
use Rattle.std.specs.declared.option.Option.TheVariants as choice
use Rattle.isa.specs.declared.Operand.{Operand}
use Rattle.isa.specs.declared.Operand.TheVariants.{Immediate, Register, Indirect, PostIndirect, PreIndirect, IndirectDisplacement, IndirectIndex, PcDisplacement, PcIndex, Extended, Absolute}
use Rattle.isa.specs.declared.IndexRegister.{IndexRegister}
use Rattle.isa.specs.declared.BitField.{BitField}
use Rattle.numeric_spec.specs.Entry.{Entry, Inside}
use Rattle.numeric_spec.specs.Payload.{byte_form, word_form, long_form, address_form, flag_place, flag_form, size_place, size_form, target_direction_place, target_direction_form, address_width_place, address_width_form, condition_place, condition_form, branch_size_place, branch_size_form, shift_direction_place, shift_direction_form, sign_place, sign_form, bit_field_operation_place, bit_field_operation_form, register_place, register_payload, register_form, field_value_place, field_value_payload, field_value_form, trap_operand_place, trap_operand_payload, trap_operand_form, register_choice_place, register_choice_payload, register_choice_form, operand_place, operand_payload, operand_form, index_form, bit_field_form}
use Rattle.numeric_spec.specs.Value.{size_by_place, address_width_by_place, target_direction_by_place, condition_by_place, branch_size_by_place, shift_direction_by_place, sign_by_place, bit_field_operation_by_place, register_by_place, field_value_by_place}
use Rattle.numeric_spec.specs.Take.{taken, Take, given, none, take_both, make1, take_byte, take_word, take_long, take_address, take_flag, take_size, take_target_direction, take_address_width, take_condition, take_branch_size, take_shift_direction, take_sign, take_bit_field_operation, take_register, take_index, take_field_value, take_bit_field, take_trap_operand, take_register_choice, operand_payloads, take_operand}
use Rattle.numeric_facts.specs.Exact.{Exact, before, thence, unsigned_exact, signed_exact, made_sound, made_back, given_sound, named, chosen}

pub byte_exact : Exact byte_form take_byte
byte_exact = unsigned_exact (2 ^ 8 - 1)

pub word_exact : Exact word_form take_word
word_exact = unsigned_exact (2 ^ 16 - 1)

pub long_exact : Exact long_form take_long
long_exact = unsigned_exact (2 ^ 32 - 1)

pub address_exact : Exact address_form take_address
address_exact = unsigned_exact (2 ^ 64 - 1)

flag_back : (b : Bool) → eqb (flag_place b) 1 ≡ b
flag_back true = refl
flag_back false = refl

pub flag_exact : Exact flag_form take_flag
flag_exact = named 1 (λ (n : ℕ). eqb n 1) flag_place refl flag_back

size_back : (x : Size) → size_by_place (size_place x) ≡ x
size_back size.Byte = refl
size_back size.Word = refl
size_back size.Long = refl

pub size_exact : Exact size_form take_size
size_exact = named 2 size_by_place size_place refl size_back

target-direction_back : (x : TargetDirection) → target_direction_by_place (target_direction_place x) ≡ x
target-direction_back ToMemory = refl
target-direction_back FromMemory = refl

pub target-direction_exact : Exact target_direction_form take_target_direction
target-direction_exact = named 1 target_direction_by_place target_direction_place refl target-direction_back

address_width_back : (x : AddressWidth) → address_width_by_place (address_width_place x) ≡ x
address_width_back width.Word = refl
address_width_back width.Long = refl

pub address_width_exact : Exact address_width_form take_address_width
address_width_exact = named 1 address_width_by_place address_width_place refl address_width_back

condition_back : (x : Condition) → condition_by_place (condition_place x) ≡ x
condition_back True = refl
condition_back False = refl
condition_back High = refl
condition_back LowOrSame = refl
condition_back CarryClear = refl
condition_back CarrySet = refl
condition_back NotEqual = refl
condition_back Equal = refl
condition_back OverflowClear = refl
condition_back OverflowSet = refl
condition_back Plus = refl
condition_back Minus = refl
condition_back GreaterThanOrEqual = refl
condition_back LessThan = refl
condition_back GreaterThan = refl
condition_back LessThanOrEqual = refl

pub condition_exact : Exact condition_form take_condition
condition_exact = named 15 condition_by_place condition_place refl condition_back

branch_size_back : (x : BranchSize) → branch_size_by_place (branch_size_place x) ≡ x
branch_size_back branch.Short = refl
branch_size_back branch.Word = refl
branch_size_back branch.Long = refl

pub branch_size_exact : Exact branch_size_form take_branch_size
branch_size_exact = named 2 branch_size_by_place branch_size_place refl branch_size_back

shift_direction_back : (x : ShiftDirection) → shift_direction_by_place (shift_direction_place x) ≡ x
shift_direction_back Right = refl
shift_direction_back Left = refl

pub shift_direction_exact : Exact shift_direction_form take_shift_direction
shift_direction_exact = named 1 shift_direction_by_place shift_direction_place refl shift_direction_back

sign_back : (x : Sign) → sign_by_place (sign_place x) ≡ x
sign_back Signed = refl
sign_back Unsigned = refl

pub sign_exact : Exact sign_form take_sign
sign_exact = named 1 sign_by_place sign_place refl sign_back

bit_field_operation_back : (x : BitFieldOperation) → bit_field_operation_by_place (bit_field_operation_place x) ≡ x
bit_field_operation_back Test = refl
bit_field_operation_back ExtractUnsigned = refl
bit_field_operation_back Change = refl
bit_field_operation_back ExtractSigned = refl
bit_field_operation_back Clear = refl
bit_field_operation_back FindFirstOne = refl
bit_field_operation_back Set = refl
bit_field_operation_back Insert = refl

pub bit_field_operation_exact : Exact bit_field_operation_form take_bit_field_operation
bit_field_operation_exact = named 7 bit_field_operation_by_place bit_field_operation_place refl bit_field_operation_back

register_there : (p : ℕ) → p ≤ 1 → (zs : List ℤ) (x : RegisterOperand) (end : List ℤ) → make1 (register_by_place p) take_byte zs ≡ taken x end → (zs ≡ before (register_payload x) end) × Inside (register_payload x) × (register_place x ≡ p)
unfolding register_by_place
register_there zero h = made_sound Address register_payload (λ x. register_place x ≡ 0) byte_exact (λ n. refl) (λ n. refl)
register_there (suc zero) h = made_sound Data register_payload (λ x. register_place x ≡ 1) byte_exact (λ n. refl) (λ n. refl)
register_there (suc (suc p)) h = absurd (omega arith)

register_back : (x : RegisterOperand) (end : List ℤ) → Inside (register_payload x) → make1 (register_by_place (register_place x)) take_byte (before (register_payload x) end) ≡ taken x end
unfolding register_by_place
register_back (Address n) end i = made_back Address byte_exact n end i
register_back (Data n) end i = made_back Data byte_exact n end i

pub register_exact : Exact register_form take_register
unfolding take_register
register_exact = chosen 1 register_place register_payload (λ p. make1 (register_by_place p) take_byte) register_there register_back

field-value_there : (p : ℕ) → p ≤ 1 → (zs : List ℤ) (x : FieldValue) (end : List ℤ) → make1 (field_value_by_place p) take_byte zs ≡ taken x end → (zs ≡ before (field_value_payload x) end) × Inside (field_value_payload x) × (field_value_place x ≡ p)
unfolding field_value_by_place
field-value_there zero h = made_sound value.Immediate field_value_payload (λ x. field_value_place x ≡ 0) byte_exact (λ n. refl) (λ n. refl)
field-value_there (suc zero) h = made_sound value.Register field_value_payload (λ x. field_value_place x ≡ 1) byte_exact (λ n. refl) (λ n. refl)
field-value_there (suc (suc p)) h = absurd (omega arith)

field-value_back : (x : FieldValue) (end : List ℤ) → Inside (field_value_payload x) → make1 (field_value_by_place (field_value_place x)) take_byte (before (field_value_payload x) end) ≡ taken x end
unfolding field_value_by_place
field-value_back (value.Immediate n) end i = made_back value.Immediate byte_exact n end i
field-value_back (value.Register n) end i = made_back value.Register byte_exact n end i

pub field-value_exact : Exact field_value_form take_field_value
unfolding take_field_value
field-value_exact = chosen 1 field_value_place field_value_payload (λ p. make1 (field_value_by_place p) take_byte) field-value_there field-value_back

-- a struct of two
module _ {A B C : Type 0} {f : A → List Entry} {t : Take A} {g : B → List Entry} {u : Take B} where
  pub struct : (make : A × B → C) (parts : C → A × B) → ((x : C) → make (parts x) ≡ x) → ((a : A × B) → parts (make a) ≡ a) → Exact f t → Exact g u
      → Exact (λ (x : C). f (parts x).0 ++ g (parts x).1) (make1 make (take_both t u))
  struct make parts back same F G =
      record {
        sound = λ zs x end e. let r = made_sound make (λ (x : C). f (parts x).0 ++ g (parts x).1) (λ x. Unit {0}) (thence F G) (λ a. ap (λ (y : A × B). f y.0 ++ g y.1) (same a)) (λ a. tt) zs x end e in (r.0, r.1);
        complete = λ x end i. made_back make (thence F G) (parts x) end i ∙ ap (λ (y : C). taken y end) (back x);
      }

pub index_exact : Exact index_form take_index
unfolding take_index
index_exact = struct (λ x. record { register = x.0; size = x.1 }) (λ (x : IndexRegister). (x.register, x.size)) (λ x. refl) (λ x. refl) register_exact size_exact

pub bit_field_exact : Exact bit_field_form take_bit_field
unfolding take_bit_field
bit_field_exact = struct (λ x. record { offset = x.0; width = x.1 }) (λ (x : BitField). (x.offset, x.width)) (λ x. refl) (λ x. refl) field-value_exact field-value_exact

trap_there : (p : ℕ) → p ≤ 2 → (zs : List ℤ) (x : TrapOperand) (end : List ℤ) → get_or (given trap.None ∷ make1 trap.Word take_word ∷ make1 trap.Long take_long ∷ []) p none zs ≡ taken x end
    → (zs ≡ before (trap_operand_payload x) end) × Inside (trap_operand_payload x) × (trap_operand_place x ≡ p)
trap_there zero h = given_sound trap.None trap_operand_payload (λ x. trap_operand_place x ≡ 0) refl refl
trap_there (suc zero) h = made_sound trap.Word trap_operand_payload (λ x. trap_operand_place x ≡ 1) word_exact (λ n. refl) (λ n. refl)
trap_there (suc (suc zero)) h = made_sound trap.Long trap_operand_payload (λ x. trap_operand_place x ≡ 2) long_exact (λ n. refl) (λ n. refl)
trap_there (suc (suc (suc p))) h = absurd (omega arith)

trap_back : (x : TrapOperand) (end : List ℤ) → Inside (trap_operand_payload x)
    → get_or (given trap.None ∷ make1 trap.Word take_word ∷ make1 trap.Long take_long ∷ []) (trap_operand_place x) none (before (trap_operand_payload x) end) ≡ taken x end
trap_back trap.None end i = refl
trap_back (trap.Word n) end i = made_back trap.Word word_exact n end i
trap_back (trap.Long n) end i = made_back trap.Long long_exact n end i

pub trap_operand_exact : Exact trap_operand_form take_trap_operand
unfolding take_trap_operand
trap_operand_exact = chosen 2 trap_operand_place trap_operand_payload (λ p. get_or (given trap.None ∷ make1 trap.Word take_word ∷ make1 trap.Long take_long ∷ []) p none) trap_there trap_back

choice_there : (p : ℕ) → p ≤ 1 → (zs : List ℤ) (x : Option ℕ) (end : List ℤ) → get_or (given choice.None ∷ make1 choice.Some take_byte ∷ []) p none zs ≡ taken x end
    → (zs ≡ before (register_choice_payload x) end) × Inside (register_choice_payload x) × (register_choice_place x ≡ p)
choice_there zero h = given_sound choice.None register_choice_payload (λ x. register_choice_place x ≡ 0) refl refl
choice_there (suc zero) h = made_sound choice.Some register_choice_payload (λ x. register_choice_place x ≡ 1) byte_exact (λ n. refl) (λ n. refl)
choice_there (suc (suc p)) h = absurd (omega arith)

choice_back : (x : Option ℕ) (end : List ℤ) → Inside (register_choice_payload x)
    → get_or (given choice.None ∷ make1 choice.Some take_byte ∷ []) (register_choice_place x) none (before (register_choice_payload x) end) ≡ taken x end
choice_back choice.None end i = refl
choice_back (choice.Some n) end i = made_back choice.Some byte_exact n end i

pub register_choice_exact : Exact register_choice_form take_register_choice
unfolding take_register_choice
register_choice_exact = chosen 1 register_choice_place register_choice_payload (λ p. get_or (given choice.None ∷ make1 choice.Some take_byte ∷ []) p none) choice_there choice_back

-- ---- operands
abbrev OperandAt : ℕ → Take Operand → Type 0
OperandAt p t = (zs : List ℤ) (x : Operand) (end : List ℤ) → t zs ≡ taken x end → (zs ≡ before (operand_payload x) end) × Inside (operand_payload x) × (operand_place x ≡ p)

module _ {A : Type 0} {f : A → List Entry} {t : Take A} where
  operand-made : (p : ℕ) (make : A → Operand) → Exact f t → ((a : A) → operand_payload (make a) ≡ f a) → ((a : A) → operand_place (make a) ≡ p) → OperandAt p (make1 make t)
  operand-made p make F same g = made_sound make operand_payload (λ x. operand_place x ≡ p) F same g

operand_there : (p : ℕ) → p ≤ 10 → OperandAt p (get_or operand_payloads p none)
unfolding operand_payloads
operand_there zero h = operand-made 0 Immediate long_exact (λ a. refl) (λ a. refl)
operand_there (suc zero) h = operand-made 1 Register register_exact (λ a. refl) (λ a. refl)
operand_there (suc (suc zero)) h = operand-made 2 Indirect byte_exact (λ a. refl) (λ a. refl)
operand_there (suc (suc (suc zero))) h = operand-made 3 PostIndirect byte_exact (λ a. refl) (λ a. refl)
operand_there (suc (suc (suc (suc zero)))) h = operand-made 4 PreIndirect byte_exact (λ a. refl) (λ a. refl)
operand_there (suc (suc (suc (suc (suc zero))))) h = operand-made 5 (λ x. IndirectDisplacement x.0 x.1) (thence signed_exact register_exact) (λ a. refl) (λ a. refl)
operand_there (suc (suc (suc (suc (suc (suc zero)))))) h = operand-made 6 (λ x. IndirectIndex x.0.0 x.0.1 x.1) (thence (thence register_exact signed_exact) index_exact) (λ a. refl) (λ a. refl)
operand_there (suc (suc (suc (suc (suc (suc (suc zero))))))) h = operand-made 7 PcDisplacement long_exact (λ a. refl) (λ a. refl)
operand_there (suc (suc (suc (suc (suc (suc (suc (suc zero)))))))) h = operand-made 8 (λ x. PcIndex x.0 x.1) (thence long_exact index_exact) (λ a. refl) (λ a. refl)
operand_there (suc (suc (suc (suc (suc (suc (suc (suc (suc zero))))))))) h = operand-made 9 (λ x. Extended x.0.0.0 x.0.0.1 x.0.1 x.1) (thence (thence (thence byte_exact word_exact) signed_exact) signed_exact) (λ a. refl) (λ a. refl)
operand_there (suc (suc (suc (suc (suc (suc (suc (suc (suc (suc zero)))))))))) h = operand-made 10 (λ x. Absolute x.0 x.1) (thence address_exact address_width_exact) (λ a. refl) (λ a. refl)
operand_there (suc (suc (suc (suc (suc (suc (suc (suc (suc (suc (suc p))))))))))) h = absurd (omega arith)

operand_back : (x : Operand) (end : List ℤ) → Inside (operand_payload x) → get_or operand_payloads (operand_place x) none (before (operand_payload x) end) ≡ taken x end
unfolding operand_payloads
operand_back (Immediate v) end i = made_back Immediate long_exact v end i
operand_back (Register r) end i = made_back Register register_exact r end i
operand_back (Indirect n) end i = made_back Indirect byte_exact n end i
operand_back (PostIndirect n) end i = made_back PostIndirect byte_exact n end i
operand_back (PreIndirect n) end i = made_back PreIndirect byte_exact n end i
operand_back (IndirectDisplacement z base) end i = made_back (λ x. IndirectDisplacement x.0 x.1) (thence signed_exact register_exact) (z, base) end i
operand_back (IndirectIndex base z x) end i = made_back (λ x. IndirectIndex x.0.0 x.0.1 x.1) (thence (thence register_exact signed_exact) index_exact) ((base, z), x) end i
operand_back (PcDisplacement t) end i = made_back PcDisplacement long_exact t end i
operand_back (PcIndex t x) end i = made_back (λ x. PcIndex x.0 x.1) (thence long_exact index_exact) (t, x) end i
operand_back (Extended base w z outer) end i = made_back (λ x. Extended x.0.0.0 x.0.0.1 x.0.1 x.1) (thence (thence (thence byte_exact word_exact) signed_exact) signed_exact) (((base, w), z), outer) end i
operand_back (Absolute a w) end i = made_back (λ x. Absolute x.0 x.1) (thence address_exact address_width_exact) (a, w) end i

pub operand_exact : Exact operand_form take_operand
unfolding take_operand
operand_exact = chosen 10 operand_place operand_payload (λ p. get_or operand_payloads p none) operand_there operand_back
