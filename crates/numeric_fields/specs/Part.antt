-- Enums and registers: the variant's place, then its fields.
use Rattle.std.specs.Prelude.{ℕ, [], ◌∷◌, true, ◌&&◌, get_or}
use Rattle.isa.specs.declared.TrapOperand.TheVariants as trap
use Rattle.std.specs.declared.option.Option.TheVariants as choice
use Rattle.numeric_places.specs.declared.Numbers.{Numbers}
use Rattle.numeric_fields.specs.declared.SizeAt.{SizeAt}
use Rattle.numeric_fields.specs.declared.AddressWidthAt.{AddressWidthAt}
use Rattle.numeric_fields.specs.declared.RegisterAt.{RegisterAt}
use Rattle.numeric_fields.specs.declared.IndexAt.{IndexAt}
use Rattle.numeric_fields.specs.declared.FieldValueAt.{FieldValueAt}
use Rattle.numeric_fields.specs.declared.BitFieldAt.{BitFieldAt}
use Rattle.numeric_fields.specs.declared.TrapOperandAt.{TrapOperandAt}
use Rattle.numeric_fields.specs.declared.RegisterChoiceAt.{RegisterChoiceAt}
use Rattle.numeric_spec.specs.Value.{size_by_place, address_width_by_place, register_by_place, field_value_by_place}
use Rattle.numeric_fields.specs.Number.{unsigned_at, byte_at, word_at, long_at}

unfoldable pub size_at : Numbers → ℕ → SizeAt
size_at ns k =
    let n = unsigned_at 2 ns k in
    record { ok = n.ok; size = size_by_place n.value; next = n.next }

unfoldable pub address_width_at : Numbers → ℕ → AddressWidthAt
address_width_at ns k =
    let n = unsigned_at 1 ns k in
    record { ok = n.ok; width = address_width_by_place n.value; next = n.next }

unfoldable pub register_at : Numbers → ℕ → RegisterAt
register_at ns k =
    let place = unsigned_at 1 ns k in
    let number = byte_at ns place.next in
    record { ok = place.ok && number.ok; register = register_by_place place.value number.value; next = number.next }

unfoldable pub field_value_at : Numbers → ℕ → FieldValueAt
field_value_at ns k =
    let place = unsigned_at 1 ns k in
    let number = byte_at ns place.next in
    record { ok = place.ok && number.ok; value = field_value_by_place place.value number.value; next = number.next }

unfoldable pub index_at : Numbers → ℕ → IndexAt
index_at ns k =
    let register = register_at ns k in
    let size = size_at ns register.next in
    record {
      ok = register.ok && size.ok;
      index = record { register = register.register; size = size.size };
      next = size.next;
    }

unfoldable pub bit_field_at : Numbers → ℕ → BitFieldAt
bit_field_at ns k =
    let offset = field_value_at ns k in
    let width = field_value_at ns offset.next in
    record { ok = offset.ok && width.ok; field = record { offset = offset.value; width = width.value }; next = width.next }

-- the fields of TrapOperand's variants, from k on
abbrev pub trap_none : ℕ → TrapOperandAt
trap_none k = record { ok = true; operand = trap.None; next = k }

abbrev pub trap_word : Numbers → ℕ → TrapOperandAt
trap_word ns k = let n = word_at ns k in record { ok = n.ok; operand = trap.Word n.value; next = n.next }

abbrev pub trap_long : Numbers → ℕ → TrapOperandAt
trap_long ns k = let n = long_at ns k in record { ok = n.ok; operand = trap.Long n.value; next = n.next }

unfoldable pub trap_operand_of : ℕ → Numbers → ℕ → TrapOperandAt
trap_operand_of place ns k = get_or (trap_none k ∷ trap_word ns k ∷ trap_long ns k ∷ []) place (trap_none k)

unfoldable pub trap_operand_at : Numbers → ℕ → TrapOperandAt
trap_operand_at ns k =
    let place = unsigned_at 2 ns k in
    let rest = trap_operand_of place.value ns place.next in
    record { ok = place.ok && rest.ok; operand = rest.operand; next = rest.next }

-- the fields of the variants of an Option<u8>, from k on
abbrev pub choice_none : ℕ → RegisterChoiceAt
choice_none k = record { ok = true; register = choice.None; next = k }

abbrev pub choice_some : Numbers → ℕ → RegisterChoiceAt
choice_some ns k = let n = byte_at ns k in record { ok = n.ok; register = choice.Some n.value; next = n.next }

unfoldable pub register_choice_of : ℕ → Numbers → ℕ → RegisterChoiceAt
register_choice_of place ns k = get_or (choice_none k ∷ choice_some ns k ∷ []) place (choice_none k)

unfoldable pub register_choice_at : Numbers → ℕ → RegisterChoiceAt
register_choice_at ns k =
    let place = unsigned_at 1 ns k in
    let rest = register_choice_of place.value ns place.next in
    record { ok = place.ok && rest.ok; register = rest.register; next = rest.next }
