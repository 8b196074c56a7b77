-- Operands: the variant's place, then its fields.
use Rattle.std.specs.Prelude.{ℕ, ◌-◌, ◌^◌, [], ◌∷◌, ◌&&◌, get_or}
use Rattle.isa.specs.declared.Operand.TheVariants.{Immediate, Register, Indirect, PostIndirect, PreIndirect, IndirectDisplacement, IndirectIndex, PcDisplacement, PcIndex, Extended, Absolute}
use Rattle.numeric_places.specs.declared.Numbers.{Numbers}
use Rattle.numeric_fields.specs.declared.OperandAt.{OperandAt}
use Rattle.numeric_fields.specs.Number.{unsigned_at, signed_at, byte_at, word_at, long_at}
use Rattle.numeric_fields.specs.Part.{register_at, index_at, address_width_at}

-- the fields of each variant, from k on
unfoldable pub immediate_at : Numbers → ℕ → OperandAt
immediate_at ns k =
    let value = long_at ns k in
    record { ok = value.ok; operand = Immediate value.value; next = value.next }

unfoldable pub register_operand_at : Numbers → ℕ → OperandAt
register_operand_at ns k =
    let register = register_at ns k in
    record { ok = register.ok; operand = Register register.register; next = register.next }

unfoldable pub indirect_at : Numbers → ℕ → OperandAt
indirect_at ns k =
    let number = byte_at ns k in
    record { ok = number.ok; operand = Indirect number.value; next = number.next }

unfoldable pub post_indirect_at : Numbers → ℕ → OperandAt
post_indirect_at ns k =
    let number = byte_at ns k in
    record { ok = number.ok; operand = PostIndirect number.value; next = number.next }

unfoldable pub pre_indirect_at : Numbers → ℕ → OperandAt
pre_indirect_at ns k =
    let number = byte_at ns k in
    record { ok = number.ok; operand = PreIndirect number.value; next = number.next }

unfoldable pub indirect_displacement_at : Numbers → ℕ → OperandAt
indirect_displacement_at ns k =
    let offset = signed_at ns k in
    let base = register_at ns offset.next in
    record { ok = offset.ok && base.ok; operand = IndirectDisplacement offset.value base.register; next = base.next }

unfoldable pub indirect_index_at : Numbers → ℕ → OperandAt
indirect_index_at ns k =
    let base = register_at ns k in
    let offset = signed_at ns base.next in
    let index = index_at ns offset.next in
    record {
      ok = base.ok && offset.ok && index.ok;
      operand = IndirectIndex base.register offset.value index.index;
      next = index.next;
    }

unfoldable pub pc_displacement_at : Numbers → ℕ → OperandAt
pc_displacement_at ns k =
    let target = long_at ns k in
    record { ok = target.ok; operand = PcDisplacement target.value; next = target.next }

unfoldable pub pc_index_at : Numbers → ℕ → OperandAt
pc_index_at ns k =
    let target = long_at ns k in
    let index = index_at ns target.next in
    record { ok = target.ok && index.ok; operand = PcIndex target.value index.index; next = index.next }

unfoldable pub extended_at : Numbers → ℕ → OperandAt
extended_at ns k =
    let base = byte_at ns k in
    let word = word_at ns base.next in
    let displacement = signed_at ns word.next in
    let outer = signed_at ns displacement.next in
    record {
      ok = base.ok && word.ok && displacement.ok && outer.ok;
      operand = Extended base.value word.value displacement.value outer.value;
      next = outer.next;
    }

unfoldable pub absolute_at : Numbers → ℕ → OperandAt
absolute_at ns k =
    let address = unsigned_at (2 ^ 64 - 1) ns k in
    let width = address_width_at ns address.next in
    record { ok = address.ok && width.ok; operand = Absolute address.value width.width; next = width.next }

unfoldable pub operand_of : ℕ → Numbers → ℕ → OperandAt
operand_of place ns k =
    get_or
    (immediate_at ns k
    ∷ register_operand_at ns k
    ∷ indirect_at ns k
    ∷ post_indirect_at ns k
    ∷ pre_indirect_at ns k
    ∷ indirect_displacement_at ns k
    ∷ indirect_index_at ns k
    ∷ pc_displacement_at ns k
    ∷ pc_index_at ns k
    ∷ extended_at ns k
    ∷ absolute_at ns k
    ∷ [])
    place
    (immediate_at ns k)

unfoldable pub operand_at : Numbers → ℕ → OperandAt
operand_at ns k =
    let place = unsigned_at 10 ns k in
    let rest = operand_of place.value ns place.next in
    record { ok = place.ok && rest.ok; operand = rest.operand; next = rest.next }
