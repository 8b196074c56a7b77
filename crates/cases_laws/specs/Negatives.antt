-- N2's plain form at work: the numbers that it changes and those that it keeps, and the reading of what was written.
use Rattle.std.specs.Prelude.{◌≡◌, refl, [], ◌∷◌, ℕ}
use Rattle.isa.specs.declared.Size.TheVariants.{Byte, Word, Long}
use Rattle.isa.specs.declared.UnsizedRegisterOperation.TheVariants.{CHK, CHKL}
use Rattle.encode_spec.specs.Cases.{addi, move, bound, dynamic_bit, static_bit, shift_by}
use Rattle.read_spec.specs.Reading.{Read}
use Rattle.read_spec.specs.Plain.{plain}
use Rattle.read_spec.specs.Map.{group_at, map}
use Rattle.read_spec.specs.Read.{read_of}

changed : (plain (addi 4294967295 Byte) ≡ addi 255 Byte) × (plain (move 4294934528 Word) ≡ move 32768 Word) × (plain (dynamic_bit 4294967168) ≡ dynamic_bit 128)
    × (plain (bound CHK 4294967295) ≡ bound CHK 65535)
changed = (refl, refl, refl, refl)

kept : (plain (addi 256 Byte) ≡ addi 256 Byte) × (plain (addi 4294967295 Long) ≡ addi 4294967295 Long)
    × (plain (bound CHKL 4294967295) ≡ bound CHKL 4294967295) × (plain (static_bit 4294967295) ≡ static_bit 4294967295)
    × (plain (shift_by 4294967295) ≡ shift_by 4294967295)
kept = (refl, refl, refl, refl, refl)

readings : (at : ℕ) → (read_of (0x0600 ∷ 0x00FF ∷ []) at ≡ Read (addi 255 Byte) 4) × (read_of (0x303C ∷ 0x8000 ∷ []) at ≡ Read (move 32768 Word) 4)
unfolding read_of group_at map
readings at = (refl, refl)
