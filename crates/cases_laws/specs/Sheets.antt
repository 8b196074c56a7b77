-- The definitions at work: 01's sheet, its cases of START, and N2's.
use Rattle.std.specs.Prelude.{◌≡◌, refl, true, List, [], ◌∷◌, ℕ, pos}
use Rattle.encode_spec.specs.Encode.{encode_of, size_of}
use Rattle.isa_spec.specs.Field.{ranges, holds}
use Rattle.encode_spec.specs.Ea.{permits, byte_of_address, single}
use Rattle.encode_spec.specs.Movement.{move_parts, moveq_parts}
use Rattle.encode_spec.specs.Arithmetic.{immediate_parts, quick_parts}
use Rattle.encode_spec.specs.Instruction.{pair_parts}
use Rattle.encode_spec.specs.Control.{branch_parts, bcc_parts}
use Rattle.encode_spec.specs.System.{no_operand_parts}
use Rattle.numeric_spec.specs.Value.{register_by_place}
use Rattle.numeric_spec.specs.Take.{take_unsigned, take_register, operand_payloads, take_operand}
use Rattle.numeric_spec.specs.Build.{take_instruction, built_of}
use Rattle.sheet_spec.specs.Names.{bytes}
use Rattle.sheet_spec.specs.Line.{line_of}
use Rattle.sheet_spec.specs.Made.{made}
use Rattle.sheet_spec.specs.Sheet.{sized_of, sheet_in, addresses, image}
use Rattle.sheet_spec.specs.Translate.{full, in_order, refused, outcome_at, outcome_of, same_at, same}

abbrev countdown : List ℕ
countdown = bytes "START\t4096\nMOVEQ\t5\tData\t0\nSUBQ\t1\tRegister\tData\t0\tWord\nBcc\t@2\tNotEqual\tShort\nRTS\n"

listed : (outcome_of full countdown 4096 16384 ≡ in_order) × (image (sheet_in countdown) ≡ 0x7005 ∷ 0x5340 ∷ 0x66FC ∷ 0x4E75 ∷ []) × (addresses (sheet_in countdown) ≡ 4096 ∷ 4098 ∷ 4100 ∷ 4102 ∷ [])
unfolding outcome_at sized_of made line_of built_of take_instruction take_unsigned register_by_place take_register operand_payloads take_operand encode_of size_of moveq_parts quick_parts branch_parts bcc_parts no_operand_parts permits byte_of_address single ranges holds
listed = (refl, refl, refl)

-- the last word below 2^32, and one word beyond; an odd start
starts : (outcome_of full (bytes "START\t4294967294\nNOP\n") 4096 16384 ≡ in_order)
    × (outcome_of full (bytes "START\t4294967294\nNOP\nNOP\n") 4096 16384 ≡ refused 9 0 0 (pos 0))
    × (outcome_of full (bytes "START\t4097\nNOP\n") 4096 16384 ≡ refused 9 0 0 (pos 0))
    × (outcome_of full (bytes "START\t4294967296\nNOP\n") 4096 16384 ≡ refused 7 0 0 (pos 0))
unfolding outcome_at sized_of made line_of built_of take_instruction take_unsigned encode_of size_of no_operand_parts
starts = (refl, refl, refl, refl)

-- scratch and image one short; a branch that names no line, and one by a distance of 0, which a short branch cannot hold
refusals : (outcome_of full countdown 3 16384 ≡ refused 11 0 0 (pos 0)) × (outcome_of full countdown 4096 3 ≡ refused 11 0 0 (pos 0))
    × (outcome_of full (bytes "START\t4096\nNOP\nBcc\t@0\tEqual\tShort\n") 4096 16384 ≡ refused 8 2 0 (pos 0))
    × (outcome_of full (bytes "START\t4096\nNOP\nBcc\t@3\tEqual\tShort\nNOP\n") 4096 16384 ≡ refused 2 2 1 (pos 0))
    × (outcome_of full (bytes "START\t4096\nNOP") 4096 16384 ≡ refused 10 0 0 (pos 0))
unfolding outcome_at sized_of made line_of built_of take_instruction take_unsigned register_by_place take_register operand_payloads take_operand encode_of size_of moveq_parts quick_parts branch_parts bcc_parts no_operand_parts permits byte_of_address single ranges holds
refusals = (refl, refl, refl, refl, refl)

-- -1 as a byte and -32768 as a word (02, N2), and the same firing with their remainders
abbrev below_zero : List ℕ
below_zero = bytes "START\t4096\nADDI\t4294967295\tRegister\tData\t0\tByte\nMOVE\tImmediate\t4294934528\tRegister\tData\t0\tWord\n"

abbrev as_remainders : List ℕ
as_remainders = bytes "START\t4096\nADDI\t255\tRegister\tData\t0\tByte\nMOVE\tImmediate\t32768\tRegister\tData\t0\tWord\n"

negative : (outcome_of full below_zero 4096 16384 ≡ in_order)
    × (image (sheet_in below_zero) ≡ 0x0600 ∷ 0x00FF ∷ 0x303C ∷ 0x8000 ∷ [])
    × (same below_zero as_remainders ≡ true)
    × (outcome_of full (bytes "START\t4096\nNOP\nMOVE\tImmediate\t4294967167\tRegister\tData\t0\tByte\n") 4096 16384 ≡ refused 2 2 9 (pos 4294967167))
    × (outcome_of full (bytes "START\t4096\nNOP\nADDI\t4294934527\tRegister\tData\t0\tWord\n") 4096 16384 ≡ refused 2 2 9 (pos 4294934527))
unfolding same_at outcome_at sized_of made line_of built_of take_instruction take_unsigned register_by_place take_register operand_payloads take_operand encode_of size_of immediate_parts move_parts pair_parts no_operand_parts permits byte_of_address ranges holds
negative = (refl, refl, refl, refl, refl)
