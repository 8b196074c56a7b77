-- 01's cases a to l and N2's, by computation on the definitions.
use Rattle.std.specs.Prelude.{refl}
use Rattle.isa_spec.specs.Field.{holds, ranges}
use Rattle.encode_spec.specs.Encode.{encode_of, size_of}
use Rattle.encode_spec.specs.Ea.{permits, byte_of_address, single, with_address, with_data}
use Rattle.encode_spec.specs.Movement.{move_parts}
use Rattle.encode_spec.specs.Arithmetic.{immediate_parts, quick_parts, mull_parts, swap_parts}
use Rattle.encode_spec.specs.Bits.{dynamic_parts, static_parts, bit_parts, bit_field_parts}
use Rattle.encode_spec.specs.Logic.{shift_parts, shift_register_parts}
use Rattle.encode_spec.specs.Control.{branch_parts}
use Rattle.encode_spec.specs.Instruction.{pair_parts, unsized_register_parts, unsized_one_parts, unsized_pair_parts, one_parts, branches_parts}
use Rattle.encode_spec.specs.Cases.{Table, Negatives}

pub cases : Table
unfolding encode_of size_of holds ranges permits byte_of_address single with_address move_parts quick_parts mull_parts swap_parts bit_field_parts branch_parts pair_parts unsized_register_parts one_parts branches_parts
cases =
    record {
      a = λ at. refl;
      a_0 = λ at. refl;
      a_9 = λ at. refl;
      b = λ at. refl;
      c = λ at. refl;
      d = refl;
      e = refl;
      f = refl;
      f_far = refl;
      f_next = refl;
      f_back = refl;
      g = refl;
      h = λ at. refl;
      h_short = λ at. refl;
      h_long = λ at. refl;
      h_first = λ at. refl;
      i = λ at. refl;
      i_size = refl;
      j = λ at op. refl;
      k = λ at. refl;
      l = λ at. refl;
      l_1 = λ at. refl;
    }

pub negatives : Negatives
unfolding encode_of size_of holds ranges permits byte_of_address single with_data move_parts immediate_parts dynamic_parts static_parts bit_parts shift_parts shift_register_parts pair_parts unsized_register_parts unsized_one_parts unsized_pair_parts
negatives =
    record {
      byte = λ at. refl;
      word = λ at. refl;
      long = λ at. refl;
      byte-lowest = λ at. refl;
      byte-below = λ at. refl;
      byte_top = λ at. refl;
      byte_past = λ at. refl;
      byte-size = refl;
      word-lowest = λ at. refl;
      word_below = λ at. refl;
      word_top = λ at. refl;
      word_past = λ at. refl;
      to_ccr = λ at. refl;
      to_sr = λ at. refl;
      bound-word = λ at. refl;
      bound-long = λ at. refl;
      dynamic_bit_lem = λ at. refl;
      static_bit_lem = λ at. refl;
      count = λ at. refl;
    }
