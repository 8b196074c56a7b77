-- `operands_of` has every operand of an instruction.
use Rattle.std.specs.Prelude.{◌≡◌, refl, List, [], ◌∷◌, ◌⊎◌}
use Rattle.std.proofs.Common.{inl, inr}
use Rattle.isa.specs.declared.Operand.{Operand}
use Rattle.isa.specs.declared.Instruction.{Instruction}
use Rattle.m68000_spec.specs.Of68000.{operands_of}
use Rattle.m68000_spec.specs.Promises.{HasOperand, into_register_lem, movem, transfer, pair_source, pair_destination, quick, immediate_into_lem, word_into_data_lem, unsized_into_register_lem, unsized-one, unsized_source, unsized_destination, one-operand, scc, shift_count, shift_operand, mull, pack_source, pack_destination, cas, bit_field_lem, divl}

abbrev pub Among : Operand → List Operand → Type 0
Among o [] = ⊥
Among o (x ∷ xs) = (o ≡ x) ⊎ Among o xs

pub among : (o : Operand) (i : Instruction) → HasOperand o i → Among o (operands_of i)
among o _ (into_register_lem op r s) = inl refl
among o _ (movem direction s mask) = inl refl
among o _ (transfer op direction s r) = inl refl
among o _ (pair_source op d s) = inl refl
among o _ (pair_destination op x s) = inr (inl refl)
among o _ (quick op n s) = inl refl
among o _ (immediate_into_lem op v s) = inl refl
among o _ (word_into_data_lem op r sign) = inl refl
among o _ (unsized_into_register_lem op r) = inl refl
among o _ (unsized-one op) = inl refl
among o _ (unsized_source op d) = inl refl
among o _ (unsized_destination op x) = inr (inl refl)
among o _ (one-operand op s) = inl refl
among o _ (scc condition) = inl refl
among o _ (shift_count op x direction s) = inl refl
among o _ (shift_operand op count direction s) = inr (inl refl)
among o _ (mull low high sign) = inl refl
among o _ (pack_source op d adjustment) = inl refl
among o _ (pack_destination op x adjustment) = inr (inl refl)
among o _ (cas compare update s) = inl refl
among o _ (bit_field_lem op f r) = inl refl
among o _ (divl quotient remainder wide sign) = inl refl
