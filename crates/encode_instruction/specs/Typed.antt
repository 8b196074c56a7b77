-- An instruction's parts in two: refusal 1 of its operands, which stands before everything else, and the rest. Assumes nothing.
use Rattle.std.specs.Prelude.{◌≡◌, List, [], ◌∷◌, Ok, Err}
use Rattle.std.proofs.Common.{ap, sym, ◌∙◌}
use Rattle.std.proofs.Math.Path.{refl}
use Rattle.isa.specs.declared.Instruction.{Instruction}
use Rattle.isa.specs.declared.Instruction.TheVariants.{IntoRegister, MOVEM, Transfer, Pair, Quick, MOVEQ, ImmediateInto, WordIntoData, SWAP, EXG, UnsizedIntoRegister, UnsizedOne, UnsizedPair, EXT, OneOperand, Bcc, Scc, DBcc, Branch, Link, UNLK, Shift, Vector, Status, ConditionCode, MOVEUSP, Raw, NoOperand, RTD, MOVEC, TRAPcc, MULL, Pack, CAS, CAS2, BF, DIVL}
use Rattle.encode_spec.specs.Item.{Item, Part}
use Rattle.encode_spec.specs.Ea.{typed}
use Rattle.encode_spec.specs.Instruction.{parts_of, register_parts, transfer_parts, pair_parts, word_parts, unsized_register_parts, unsized_one_parts, unsized_pair_parts, one_parts, branches_parts, links_parts, packs_parts}
use Rattle.encode_spec.specs.Movement.{movem_parts, moveq_parts, exg_parts, unlk_parts}
use Rattle.encode_spec.specs.Arithmetic.{immediate_parts, quick_parts, mull_parts, divl_parts, ext_parts, swap_parts}
use Rattle.encode_spec.specs.Logic.{shift_parts}
use Rattle.encode_spec.specs.Bits.{bit_field_parts}
use Rattle.encode_spec.specs.Control.{bcc_parts, dbcc_parts, scc_parts, trapcc_parts, rtd_parts}
use Rattle.encode_spec.specs.System.{status_parts, condition_code_parts, vector_parts, moveusp_parts, movec_parts, cas_parts, cas2_parts, raw_parts, no_operand_parts}
use Rattle.encode_state.specs.declared.Encoder.{Encoder}
use Rattle.encode_state.specs.declared.Refusal.{Refusal}
use Rattle.encode_state.specs.Encoder.{run, run_parts}
use Rattle.encode_state.specs.Laws.{parts_refused}

abbrev pub typed_items : Instruction → List Item
typed_items (IntoRegister op o r s) = typed o ∷ []
typed_items (MOVEM direction s mask o) = typed o ∷ []
typed_items (Transfer op direction s r o) = typed o ∷ []
typed_items (Pair op o d s) = typed o ∷ typed d ∷ []
typed_items (Quick op n o s) = typed o ∷ []
typed_items (MOVEQ v r) = []
typed_items (ImmediateInto op v o s) = typed o ∷ []
typed_items (WordIntoData op o r sign) = typed o ∷ []
typed_items (SWAP r) = []
typed_items (EXG x y) = []
typed_items (UnsizedIntoRegister op o r) = typed o ∷ []
typed_items (UnsizedOne op o) = typed o ∷ []
typed_items (UnsizedPair op o d) = typed o ∷ typed d ∷ []
typed_items (EXT r from to) = []
typed_items (OneOperand op o s) = typed o ∷ []
typed_items (Bcc t condition s) = []
typed_items (Scc o condition) = typed o ∷ []
typed_items (DBcc r t condition) = []
typed_items (Branch op t s) = []
typed_items (Link op r d) = []
typed_items (UNLK r) = []
typed_items (Shift op count o direction s) = typed count ∷ typed o ∷ []
typed_items (Vector op v) = []
typed_items (Status op v) = []
typed_items (ConditionCode op v) = []
typed_items (MOVEUSP to r) = []
typed_items (Raw op w) = []
typed_items (NoOperand op) = []
typed_items (RTD d) = []
typed_items (MOVEC to control_register r) = []
typed_items (TRAPcc condition x) = []
typed_items (MULL o low high sign) = typed o ∷ []
typed_items (Pack op o d adjustment) = typed o ∷ typed d ∷ []
typed_items (CAS compare update o s) = typed o ∷ []
typed_items (CAS2 compare1 compare2 update1 update2 pointer1 pointer2 s) = []
typed_items (BF op o f r) = typed o ∷ []
typed_items (DIVL o quotient remainder wide sign) = typed o ∷ []

abbrev pub parts_after : Instruction → List Part
parts_after (IntoRegister op o r s) = register_parts op o r s
parts_after (MOVEM direction s mask o) = movem_parts direction s mask o
parts_after (Transfer op direction s r o) = transfer_parts op direction s r o
parts_after (Pair op o d s) = pair_parts op o d s
parts_after (Quick op n o s) = quick_parts op n o s
parts_after (MOVEQ v r) = moveq_parts v r
parts_after (ImmediateInto op v o s) = immediate_parts op v o s
parts_after (WordIntoData op o r sign) = word_parts op o r sign
parts_after (SWAP r) = swap_parts r
parts_after (EXG x y) = exg_parts x y
parts_after (UnsizedIntoRegister op o r) = unsized_register_parts op o r
parts_after (UnsizedOne op o) = unsized_one_parts op o
parts_after (UnsizedPair op o d) = unsized_pair_parts op o d
parts_after (EXT r from to) = ext_parts r from to
parts_after (OneOperand op o s) = one_parts op o s
parts_after (Bcc t condition s) = bcc_parts t condition s
parts_after (Scc o condition) = scc_parts o condition
parts_after (DBcc r t condition) = dbcc_parts r t condition
parts_after (Branch op t s) = branches_parts op t s
parts_after (Link op r d) = links_parts op r d
parts_after (UNLK r) = unlk_parts r
parts_after (Shift op count o direction s) = shift_parts op count o direction s
parts_after (Vector op v) = vector_parts op v
parts_after (Status op v) = status_parts op v
parts_after (ConditionCode op v) = condition_code_parts op v
parts_after (MOVEUSP to r) = moveusp_parts to r
parts_after (Raw op w) = raw_parts op w
parts_after (NoOperand op) = no_operand_parts op
parts_after (RTD d) = rtd_parts d
parts_after (MOVEC to control_register r) = movec_parts to control_register r
parts_after (TRAPcc condition x) = trapcc_parts condition x
parts_after (MULL o low high sign) = mull_parts o low high sign
parts_after (Pack op o d adjustment) = packs_parts op o d adjustment
parts_after (CAS compare update o s) = cas_parts compare update o s
parts_after (CAS2 compare1 compare2 update1 update2 pointer1 pointer2 s) = cas2_parts compare1 compare2 update1 update2 pointer1 pointer2 s
parts_after (BF op o f r) = bit_field_parts op o f r
parts_after (DIVL o quotient remainder wide sign) = divl_parts o quotient remainder wide sign

pub typed_first : (i : Instruction) (e : Encoder) → run_parts (parts_of i) (Ok e) ≡ run_parts (parts_after i) (run (typed_items i) (Ok e))
typed_first (IntoRegister op o r s) e = refl
typed_first (MOVEM direction s mask o) e = refl
typed_first (Transfer op direction s r o) e = refl
typed_first (Pair op o d s) e = refl
typed_first (Quick op n o s) e = refl
typed_first (MOVEQ v r) e = refl
typed_first (ImmediateInto op v o s) e = refl
typed_first (WordIntoData op o r sign) e = refl
typed_first (SWAP r) e = refl
typed_first (EXG x y) e = refl
typed_first (UnsizedIntoRegister op o r) e = refl
typed_first (UnsizedOne op o) e = refl
typed_first (UnsizedPair op o d) e = refl
typed_first (EXT r from to) e = refl
typed_first (OneOperand op o s) e = refl
typed_first (Bcc t condition s) e = refl
typed_first (Scc o condition) e = refl
typed_first (DBcc r t condition) e = refl
typed_first (Branch op t s) e = refl
typed_first (Link op r d) e = refl
typed_first (UNLK r) e = refl
typed_first (Shift op count o direction s) e = refl
typed_first (Vector op v) e = refl
typed_first (Status op v) e = refl
typed_first (ConditionCode op v) e = refl
typed_first (MOVEUSP to r) e = refl
typed_first (Raw op w) e = refl
typed_first (NoOperand op) e = refl
typed_first (RTD d) e = refl
typed_first (MOVEC to control_register r) e = refl
typed_first (TRAPcc condition x) e = refl
typed_first (MULL o low high sign) e = refl
typed_first (Pack op o d adjustment) e = refl
typed_first (CAS compare update o s) e = refl
typed_first (CAS2 compare1 compare2 update1 update2 pointer1 pointer2 s) e = refl
typed_first (BF op o f r) e = refl
typed_first (DIVL o quotient remainder wide sign) e = refl

pub passed : (i : Instruction) (e f : Encoder) → Ok f ≡ run (typed_items i) (Ok e) → run_parts (parts_after i) (Ok f) ≡ run_parts (parts_of i) (Ok e)
passed i e f h = ap (run_parts (parts_after i)) h ∙ sym (typed_first i e)

pub refused : (i : Instruction) (e : Encoder) (r : Refusal) → Err r ≡ run (typed_items i) (Ok e) → Err r ≡ run_parts (parts_of i) (Ok e)
refused i e r h = sym (parts_refused (parts_after i) r) ∙ ap (run_parts (parts_after i)) h ∙ sym (typed_first i e)
