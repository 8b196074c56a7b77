-- Each instruction as its parts. Refusal 1 stands before everything else.
use Rattle.std.specs.Prelude.{ℕ, ◌+◌, ◌*◌, true, false, List, [], ◌∷◌}
use Rattle.isa.specs.declared.Size.{Size}
use Rattle.isa.specs.declared.Size.TheVariants.{Word}
use Rattle.isa.specs.declared.Sign.{Sign}
use Rattle.isa.specs.declared.TargetDirection.{TargetDirection}
use Rattle.isa.specs.declared.BranchSize.{BranchSize}
use Rattle.isa.specs.declared.Condition.TheVariants.{True, False}
use Rattle.isa.specs.declared.RegisterOperand.{RegisterOperand}
use Rattle.isa.specs.declared.Operand.{Operand}
use Rattle.isa.specs.declared.RegisterOperation.{RegisterOperation}
use Rattle.isa.specs.declared.RegisterOperation.TheVariants.{ADDA, SUBA, CMPA, MOVEA, CMP, CHK2, CMP2}
use Rattle.isa.specs.declared.TransferOperation.{TransferOperation}
use Rattle.isa.specs.declared.TransferOperation.TheVariants.{MOVEP, MOVES}
use Rattle.isa.specs.declared.PairOperation.{PairOperation}
use Rattle.isa.specs.declared.PairOperation.TheVariants.{MOVE, ADD, SUB, ADDX, SUBX, CMPM, OR, AND, EOR}
use Rattle.isa.specs.declared.WordOperation.{WordOperation}
use Rattle.isa.specs.declared.WordOperation.TheVariants.{DIVx, MULx}
use Rattle.isa.specs.declared.UnsizedRegisterOperation.{UnsizedRegisterOperation}
use Rattle.isa.specs.declared.UnsizedRegisterOperation.TheVariants.{LEA, CHK, CHKL}
use Rattle.isa.specs.declared.UnsizedOneOperation.{UnsizedOneOperation}
use Rattle.isa.specs.declared.UnsizedOneOperation.TheVariants.{PEA, NBCD, JSR, JMP, TAS, MOVEtoCCR, MOVEfromCCR, MOVEtoSR, MOVEfromSR}
use Rattle.isa.specs.declared.UnsizedPairOperation.{UnsizedPairOperation}
use Rattle.isa.specs.declared.UnsizedPairOperation.TheVariants.{ABCD, SBCD, BTST, BCLR, BSET, BCHG}
use Rattle.isa.specs.declared.OneOperation.{OneOperation}
use Rattle.isa.specs.declared.OneOperation.TheVariants.{CLR, NEG, NEGX, NOT, TST}
use Rattle.isa.specs.declared.PackOperation.{PackOperation}
use Rattle.isa.specs.declared.PackOperation.TheVariants.{PACK, UNPK}
use Rattle.isa.specs.declared.BranchOperation.{BranchOperation}
use Rattle.isa.specs.declared.BranchOperation.TheVariants.{BRA, BSR}
use Rattle.isa.specs.declared.LinkOperation.{LinkOperation}
use Rattle.isa.specs.declared.LinkOperation.TheVariants.{LINK, LINKL}
use Rattle.isa.specs.declared.Instruction.{Instruction}
use Rattle.isa.specs.declared.Instruction.TheVariants.{IntoRegister, MOVEM, Transfer, Pair, Quick, MOVEQ, ImmediateInto, WordIntoData, SWAP, EXG, UnsizedIntoRegister, UnsizedOne, UnsizedPair, EXT, OneOperand, Bcc, Scc, DBcc, Branch, Link, UNLK, Shift, Vector, Status, ConditionCode, MOVEUSP, Raw, NoOperand, RTD, MOVEC, TRAPcc, MULL, Pack, CAS, CAS2, BF, DIVL}
use Rattle.encode_spec.specs.Item.{Part, fixed}
use Rattle.isa_spec.specs.Code.{unsized_size, unsized_register_size, size_code}
use Rattle.isa_spec.specs.Mode.{data_column, control_column}
use Rattle.encode_spec.specs.Ea.{data_alterable, typed, single, with_data, with_address, from_data}
use Rattle.encode_spec.specs.Movement.{move_parts, movea_parts, movem_parts, movep_parts, moveq_parts, exg_parts, link_parts, linkl_parts, unlk_parts}
use Rattle.encode_spec.specs.Arithmetic.{immediate_parts, quick_parts, into_data_parts, arithmetic_parts, into_address_parts, bounds_parts, extended_parts, cmpm_parts, signed_bit, mull_parts, divl_parts, tst_parts, ext_parts, swap_parts}
use Rattle.encode_spec.specs.Logic.{logical_parts, shift_parts}
use Rattle.encode_spec.specs.Bits.{bit_parts, bit_field_parts, pack_parts}
use Rattle.encode_spec.specs.Control.{branch_parts, bcc_parts, dbcc_parts, scc_parts, trapcc_parts, rtd_parts}
use Rattle.encode_spec.specs.System.{status_parts, condition_code_parts, vector_parts, moveusp_parts, movec_parts, moves_parts, cas_parts, cas2_parts, raw_parts, no_operand_parts}

unfoldable pub register_parts : RegisterOperation → Operand → RegisterOperand → Size → List Part
register_parts ADDA o r s = into_address_parts 13 44 o r s
register_parts SUBA o r s = into_address_parts 9 37 o r s
register_parts CMPA o r s = into_address_parts 11 40 o r s
register_parts MOVEA o r s = movea_parts o r s
register_parts CMP o r s = into_data_parts 11 39 o r s
register_parts CHK2 o r s = bounds_parts true o r s
register_parts CMP2 o r s = bounds_parts false o r s

unfoldable pub transfer_parts : TransferOperation → TargetDirection → Size → RegisterOperand → Operand → List Part
transfer_parts MOVEP direction s r o = movep_parts direction s r o
transfer_parts MOVES direction s r o = moves_parts direction s r o

unfoldable pub pair_parts : PairOperation → Operand → Operand → Size → List Part
pair_parts MOVE o d s = move_parts o d s
pair_parts ADD o d s = arithmetic_parts 13 o d s
pair_parts SUB o d s = arithmetic_parts 9 o d s
pair_parts ADDX o d s = extended_parts 13 (4 + size_code s) o d
pair_parts SUBX o d s = extended_parts 9 (4 + size_code s) o d
pair_parts CMPM o d s = cmpm_parts o d s
pair_parts OR o d s = logical_parts 8 o d s
pair_parts AND o d s = logical_parts 12 o d s
pair_parts EOR o d s = from_data 11 data_alterable 42 o d s

unfoldable pub word_parts : WordOperation → Operand → RegisterOperand → Sign → List Part
word_parts DIVx o r sign = with_data 8 r (3 + 4 * signed_bit sign) o Word data_column 29
word_parts MULx o r sign = with_data 12 r (3 + 4 * signed_bit sign) o Word data_column 28

unfoldable pub unsized_register_parts : UnsizedRegisterOperation → Operand → RegisterOperand → List Part
unsized_register_parts LEA o r = with_address 4 r 7 o (unsized_register_size LEA) control_column 34
unsized_register_parts CHK o r = with_data 4 r 6 o (unsized_register_size CHK) data_column 27
unsized_register_parts CHKL o r = with_data 4 r 4 o (unsized_register_size CHKL) data_column 27

unfoldable pub unsized_one_parts : UnsizedOneOperation → Operand → List Part
unsized_one_parts PEA o = single 4 4 1 o (unsized_size PEA) control_column 18
unsized_one_parts NBCD o = single 4 4 0 o (unsized_size NBCD) data_alterable 17
unsized_one_parts JSR o = single 4 7 2 o (unsized_size JSR) control_column 25
unsized_one_parts JMP o = single 4 7 3 o (unsized_size JMP) control_column 26
unsized_one_parts TAS o = single 4 5 3 o (unsized_size TAS) data_alterable 23
unsized_one_parts MOVEtoCCR o = single 4 2 3 o (unsized_size MOVEtoCCR) data_column 15
unsized_one_parts MOVEfromCCR o = single 4 1 3 o (unsized_size MOVEfromCCR) data_alterable 14
unsized_one_parts MOVEtoSR o = single 4 3 3 o (unsized_size MOVEtoSR) data_column 16
unsized_one_parts MOVEfromSR o = single 4 0 3 o (unsized_size MOVEfromSR) data_alterable 13

unfoldable pub unsized_pair_parts : UnsizedPairOperation → Operand → Operand → List Part
unsized_pair_parts ABCD o d = extended_parts 12 4 o d
unsized_pair_parts SBCD o d = extended_parts 8 4 o d
unsized_pair_parts BTST o d = bit_parts 0 o d
unsized_pair_parts BCLR o d = bit_parts 2 o d
unsized_pair_parts BSET o d = bit_parts 3 o d
unsized_pair_parts BCHG o d = bit_parts 1 o d

unfoldable pub one_parts : OneOperation → Operand → Size → List Part
one_parts CLR o s = single 4 1 (size_code s) o s data_alterable 54
one_parts NEG o s = single 4 2 (size_code s) o s data_alterable 54
one_parts NEGX o s = single 4 0 (size_code s) o s data_alterable 54
one_parts NOT o s = single 4 3 (size_code s) o s data_alterable 54
one_parts TST o s = tst_parts o s

unfoldable pub branches_parts : BranchOperation → ℕ → BranchSize → List Part
branches_parts BRA t s = branch_parts True t s
branches_parts BSR t s = branch_parts False t s

unfoldable pub links_parts : LinkOperation → RegisterOperand → ℕ → List Part
links_parts LINK r d = link_parts r d
links_parts LINKL r d = linkl_parts r d

unfoldable pub packs_parts : PackOperation → Operand → Operand → ℕ → List Part
packs_parts PACK o d adjustment = pack_parts 5 o d adjustment
packs_parts UNPK o d adjustment = pack_parts 6 o d adjustment

-- refusal 1 of one operand, and of two
abbrev pub typed_one : Operand → Part
typed_one o = fixed (typed o ∷ [])

abbrev pub typed_two : Operand → Operand → Part
typed_two o d = fixed (typed o ∷ typed d ∷ [])

abbrev pub parts_of : Instruction → List Part
parts_of (IntoRegister op o r s) = typed_one o ∷ register_parts op o r s
parts_of (MOVEM direction s mask o) = typed_one o ∷ movem_parts direction s mask o
parts_of (Transfer op direction s r o) = typed_one o ∷ transfer_parts op direction s r o
parts_of (Pair op o d s) = typed_two o d ∷ pair_parts op o d s
parts_of (Quick op n o s) = typed_one o ∷ quick_parts op n o s
parts_of (MOVEQ v r) = moveq_parts v r
parts_of (ImmediateInto op v o s) = typed_one o ∷ immediate_parts op v o s
parts_of (WordIntoData op o r sign) = typed_one o ∷ word_parts op o r sign
parts_of (SWAP r) = swap_parts r
parts_of (EXG x y) = exg_parts x y
parts_of (UnsizedIntoRegister op o r) = typed_one o ∷ unsized_register_parts op o r
parts_of (UnsizedOne op o) = typed_one o ∷ unsized_one_parts op o
parts_of (UnsizedPair op o d) = typed_two o d ∷ unsized_pair_parts op o d
parts_of (EXT r from to) = ext_parts r from to
parts_of (OneOperand op o s) = typed_one o ∷ one_parts op o s
parts_of (Bcc t condition s) = bcc_parts t condition s
parts_of (Scc o condition) = typed_one o ∷ scc_parts o condition
parts_of (DBcc r t condition) = dbcc_parts r t condition
parts_of (Branch op t s) = branches_parts op t s
parts_of (Link op r d) = links_parts op r d
parts_of (UNLK r) = unlk_parts r
parts_of (Shift op count o direction s) = typed_two count o ∷ shift_parts op count o direction s
parts_of (Vector op v) = vector_parts op v
parts_of (Status op v) = status_parts op v
parts_of (ConditionCode op v) = condition_code_parts op v
parts_of (MOVEUSP to r) = moveusp_parts to r
parts_of (Raw op w) = raw_parts op w
parts_of (NoOperand op) = no_operand_parts op
parts_of (RTD d) = rtd_parts d
parts_of (MOVEC to control_register r) = movec_parts to control_register r
parts_of (TRAPcc condition x) = trapcc_parts condition x
parts_of (MULL o low high sign) = typed_one o ∷ mull_parts o low high sign
parts_of (Pack op o d adjustment) = typed_two o d ∷ packs_parts op o d adjustment
parts_of (CAS compare update o s) = typed_one o ∷ cas_parts compare update o s
parts_of (CAS2 compare1 compare2 update1 update2 pointer1 pointer2 s) = cas2_parts compare1 compare2 update1 update2 pointer1 pointer2 s
parts_of (BF op o f r) = typed_one o ∷ bit_field_parts op o f r
parts_of (DIVL o quotient remainder wide sign) = typed_one o ∷ divl_parts o quotient remainder wide sign
