-- Every instruction reads, and what every group reads encodes.
use Rattle.std.specs.Prelude.{ℕ, refl}
use Rattle.std.proofs.Common.{arith}
use Rattle.std.proofs.lemmas.Bool.{false≢true}
use Rattle.isa.specs.declared.RegisterOperation.TheVariants.{ADDA, SUBA, CMPA, MOVEA, CMP, CHK2, CMP2}
use Rattle.isa.specs.declared.TransferOperation.TheVariants.{MOVEP, MOVES}
use Rattle.isa.specs.declared.PairOperation.TheVariants.{MOVE, ADD, SUB, ADDX, SUBX, CMPM, OR, AND, EOR}
use Rattle.isa.specs.declared.UnsizedPairOperation.TheVariants.{ABCD, SBCD, BTST, BCLR, BSET, BCHG}
use Rattle.isa.specs.declared.LinkOperation.TheVariants.{LINK, LINKL}
use Rattle.isa.specs.declared.VectorOperation.TheVariants.{TRAP, BKPT}
use Rattle.isa.specs.declared.StatusOperation.TheVariants.{ANDItoSR, ORItoSR, EORItoSR, STOP}
use Rattle.isa.specs.declared.NoOperandOperation.TheVariants.{RTE, RESET, RTR, TRAPV, ILLEGAL, RTS, NOP, SIMHALT}
use Rattle.isa.specs.declared.Instruction.{Instruction}
use Rattle.isa.specs.declared.Instruction.TheVariants.{IntoRegister, MOVEM, Transfer, Pair, Quick, MOVEQ, ImmediateInto, WordIntoData, SWAP, EXG, UnsizedIntoRegister, UnsizedOne, UnsizedPair, EXT, OneOperand, Bcc, Scc, DBcc, Branch, Link, UNLK, Shift, Vector, Status, ConditionCode, MOVEUSP, Raw, NoOperand, RTD, MOVEC, TRAPcc, MULL, Pack, CAS, CAS2, BF, DIVL}
use Rattle.read_spec.specs.declared.Group.{Group}
use Rattle.read_spec.specs.declared.Group.TheVariants as group
use Rattle.read_laws.specs.Statements.{Reads, Sound}
use Rattle.read_spec.specs.Accepted.{Accepted}
use Rattle.read_laws.specs.FromData.{addx_reads, arithmetic_extended_sound, subx_reads, cmpm_reads, logic_compare_sound, eor_reads, abcd_reads, logic_decimal_sound, sbcd_reads, logic_exchange_sound, exg_reads, pack_reads, logic_pack_sound, add_reads, and_reads, or_reads, sub-reads}
use Rattle.read_laws.specs.Bits.{bit-reads, dynamic_bit-movep_sound, static_bit_sound, condition_code-reads, immediate_into_reads, immediate_into_sound, status_reads, movep-reads}
use Rattle.read_laws.specs.Shift.{bf_reads, bit_field_sound, shift_memory_sound, shift_reads, shift_register_sound}
use Rattle.read_laws.specs.Extension.{bounds-sound, chk2_reads, cmp2_reads, cas_reads, cas_sound, cas2_reads, moves_reads, moves_sound, divl_reads, divl_sound, mull_reads, mull_sound}
use Rattle.read_laws.specs.Control.{bcc_reads, branch_reads, branch_sound, conditional_sound, dbcc_reads, scc_reads, trapcc_reads, moveq_reads, moveq_sound, quick_reads, quick_sound}
use Rattle.read_laws.specs.Miscellaneous.{ext_reads, movem_reads, movem_ext_sound, linkl_reads, nbcd_link_sound, one-operand-reads, one-operand_sound, bkpt_reads, pea_swap_bkpt_sound, swap_reads, chk_sound, lea_extb_sound, unsized_into_register-reads, illegal_reads, unsized-one-reads, unsized-one_illegal_sound}
use Rattle.read_laws.specs.IntoRegister.{adda_reads, cmpa_reads, into_address_sound, suba_reads, cmp_reads, into_data_sound, word_into_data_reads, word_into_data_sound}
use Rattle.read_laws.specs.Move.{move-reads, move_sound, movea_reads}
use Rattle.read_laws.specs.System.{line_a_sound, line_f_sound, raw_reads, link_reads, movec_reads, moveusp_reads, plain-reads, rtd_reads, stop_reads, system_sound, trap_reads, unlk_reads}

pub instruction_reads : (a : ℕ) (i : Instruction) → Accepted a i → Reads a i
instruction_reads a (IntoRegister ADDA o r s) h = adda_reads a o r s h
instruction_reads a (IntoRegister SUBA o r s) h = suba_reads a o r s h
instruction_reads a (IntoRegister CMPA o r s) h = cmpa_reads a o r s h
instruction_reads a (IntoRegister MOVEA o r s) h = movea_reads a o r s h
instruction_reads a (IntoRegister CMP o r s) h = cmp_reads a o r s h
instruction_reads a (IntoRegister CHK2 o r s) h = chk2_reads a o r s h
instruction_reads a (IntoRegister CMP2 o r s) h = cmp2_reads a o r s h
instruction_reads a (MOVEM direction s mask o) h = movem_reads a direction s mask o h
instruction_reads a (Transfer MOVEP direction s r o) h = movep-reads a direction s r o h
instruction_reads a (Transfer MOVES direction s r o) h = moves_reads a direction s r o h
instruction_reads a (Pair MOVE o d s) h = move-reads a o d s h
instruction_reads a (Pair ADD o d s) h = add_reads a o d s h
instruction_reads a (Pair SUB o d s) h = sub-reads a o d s h
instruction_reads a (Pair ADDX o d s) h = addx_reads a o d s h
instruction_reads a (Pair SUBX o d s) h = subx_reads a o d s h
instruction_reads a (Pair CMPM o d s) h = cmpm_reads a o d s h
instruction_reads a (Pair OR o d s) h = or_reads a o d s h
instruction_reads a (Pair AND o d s) h = and_reads a o d s h
instruction_reads a (Pair EOR o d s) h = eor_reads a o d s h
instruction_reads a (Quick op n o s) h = quick_reads a op n o s h
instruction_reads a (MOVEQ v r) h = moveq_reads a v r h
instruction_reads a (ImmediateInto op v o s) h = immediate_into_reads a op v o s h
instruction_reads a (WordIntoData op o r sign) h = word_into_data_reads a op o r sign h
instruction_reads a (SWAP r) h = swap_reads a r h
instruction_reads a (EXG x y) h = exg_reads a x y h
instruction_reads a (UnsizedIntoRegister op o r) h = unsized_into_register-reads a op o r h
instruction_reads a (UnsizedOne op o) h = unsized-one-reads a op o h
instruction_reads a (UnsizedPair ABCD o d) h = abcd_reads a o d h
instruction_reads a (UnsizedPair SBCD o d) h = sbcd_reads a o d h
instruction_reads a (UnsizedPair BTST o d) h = bit-reads a 0 (omega arith) o d h
instruction_reads a (UnsizedPair BCLR o d) h = bit-reads a 2 (omega arith) o d h
instruction_reads a (UnsizedPair BSET o d) h = bit-reads a 3 (omega arith) o d h
instruction_reads a (UnsizedPair BCHG o d) h = bit-reads a 1 (omega arith) o d h
instruction_reads a (EXT r from to) h = ext_reads a r from to h
instruction_reads a (OneOperand op o s) h = one-operand-reads a op o s h
instruction_reads a (Bcc t condition s) h = bcc_reads a t condition s h
instruction_reads a (Scc o condition) h = scc_reads a o condition h
instruction_reads a (DBcc r t condition) h = dbcc_reads a r t condition h
instruction_reads a (Branch op t s) h = branch_reads a op t s h
instruction_reads a (Link LINK r d) h = link_reads a r d h
instruction_reads a (Link LINKL r d) h = linkl_reads a r d h
instruction_reads a (UNLK r) h = unlk_reads a r h
instruction_reads a (Shift op count o direction s) h = shift_reads a op count o direction s h
instruction_reads a (Vector TRAP v) h = trap_reads a v h
instruction_reads a (Vector BKPT v) h = bkpt_reads a v h
instruction_reads a (Status ANDItoSR v) h = status_reads a ANDItoSR v refl h
instruction_reads a (Status ORItoSR v) h = status_reads a ORItoSR v refl h
instruction_reads a (Status EORItoSR v) h = status_reads a EORItoSR v refl h
instruction_reads a (Status STOP v) h = stop_reads a v h
instruction_reads a (ConditionCode op v) h = condition_code-reads a op v h
instruction_reads a (MOVEUSP to r) h = moveusp_reads a to r h
instruction_reads a (Raw op w) h = raw_reads a op w h
instruction_reads a (NoOperand RTE) h = plain-reads a RTE refl h
instruction_reads a (NoOperand RESET) h = plain-reads a RESET refl h
instruction_reads a (NoOperand RTR) h = plain-reads a RTR refl h
instruction_reads a (NoOperand TRAPV) h = plain-reads a TRAPV refl h
instruction_reads a (NoOperand ILLEGAL) h = illegal_reads a h
instruction_reads a (NoOperand RTS) h = plain-reads a RTS refl h
instruction_reads a (NoOperand NOP) h = plain-reads a NOP refl h
instruction_reads a (NoOperand SIMHALT) h = plain-reads a SIMHALT refl h
instruction_reads a (RTD d) h = rtd_reads a d h
instruction_reads a (MOVEC to control r) h = movec_reads a to control r h
instruction_reads a (TRAPcc condition x) h = trapcc_reads a condition x h
instruction_reads a (MULL o low high sign) h = mull_reads a o low high sign h
instruction_reads a (Pack op o d adjustment) h = pack_reads a op o d adjustment h
instruction_reads a (CAS compare update o s) h = cas_reads a compare update o s h
instruction_reads a (CAS2 compare1 compare2 update1 update2 pointer1 pointer2 s) h = cas2_reads a compare1 compare2 update1 update2 pointer1 pointer2 s h
instruction_reads a (BF op o f r) h = bf_reads a op o f r h
instruction_reads a (DIVL o quotient remainder wide sign) h = divl_reads a o quotient remainder wide sign h

pub group_sound : (s : Group) → Sound s
group_sound group.Unused = λ a line x opmode ea hl hx ho he e f h p i r. absurd (false≢true h.0)
group_sound group.ImmediateInto = immediate_into_sound
group_sound group.StaticBit = static_bit_sound
group_sound group.DynamicBitMovep = dynamic_bit-movep_sound
group_sound group.MOVES = moves_sound
group_sound group.Bounds = bounds-sound
group_sound group.CAS = cas_sound
group_sound group.MOVE = move_sound
group_sound group.OneOperand = one-operand_sound
group_sound group.UnsizedOneIllegal = unsized-one_illegal_sound
group_sound group.NbcdLink = nbcd_link_sound
group_sound group.PeaSwapBkpt = pea_swap_bkpt_sound
group_sound group.MovemExt = movem_ext_sound
group_sound group.MULL = mull_sound
group_sound group.DIVL = divl_sound
group_sound group.System = system_sound
group_sound group.LeaExtb = lea_extb_sound
group_sound group.CHK = chk_sound
group_sound group.Quick = quick_sound
group_sound group.Conditional = conditional_sound
group_sound group.Branch = branch_sound
group_sound group.MOVEQ = moveq_sound
group_sound group.IntoData = into_data_sound
group_sound group.ArithmeticExtended = arithmetic_extended_sound
group_sound group.LogicDecimal = logic_decimal_sound
group_sound group.LogicPack = logic_pack_sound
group_sound group.LogicExchange = logic_exchange_sound
group_sound group.LogicCompare = logic_compare_sound
group_sound group.WordIntoData = word_into_data_sound
group_sound group.IntoAddress = into_address_sound
group_sound group.ShiftRegister = shift_register_sound
group_sound group.ShiftMemory = shift_memory_sound
group_sound group.BitField = bit_field_sound
group_sound group.LineA = line_a_sound
group_sound group.LineF = line_f_sound
