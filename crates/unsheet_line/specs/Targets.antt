-- In a field of a target an instruction has no signed number. Assumes nothing.
use Rattle.std.specs.Prelude.{ℕ, List, [], ◌∷◌, ◌++◌, nat_abs}
use Rattle.std.proofs.Common.{append_assoc, append-nil}
use Rattle.isa.specs.declared.RegisterOperand.{RegisterOperand}
use Rattle.isa.specs.declared.RegisterOperand.TheVariants.{Address, Data}
use Rattle.isa.specs.declared.IndexRegister.{IndexRegister}
use Rattle.isa.specs.declared.FieldValue.{FieldValue}
use Rattle.isa.specs.declared.FieldValue.TheVariants as value
use Rattle.isa.specs.declared.TrapOperand.{TrapOperand}
use Rattle.isa.specs.declared.TrapOperand.TheVariants as trap
use Rattle.std.specs.declared.option.Option.{Option}
use Rattle.std.specs.declared.option.Option.TheVariants as choice
use Rattle.isa.specs.declared.Operand.{Operand}
use Rattle.isa.specs.declared.Operand.TheVariants.{Immediate, Register, Indirect, PostIndirect, PreIndirect, IndirectDisplacement, IndirectIndex, PcDisplacement, PcIndex, Extended, Absolute}
use Rattle.isa.specs.declared.RegisterOperation.TheVariants.{ADDA, SUBA, CMPA, MOVEA, CMP, CHK2, CMP2}
use Rattle.isa.specs.declared.TransferOperation.TheVariants.{MOVEP, MOVES}
use Rattle.isa.specs.declared.PairOperation.TheVariants.{MOVE, ADD, SUB, ADDX, SUBX, CMPM, OR, AND, EOR}
use Rattle.isa.specs.declared.QuickOperation.TheVariants.{ADDQ, SUBQ}
use Rattle.isa.specs.declared.ImmediateOperation.TheVariants.{ADDI, SUBI, ANDI, ORI, EORI, CMPI}
use Rattle.isa.specs.declared.WordOperation.TheVariants.{DIVx, MULx}
use Rattle.isa.specs.declared.UnsizedRegisterOperation.TheVariants.{LEA, CHK, CHKL}
use Rattle.isa.specs.declared.UnsizedOneOperation.TheVariants.{PEA, NBCD, JSR, JMP, TAS, MOVEtoCCR, MOVEfromCCR, MOVEtoSR, MOVEfromSR}
use Rattle.isa.specs.declared.UnsizedPairOperation.TheVariants.{ABCD, SBCD, BTST, BCLR, BSET, BCHG}
use Rattle.isa.specs.declared.OneOperation.TheVariants.{CLR, NEG, NEGX, NOT, TST}
use Rattle.isa.specs.declared.ShiftOperation.TheVariants.{ASd, ROd, LSd, ROXd}
use Rattle.isa.specs.declared.PackOperation.TheVariants.{PACK, UNPK}
use Rattle.isa.specs.declared.BranchOperation.TheVariants.{BRA, BSR}
use Rattle.isa.specs.declared.LinkOperation.TheVariants.{LINK, LINKL}
use Rattle.isa.specs.declared.StatusOperation.TheVariants.{ANDItoSR, ORItoSR, EORItoSR, STOP}
use Rattle.isa.specs.declared.ConditionCodeOperation.TheVariants.{ANDItoCCR, ORItoCCR, EORItoCCR}
use Rattle.isa.specs.declared.VectorOperation.TheVariants.{TRAP, BKPT}
use Rattle.isa.specs.declared.RawOperation.TheVariants.{LINEA, LINEF, IllegalWord}
use Rattle.isa.specs.declared.NoOperandOperation.TheVariants.{RTE, RESET, RTR, TRAPV, ILLEGAL, RTS, NOP, SIMHALT}
use Rattle.numeric_spec.specs.Payload.{register_form, field_value_form, trap_operand_form, register_choice_form, operand_form}
use Rattle.isa.specs.declared.Instruction.{Instruction}
use Rattle.isa.specs.declared.Instruction.TheVariants.{IntoRegister, MOVEM, Transfer, Pair, Quick, MOVEQ, ImmediateInto, WordIntoData, SWAP, EXG, UnsizedIntoRegister, UnsizedOne, UnsizedPair, EXT, OneOperand, Bcc, Scc, DBcc, Branch, Link, UNLK, Shift, Vector, Status, ConditionCode, MOVEUSP, Raw, NoOperand, RTD, MOVEC, TRAPcc, MULL, Pack, CAS, CAS2, BF, DIVL}
use Rattle.numeric_spec.specs.Entry.{Entry, unsigned, signed, entry_number}
use Rattle.numeric_spec.specs.Payload.{size_form, register_form, index_form, field_value_form, trap_operand_form, register_choice_form, operand_form}
use Rattle.numeric_spec.specs.Form.{place_of, payload_of, form_of}
use Rattle.sheet_spec.specs.declared.Kind.{Kind}
use Rattle.sheet_spec.specs.declared.Kind.TheVariants as kind
use Rattle.sheet_spec.specs.Line.{by_kind}
use Rattle.sheet_spec.specs.Grammar.{kinds_of}

abbrev pub Unsigned : Entry → Type 0
Unsigned (unsigned top n) = Unit {0}
Unsigned (signed z) = ⊥

-- what may stand in a field of a kind
abbrev pub Target : Kind → Entry → Type 0
Target k e = by_kind k (Unit {0}) (Unsigned e) (Unsigned e) (Unit {0})

-- the kinds after an entry
abbrev pub kinds_past : Kind → Entry → List Kind → List Kind
kinds_past k e ks = kinds_of k (nat_abs (entry_number e)) ++ ks

-- entries against kinds, as far as both go
pub data Targets : List Kind → List Entry → Type 0 where
  done : {ks : List Kind} → Targets ks []
  none : {e : Entry} {es : List Entry} → Targets [] (e ∷ es)
  field : {k : Kind} {ks : List Kind} {e : Entry} {es : List Entry} → Target k e → Targets (kinds_past k e ks) es → Targets (k ∷ ks) (e ∷ es)

-- ---- a value before other entries
register : {ks : List Kind} {es : List Entry} (r : RegisterOperand) → Targets ks es → Targets (kind.RegisterOperand ∷ ks) (register_form r ++ es)
register (Address n) h = field tt (field tt h)
register (Data n) h = field tt (field tt h)

module _ {ks : List Kind} {es : List Entry} where
  index : (x : IndexRegister) → Targets ks es → Targets (kind.RegisterOperand ∷ kind.Size ∷ ks) (index_form x ++ es)
  index x h =
      let r : Targets (kind.RegisterOperand ∷ kind.Size ∷ ks) (register_form x.register ++ (size_form x.size ++ es)) = register x.register (field tt h) in
      rw (← append_assoc (register_form x.register) (size_form x.size) es) at r

  extent : (v : FieldValue) → Targets ks es → Targets (kind.FieldValue ∷ ks) (field_value_form v ++ es)
  extent (value.Immediate n) h = field tt (field tt h)
  extent (value.Register n) h = field tt (field tt h)

  trapped : (x : TrapOperand) → Targets ks es → Targets (kind.TrapOperand ∷ ks) (trap_operand_form x ++ es)
  trapped trap.None h = field tt h
  trapped (trap.Word n) h = field tt (field tt h)
  trapped (trap.Long n) h = field tt (field tt h)

  chosen : (x : Option ℕ) → Targets ks es → Targets (kind.RegisterChoice ∷ ks) (register_choice_form x ++ es)
  chosen choice.None h = field tt h
  chosen (choice.Some n) h = field tt (field tt h)

operand : {ks : List Kind} {es : List Entry} (o : Operand) → Targets ks es → Targets (kind.Operand ∷ ks) (operand_form o ++ es)
operand (Immediate v) h = field tt (field tt h)
operand (Register r) h = field tt (register r h)
operand (Indirect n) h = field tt (field tt h)
operand (PostIndirect n) h = field tt (field tt h)
operand (PreIndirect n) h = field tt (field tt h)
operand (IndirectDisplacement z base) h = field tt (field tt (register base h))
operand (IndirectIndex (Address n) z x) h = field tt (field tt (field tt (field tt (index x h))))
operand (IndirectIndex (Data n) z x) h = field tt (field tt (field tt (field tt (index x h))))
operand (PcDisplacement t) h = field tt (field tt h)
operand (PcIndex t x) h = field tt (field tt (index x h))
operand (Extended base w z outer) h = field tt (field tt (field tt (field tt (field tt h))))
operand (Absolute a w) h = field tt (field tt (field tt h))

-- ---- the last value
register-last : (r : RegisterOperand) → Targets (kind.RegisterOperand ∷ []) (register_form r)
register-last r = rw append-nil at (register {ks = []} r done)

operand-last : (o : Operand) → Targets (kind.Operand ∷ []) (operand_form o)
operand-last o = rw append-nil at (operand {ks = []} o done)

trapped-last : (x : TrapOperand) → Targets (kind.TrapOperand ∷ []) (trap_operand_form x)
trapped-last x = rw append-nil at (trapped {ks = []} x done)

-- ---- an instruction
payload_targets : (i : Instruction) → Targets (kinds_of kind.Instruction (place_of i)) (payload_of i)
payload_targets (IntoRegister op o r s) =
    let t : Targets (kinds_of kind.Instruction 0) (payload_of (IntoRegister op o r s)) = simp append_assoc (operand o (register r (field tt done))) in
    elim op as (λ k. Targets (kinds_of kind.Instruction (place_of (IntoRegister k o r s))) (payload_of (IntoRegister k o r s))) [ ADDA ↦ t | SUBA ↦ t | CMPA ↦ t | MOVEA ↦ t | CMP ↦ t | CHK2 ↦ t | CMP2 ↦ t ]
payload_targets (MOVEM d s v o) = field tt (field tt (field tt (operand-last o)))
payload_targets (Transfer op d s r o) =
    let t : Targets (kinds_of kind.Instruction 63) (payload_of (Transfer op d s r o)) = field tt (field tt (register r (operand-last o))) in
    elim op as (λ k. Targets (kinds_of kind.Instruction (place_of (Transfer k d s r o))) (payload_of (Transfer k d s r o))) [ MOVEP ↦ t | MOVES ↦ t ]
payload_targets (Pair op o d s) =
    let t : Targets (kinds_of kind.Instruction 5) (payload_of (Pair op o d s)) = simp append_assoc (operand o (operand d (field tt done))) in
    elim op as (λ k. Targets (kinds_of kind.Instruction (place_of (Pair k o d s))) (payload_of (Pair k o d s))) [ MOVE ↦ t | ADD ↦ t | SUB ↦ t | ADDX ↦ t | SUBX ↦ t | CMPM ↦ t | OR ↦ t | AND ↦ t | EOR ↦ t ]
payload_targets (Quick op v o s) =
    let t : Targets (kinds_of kind.Instruction 10) (payload_of (Quick op v o s)) = field tt (operand o (field tt done)) in
    elim op as (λ k. Targets (kinds_of kind.Instruction (place_of (Quick k v o s))) (payload_of (Quick k v o s))) [ ADDQ ↦ t | SUBQ ↦ t ]
payload_targets (MOVEQ v r) = field tt (register-last r)
payload_targets (ImmediateInto op v o s) =
    let t : Targets (kinds_of kind.Instruction 13) (payload_of (ImmediateInto op v o s)) = field tt (operand o (field tt done)) in
    elim op as (λ k. Targets (kinds_of kind.Instruction (place_of (ImmediateInto k v o s))) (payload_of (ImmediateInto k v o s))) [ ADDI ↦ t | SUBI ↦ t | ANDI ↦ t | ORI ↦ t | EORI ↦ t | CMPI ↦ t ]
payload_targets (WordIntoData op o r g) =
    let t : Targets (kinds_of kind.Instruction 20) (payload_of (WordIntoData op o r g)) = simp append_assoc (operand o (register r (field tt done))) in
    elim op as (λ k. Targets (kinds_of kind.Instruction (place_of (WordIntoData k o r g))) (payload_of (WordIntoData k o r g))) [ DIVx ↦ t | MULx ↦ t ]
payload_targets (SWAP r) = register-last r
payload_targets (EXG r q) = register r (register-last q)
payload_targets (UnsizedIntoRegister op o r) =
    let t : Targets (kinds_of kind.Instruction 25) (payload_of (UnsizedIntoRegister op o r)) = operand o (register-last r) in
    elim op as (λ k. Targets (kinds_of kind.Instruction (place_of (UnsizedIntoRegister k o r))) (payload_of (UnsizedIntoRegister k o r))) [ LEA ↦ t | CHK ↦ t | CHKL ↦ t ]
payload_targets (UnsizedOne op o) = elim op as (λ k. Targets (kinds_of kind.Instruction (place_of (UnsizedOne k o))) (payload_of (UnsizedOne k o))) [ PEA ↦ operand-last o | NBCD ↦ operand-last o | JSR ↦ operand-last o | JMP ↦ operand-last o | TAS ↦ operand-last o | MOVEtoCCR ↦ operand-last o | MOVEfromCCR ↦ operand-last o | MOVEtoSR ↦ operand-last o | MOVEfromSR ↦ operand-last o ]
payload_targets (UnsizedPair op o d) =
    let t : Targets (kinds_of kind.Instruction 29) (payload_of (UnsizedPair op o d)) = operand o (operand-last d) in
    elim op as (λ k. Targets (kinds_of kind.Instruction (place_of (UnsizedPair k o d))) (payload_of (UnsizedPair k o d))) [ ABCD ↦ t | SBCD ↦ t | BTST ↦ t | BCLR ↦ t | BSET ↦ t | BCHG ↦ t ]
payload_targets (EXT r s q) = simp append_assoc (register r (field tt (field tt done)))
payload_targets (OneOperand op o s) =
    let t : Targets (kinds_of kind.Instruction 23) (payload_of (OneOperand op o s)) = operand o (field tt done) in
    elim op as (λ k. Targets (kinds_of kind.Instruction (place_of (OneOperand k o s))) (payload_of (OneOperand k o s))) [ CLR ↦ t | NEG ↦ t | NEGX ↦ t | NOT ↦ t | TST ↦ t ]
payload_targets (Bcc t c s) = field tt (field tt (field tt done))
payload_targets (Scc o c) = operand o (field tt done)
payload_targets (DBcc r t c) = simp append_assoc (register r (field tt (field tt done)))
payload_targets (Branch op v s) =
    let t : Targets (kinds_of kind.Instruction 38) (payload_of (Branch op v s)) = field tt (field tt done) in
    elim op as (λ k. Targets (kinds_of kind.Instruction (place_of (Branch k v s))) (payload_of (Branch k v s))) [ BRA ↦ t | BSR ↦ t ]
payload_targets (Link op r v) =
    let t : Targets (kinds_of kind.Instruction 39) (payload_of (Link op r v)) = register r (field tt done) in
    elim op as (λ k. Targets (kinds_of kind.Instruction (place_of (Link k r v))) (payload_of (Link k r v))) [ LINK ↦ t | LINKL ↦ t ]
payload_targets (UNLK r) = register-last r
payload_targets (Shift op o d g s) =
    let t : Targets (kinds_of kind.Instruction 46) (payload_of (Shift op o d g s)) = simp append_assoc (operand o (operand d (field tt (field tt done)))) in
    elim op as (λ k. Targets (kinds_of kind.Instruction (place_of (Shift k o d g s))) (payload_of (Shift k o d g s))) [ ASd ↦ t | ROd ↦ t | LSd ↦ t | ROXd ↦ t ]
payload_targets (Vector op v) = elim op as (λ k. Targets (kinds_of kind.Instruction (place_of (Vector k v))) (payload_of (Vector k v))) [ TRAP ↦ field tt done | BKPT ↦ field tt done ]
payload_targets (Status op v) = elim op as (λ k. Targets (kinds_of kind.Instruction (place_of (Status k v))) (payload_of (Status k v))) [ ANDItoSR ↦ field tt done | ORItoSR ↦ field tt done | EORItoSR ↦ field tt done | STOP ↦ field tt done ]
payload_targets (ConditionCode op v) = elim op as (λ k. Targets (kinds_of kind.Instruction (place_of (ConditionCode k v))) (payload_of (ConditionCode k v))) [ ANDItoCCR ↦ field tt done | ORItoCCR ↦ field tt done | EORItoCCR ↦ field tt done ]
payload_targets (MOVEUSP b r) = field tt (register-last r)
payload_targets (Raw op v) = elim op as (λ k. Targets (kinds_of kind.Instruction (place_of (Raw k v))) (payload_of (Raw k v))) [ LINEA ↦ field tt done | LINEF ↦ field tt done | IllegalWord ↦ none ]
payload_targets (NoOperand op) = elim op as (λ k. Targets (kinds_of kind.Instruction (place_of (NoOperand k))) (payload_of (NoOperand k))) [ RTE ↦ done | RESET ↦ done | RTR ↦ done | TRAPV ↦ done | ILLEGAL ↦ done | RTS ↦ done | NOP ↦ done | SIMHALT ↦ done ]
payload_targets (RTD v) = field tt done
payload_targets (MOVEC b v r) = field tt (field tt (register-last r))
payload_targets (TRAPcc c x) = field tt (trapped-last x)
payload_targets (MULL o v c g) = simp append_assoc (operand o (field tt (chosen c (field tt done))))
payload_targets (Pack op o d v) =
    let t : Targets (kinds_of kind.Instruction 91) (payload_of (Pack op o d v)) = simp append_assoc (operand o (operand d (field tt done))) in
    elim op as (λ k. Targets (kinds_of kind.Instruction (place_of (Pack k o d v))) (payload_of (Pack k o d v))) [ PACK ↦ t | UNPK ↦ t ]
payload_targets (CAS c v o s) = field tt (field tt (operand o (field tt done)))
payload_targets (CAS2 c d u v p q s) = simp append_assoc (field tt (field tt (field tt (field tt (register p (register q (field tt done)))))))
payload_targets (BF p o f n) = simp append_assoc (field tt (operand o (extent f.offset (extent f.width (field tt done)))))
payload_targets (DIVL o q r b g) = simp append_assoc (operand o (field tt (field tt (field tt (field tt done)))))

pub form_targets : (i : Instruction) → Targets (kind.Instruction ∷ []) (form_of i)
unfolding form_of
form_targets i = field tt (rw (← append-nil (kinds_of kind.Instruction (place_of i))) at (payload_targets i))
