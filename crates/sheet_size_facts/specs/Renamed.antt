-- The instruction that a line makes, whatever its labels are made: the same but for the targets.
use Rattle.std.specs.Prelude.{ℕ, ◌<◌, ◌≡◌, refl, Bool, true, List, [], ◌∷◌, ◌++◌, map, length, get_or, ℤ, pos}
use Rattle.std.proofs.Common.{sym, ap, ◌∙◌, subst, arith}
use Rattle.std.proofs.Math.Option.{some}
use Rattle.isa.specs.declared.RegisterOperation.TheVariants.{ADDA, SUBA, CMPA, MOVEA, CMP, CHK2, CMP2}
use Rattle.isa.specs.declared.TransferOperation.TheVariants.{MOVEP, MOVES}
use Rattle.isa.specs.declared.PairOperation.TheVariants.{MOVE, ADD, SUB, ADDX, SUBX, CMPM, OR, AND, EOR}
use Rattle.isa.specs.declared.QuickOperation.TheVariants.{ADDQ, SUBQ}
use Rattle.isa.specs.declared.ImmediateOperation.TheVariants.{ADDI, SUBI, ANDI, ORI, EORI, CMPI}
use Rattle.isa.specs.declared.WordOperation.TheVariants.{DIVx, MULx}
use Rattle.isa.specs.declared.UnsizedRegisterOperation.TheVariants.{LEA, CHK, CHKL}
use Rattle.isa.specs.declared.UnsizedOneOperation.TheVariants.{PEA, NBCD, JSR, JMP, TAS, MOVEtoCCR, MOVEfromCCR, MOVEtoSR, MOVEfromSR}
use Rattle.isa.specs.declared.UnsizedPairOperation.TheVariants.{ABCD, SBCD, BTST, BCLR, BSET, BCHG}
use Rattle.isa.specs.declared.OneOperation.TheVariants.{CLR, NEG, NEGX, NOT, TST}
use Rattle.isa.specs.declared.BranchOperation.TheVariants.{BRA, BSR}
use Rattle.isa.specs.declared.LinkOperation.TheVariants.{LINK, LINKL}
use Rattle.isa.specs.declared.ShiftOperation.TheVariants.{ASd, ROd, LSd, ROXd}
use Rattle.isa.specs.declared.VectorOperation.TheVariants.{TRAP, BKPT}
use Rattle.isa.specs.declared.StatusOperation.TheVariants.{ANDItoSR, ORItoSR, EORItoSR, STOP}
use Rattle.isa.specs.declared.ConditionCodeOperation.TheVariants.{ANDItoCCR, ORItoCCR, EORItoCCR}
use Rattle.isa.specs.declared.RawOperation.TheVariants.{LINEA, LINEF, IllegalWord}
use Rattle.isa.specs.declared.NoOperandOperation.TheVariants.{RTE, RESET, RTR, TRAPV, ILLEGAL, RTS, NOP, SIMHALT}
use Rattle.isa.specs.declared.PackOperation.TheVariants.{PACK, UNPK}
use Rattle.isa.specs.declared.Instruction.{Instruction}
use Rattle.isa.specs.declared.Instruction.TheVariants.{IntoRegister, MOVEM, Transfer, Pair, Quick, MOVEQ, ImmediateInto, WordIntoData, SWAP, EXG, UnsizedIntoRegister, UnsizedOne, UnsizedPair, EXT, OneOperand, Bcc, Scc, DBcc, Branch, Link, UNLK, Shift, Vector, Status, ConditionCode, MOVEUSP, Raw, NoOperand, RTD, MOVEC, TRAPcc, MULL, Pack, CAS, CAS2, BF, DIVL}
use Rattle.encode_spec.specs.Encode.{size_of}
use Rattle.numeric_spec.specs.Entry.{Entry, unsigned, Inside}
use Rattle.numeric_spec.specs.Form.{place_of}
use Rattle.sheet_spec.specs.declared.Kind.TheVariants as kind
use Rattle.sheet_spec.specs.Names.{bytes, names_of}
use Rattle.sheet_spec.specs.Line.{Token}
use Rattle.read_spec.specs.Plain as plain
use Rattle.sheet_spec.specs.Follow.{Next, next_of}
use Rattle.sheet_size_facts.specs.Says.{entries, place_named}
use Rattle.sheet_size_facts.specs.Turned.{Input, Turned}
use Rattle.sheet_size_facts.specs.Sorts.{chosen}
use Rattle.sheet_size_facts.specs.Rows.{Row, row}
use Rattle.isa_spec.specs.Ordinary.{Ordinary}
use Rattle.isa_facts.specs.Ordinary.{is_ordinary, ordinary}
use Rattle.m68k_facts.specs.Sizes as sizes
use Rattle.m68k_facts.specs.Sizes.{untargeted-size, aim_size}
use Rattle.sheet_size_facts.specs.Lawful.{quiet, Goes, quietly, aimed, Follows}

-- what a line's first field says is an instruction's name
named_listed : (i : Instruction) → 0 < length (get_or (map bytes (names_of kind.Instruction)) (place_of i) []) → Ordinary i
named_listed i h = (
  λ w e. let z : 0 < 0 = subst (λ (j : Instruction). 0 < length (get_or (map bytes (names_of kind.Instruction)) (place_of j) [])) e h in absurd (omega arith),
  λ e. let z : 0 < 0 = subst (λ (j : Instruction). 0 < length (get_or (map bytes (names_of kind.Instruction)) (place_of j) [])) e h in absurd (omega arith),
)

listed : {d : ℕ → Bool} (i : Instruction) (vs : List Token) → Input d (kind.Instruction ∷ []) vs (entries i ++ []) → Ordinary i
listed i [] h = absurd h.fits
listed i (v ∷ vs) h = named_listed i (place_named (λ k. some 0) v (place_of i) h.fits.0 (ap (λ (zs : List ℤ). get_or zs 0 (pos 0)) h.zeros))

-- ---- the instructions of a row
module _ {d : ℕ → Bool} {i : Instruction} (r : Row d i) where
  abbrev Made : Instruction → Type 0
  Made j = (vs : List Token) → Input d (kind.Instruction ∷ []) vs (entries j ++ []) → Inside (entries j) → Turned d Instruction entries (Follows d j) [] vs []

  -- their size without targets
  abbrev Kept : Type 0
  Kept = (w : r.Z) → size_of (r.con (r.sort.untargeted w)) ≡ size_of (r.con w)

  -- where their plain forms go, and that they are ordinary
  abbrev Alike : Type 0
  Alike = Ordinary (r.con r.z) → (w : r.Z) → (next_of (plain.plain (r.con w)) ≡ next_of (r.con w)) × (is_ordinary (r.con w) ≡ true)

  -- where they go
  abbrev Going : Type 0
  Going = Ordinary (r.con r.z) → (y : (ℕ → ℕ) → r.Z) → r.sort.Aims y → Goes d (λ f. r.con (y f))

  made : Alike → Going → Kept → Made (r.con r.z)
  made alike goes kept vs h g =
      let l = listed (r.con r.z) vs h in
      let law = r.law l in
      let form : (w : r.Z) → entries (r.con w) ≡ unsigned 98 (place_of (r.con r.z)) ∷ r.sort.form w = λ w. ap (λ t. t.2) (law w) in
      chosen kind.Instruction (λ v q. q) 98 (place_of (r.con r.z)) r.sort r.con r.z (λ s. (
        ap (λ t. t.1) (law r.z),
        form,
        λ y q a. record {
          size = λ f. sym (kept (y f)) ∙ ap (λ w. size_of (r.con w)) (q f) ∙ kept r.z;
          plain = λ f. (alike l (y f)).0;
          ordinary = λ f. ordinary (r.con (y f)) (alike l (y f)).1;
          goes = goes l y a;
        },
      )) [] vs [] (subst (λ (es : List Entry). Input d (kind.Instruction ∷ []) vs (es ++ [])) (form r.z) h) (subst Inside (form r.z) g)

  made_row : Alike → Going → Kept → Made i
  made_row alike goes kept = subst Made r.is (made alike goes kept)

  -- without a target
  abbrev Still : Type 0
  Still = Ordinary (r.con r.z) → (w : r.Z) → ◌≡◌ {A = Next × Bool × Bool} (next_of (plain.plain (r.con w)), is_ordinary (r.con w), quiet (next_of (r.con w))) (next_of (r.con w), true, true)

  still : Still → Kept → Made i
  still law = made_row (λ l w. (ap (λ t. t.0) (law l w), ap (λ t. t.1) (law l w))) (λ l y a. quietly (λ f. ap (λ t. t.2) (law l (y f))))

pub instruction_turned : {d : ℕ → Bool} (i : Instruction) (vs : List Token) → Input d (kind.Instruction ∷ []) vs (entries i ++ []) → Inside (entries i) → Turned d Instruction entries (Follows d i) [] vs []
instruction_turned {d} (IntoRegister op o r s) =
    still (row (IntoRegister op o r s))
    (elim op as (λ k. Still (row {d = d} (IntoRegister k o r s))) [ ADDA ↦ λ l w. refl | SUBA ↦ λ l w. refl | CMPA ↦ λ l w. refl | MOVEA ↦ λ l w. refl | CMP ↦ λ l w. refl | CHK2 ↦ λ l w. refl | CMP2 ↦ λ l w. refl ]) (λ w. untargeted-size sizes.into_register_lem _)
instruction_turned (MOVEM d s v o) = still (row (MOVEM d s v o)) (λ l w. refl) (λ w. untargeted-size sizes.movem _)
instruction_turned {d = known} (Transfer op d s r o) = still (row (Transfer op d s r o)) (elim op as (λ k. Still (row {d = known} (Transfer k d s r o))) [ MOVEP ↦ λ l w. refl | MOVES ↦ λ l w. refl ]) (λ w. untargeted-size sizes.transfer _)
instruction_turned {d = known} (Pair op o d s) =
    still (row (Pair op o d s))
    (elim op as (λ k. Still (row {d = known} (Pair k o d s))) [ MOVE ↦ λ l w. refl | ADD ↦ λ l w. refl | SUB ↦ λ l w. refl | ADDX ↦ λ l w. refl | SUBX ↦ λ l w. refl | CMPM ↦ λ l w. refl | OR ↦ λ l w. refl | AND ↦ λ l w. refl | EOR ↦ λ l w. refl ]) (λ w. untargeted-size sizes.source _ ∙ untargeted-size sizes.destination _)
instruction_turned {d} (Quick op v o s) = still (row (Quick op v o s)) (elim op as (λ k. Still (row {d = d} (Quick k v o s))) [ ADDQ ↦ λ l w. refl | SUBQ ↦ λ l w. refl ]) (λ w. untargeted-size sizes.quick _)
instruction_turned (MOVEQ v r) = still (row (MOVEQ v r)) (λ l w. refl) (λ w. refl)
instruction_turned {d} (ImmediateInto op v o s) =
    still (row (ImmediateInto op v o s))
    (elim op as (λ k. Still (row {d = d} (ImmediateInto k v o s))) [ ADDI ↦ λ l w. refl | SUBI ↦ λ l w. refl | ANDI ↦ λ l w. refl | ORI ↦ λ l w. refl | EORI ↦ λ l w. refl | CMPI ↦ λ l w. refl ]) (λ w. untargeted-size sizes.immediate_into_lem _)
instruction_turned {d} (WordIntoData op o r g) = still (row (WordIntoData op o r g)) (elim op as (λ k. Still (row {d = d} (WordIntoData k o r g))) [ DIVx ↦ λ l w. refl | MULx ↦ λ l w. refl ]) (λ w. untargeted-size sizes.word_into_data_lem _)
instruction_turned (SWAP r) = still (row (SWAP r)) (λ l w. refl) (λ w. refl)
instruction_turned (EXG x y) = still (row (EXG x y)) (λ l w. refl) (λ w. refl)
instruction_turned {d} (UnsizedIntoRegister op o r) = still (row (UnsizedIntoRegister op o r)) (elim op as (λ k. Still (row {d = d} (UnsizedIntoRegister k o r))) [ LEA ↦ λ l w. refl | CHK ↦ λ l w. refl | CHKL ↦ λ l w. refl ]) (λ w. untargeted-size sizes.unsized_into_register_lem _)
instruction_turned {d} (UnsizedOne op o) =
    still (row (UnsizedOne op o))
    (elim op as (λ k. Still (row {d = d} (UnsizedOne k o))) [ PEA ↦ λ l w. refl | NBCD ↦ λ l w. refl | JSR ↦ λ l w. refl | JMP ↦ λ l w. refl | TAS ↦ λ l w. refl | MOVEtoCCR ↦ λ l w. refl | MOVEfromCCR ↦ λ l w. refl | MOVEtoSR ↦ λ l w. refl | MOVEfromSR ↦ λ l w. refl ]) (λ w. untargeted-size sizes.unsized-one _)
instruction_turned {d = known} (UnsizedPair op o d) =
    still (row (UnsizedPair op o d))
    (elim op as (λ k. Still (row {d = known} (UnsizedPair k o d))) [ ABCD ↦ λ l w. refl | SBCD ↦ λ l w. refl | BTST ↦ λ l w. refl | BCLR ↦ λ l w. refl | BSET ↦ λ l w. refl | BCHG ↦ λ l w. refl ]) (λ w. untargeted-size sizes.unsized_source _ ∙ untargeted-size sizes.unsized_destination _)
instruction_turned (EXT r s v) = still (row (EXT r s v)) (λ l w. refl) (λ w. refl)
instruction_turned {d} (OneOperand op o s) = still (row (OneOperand op o s)) (elim op as (λ k. Still (row {d = d} (OneOperand k o s))) [ CLR ↦ λ l w. refl | NEG ↦ λ l w. refl | NEGX ↦ λ l w. refl | NOT ↦ λ l w. refl | TST ↦ λ l w. refl ]) (λ w. untargeted-size sizes.one-operand _)
instruction_turned (Bcc t c s) = made_row (row (Bcc t c s)) (λ l w. (refl, refl)) (λ l y a. aimed a.0.0) (λ w. aim_size sizes.bcc _)
instruction_turned (Scc o c) = still (row (Scc o c)) (λ l w. refl) (λ w. untargeted-size sizes.scc _)
instruction_turned (DBcc r t c) = made_row (row (DBcc r t c)) (λ l w. (refl, refl)) (λ l y a. aimed a.0.1) (λ w. aim_size sizes.dbcc _)
instruction_turned {d} (Branch op t s) = made_row (row (Branch op t s)) (elim op as (λ k. Alike (row {d = d} (Branch k t s))) [ BRA ↦ λ l w. (refl, refl) | BSR ↦ λ l w. (refl, refl) ]) (λ l y a. aimed a.0) (λ w. aim_size sizes.branch _)
instruction_turned {d} (Link op r v) = still (row (Link op r v)) (elim op as (λ k. Still (row {d = d} (Link k r v))) [ LINK ↦ λ l w. refl | LINKL ↦ λ l w. refl ]) (λ w. refl)
instruction_turned (UNLK r) = still (row (UNLK r)) (λ l w. refl) (λ w. refl)
instruction_turned {d = known} (Shift op o d g s) =
    still (row (Shift op o d g s))
    (elim op as (λ k. Still (row {d = known} (Shift k o d g s))) [ ASd ↦ λ l w. refl | ROd ↦ λ l w. refl | LSd ↦ λ l w. refl | ROXd ↦ λ l w. refl ]) (λ w. untargeted-size sizes.count _ ∙ untargeted-size sizes.shifted _)
instruction_turned {d} (Vector op v) = still (row (Vector op v)) (elim op as (λ k. Still (row {d = d} (Vector k v))) [ TRAP ↦ λ l w. refl | BKPT ↦ λ l w. refl ]) (λ w. refl)
instruction_turned {d} (Status op v) = still (row (Status op v)) (elim op as (λ k. Still (row {d = d} (Status k v))) [ ANDItoSR ↦ λ l w. refl | ORItoSR ↦ λ l w. refl | EORItoSR ↦ λ l w. refl | STOP ↦ λ l w. refl ]) (λ w. refl)
instruction_turned {d} (ConditionCode op v) = still (row (ConditionCode op v)) (elim op as (λ k. Still (row {d = d} (ConditionCode k v))) [ ANDItoCCR ↦ λ l w. refl | ORItoCCR ↦ λ l w. refl | EORItoCCR ↦ λ l w. refl ]) (λ w. refl)
instruction_turned (MOVEUSP b r) = still (row (MOVEUSP b r)) (λ l w. refl) (λ w. refl)
instruction_turned {d} (Raw op v) = still (row (Raw op v)) (elim op as (λ k. Still (row {d = d} (Raw k v))) [ LINEA ↦ λ l w. refl | LINEF ↦ λ l w. refl | IllegalWord ↦ λ l w. absurd (l.0 v refl) ]) (λ w. refl)
instruction_turned {d} (NoOperand op) =
    still (row (NoOperand op))
    (elim op as (λ k. Still (row {d = d} (NoOperand k))) [ RTE ↦ λ l w. refl | RESET ↦ λ l w. refl | RTR ↦ λ l w. refl | TRAPV ↦ λ l w. refl | ILLEGAL ↦ λ l w. refl | RTS ↦ λ l w. refl | NOP ↦ λ l w. refl | SIMHALT ↦ λ l w. absurd (l.1 refl) ]) (λ w. refl)
instruction_turned (RTD v) = still (row (RTD v)) (λ l w. refl) (λ w. refl)
instruction_turned (MOVEC b v r) = still (row (MOVEC b v r)) (λ l w. refl) (λ w. refl)
instruction_turned (TRAPcc c x) = still (row (TRAPcc c x)) (λ l w. refl) (λ w. refl)
instruction_turned (MULL o v c g) = still (row (MULL o v c g)) (λ l w. refl) (λ w. untargeted-size sizes.mull _)
instruction_turned {d = known} (Pack op o d v) = still (row (Pack op o d v)) (elim op as (λ k. Still (row {d = known} (Pack k o d v))) [ PACK ↦ λ l w. refl | UNPK ↦ λ l w. refl ]) (λ w. untargeted-size sizes.packed _ ∙ untargeted-size sizes.unpacked _)
instruction_turned (CAS c v o s) = still (row (CAS c v o s)) (λ l w. refl) (λ w. untargeted-size sizes.cas _)
instruction_turned (CAS2 c d u v p q s) = still (row (CAS2 c d u v p q s)) (λ l w. refl) (λ w. refl)
instruction_turned (BF op o b r) = still (row (BF op o b r)) (λ l w. refl) (λ w. untargeted-size sizes.bf _)
instruction_turned (DIVL o q r b g) = still (row (DIVL o q r b g)) (λ l w. refl) (λ w. untargeted-size sizes.divl _)
