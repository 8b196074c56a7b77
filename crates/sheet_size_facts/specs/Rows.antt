-- Every instruction's fields: their sorts, and the instruction that they make.
use Rattle.std.specs.Prelude.{ℕ, ◌-◌, ◌^◌, ◌≡◌, refl, Bool, true, List, ◌∷◌}
use Rattle.isa.specs.declared.Size.{Size}
use Rattle.isa.specs.declared.TargetDirection.{TargetDirection}
use Rattle.isa.specs.declared.AddressWidth.{AddressWidth}
use Rattle.isa.specs.declared.Condition.{Condition}
use Rattle.isa.specs.declared.BranchSize.{BranchSize}
use Rattle.isa.specs.declared.ShiftDirection.{ShiftDirection}
use Rattle.isa.specs.declared.Sign.{Sign}
use Rattle.isa.specs.declared.BitFieldOperation.{BitFieldOperation}
use Rattle.isa.specs.declared.RegisterOperand.{RegisterOperand}
use Rattle.isa.specs.declared.RegisterOperand.TheVariants.{Address, Data}
use Rattle.isa.specs.declared.FieldValue.{FieldValue}
use Rattle.isa.specs.declared.FieldValue.TheVariants as value
use Rattle.isa.specs.declared.TrapOperand.{TrapOperand}
use Rattle.isa.specs.declared.TrapOperand.TheVariants as trap
use Rattle.std.specs.declared.option.Option.{Option}
use Rattle.std.specs.declared.option.Option.TheVariants as choices
use Rattle.isa.specs.declared.Operand.{Operand}
use Rattle.isa.specs.declared.Operand.TheVariants.{Immediate, Register, Indirect, PostIndirect, PreIndirect, IndirectDisplacement, IndirectIndex, PcDisplacement, PcIndex, Extended, Absolute}
use Rattle.isa.specs.declared.IndexRegister.{IndexRegister}
use Rattle.isa.specs.declared.RegisterOperation.TheVariants.{ADDA, SUBA, CMPA, MOVEA, CMP, CHK2, CMP2}
use Rattle.isa.specs.declared.TransferOperation.TheVariants.{MOVEP, MOVES}
use Rattle.isa.specs.declared.PairOperation.TheVariants.{MOVE, ADD, SUB, ADDX, SUBX, CMPM, OR, AND, EOR}
use Rattle.isa.specs.declared.QuickOperation.TheVariants.{ADDQ, SUBQ}
use Rattle.isa.specs.declared.ImmediateOperation.TheVariants.{ADDI, SUBI, ANDI, ORI, EORI, CMPI}
use Rattle.isa.specs.declared.WordOperation.TheVariants.{DIVx, MULx}
use Rattle.isa.specs.declared.UnsizedRegisterOperation.TheVariants.{LEA, CHK, CHKL}
use Rattle.isa.specs.declared.UnsizedOneOperation.TheVariants.{PEA, NBCD, JSR, JMP, TAS, MOVEtoCCR, MOVEfromCCR, MOVEtoSR, MOVEfromSR}
use Rattle.isa.specs.declared.UnsizedPairOperation.TheVariants.{ABCD, SBCD, BTST, BCLR, BSET, BCHG}
use Rattle.isa.specs.declared.OneOperation.TheVariants.{CLR, NEG, NEGX, NOT, TST}
use Rattle.isa.specs.declared.ShiftOperation.TheVariants.{ASd, ROd, LSd, ROXd}
use Rattle.isa.specs.declared.PackOperation.TheVariants.{PACK, UNPK}
use Rattle.isa.specs.declared.BranchOperation.TheVariants.{BRA, BSR}
use Rattle.isa.specs.declared.LinkOperation.TheVariants.{LINK, LINKL}
use Rattle.isa.specs.declared.StatusOperation.TheVariants.{ANDItoSR, ORItoSR, EORItoSR, STOP}
use Rattle.isa.specs.declared.ConditionCodeOperation.TheVariants.{ANDItoCCR, ORItoCCR, EORItoCCR}
use Rattle.isa.specs.declared.VectorOperation.TheVariants.{TRAP, BKPT}
use Rattle.isa.specs.declared.RawOperation.TheVariants.{LINEA, LINEF, IllegalWord}
use Rattle.isa.specs.declared.NoOperandOperation.TheVariants.{RTE, RESET, RTR, TRAPV, ILLEGAL, RTS, NOP, SIMHALT}
use Rattle.isa.specs.declared.Instruction.{Instruction}
use Rattle.isa.specs.declared.Instruction.TheVariants.{IntoRegister, MOVEM, Transfer, Pair, Quick, MOVEQ, ImmediateInto, WordIntoData, SWAP, EXG, UnsizedIntoRegister, UnsizedOne, UnsizedPair, EXT, OneOperand, Bcc, Scc, DBcc, Branch, Link, UNLK, Shift, Vector, Status, ConditionCode, MOVEUSP, Raw, NoOperand, RTD, MOVEC, TRAPcc, MULL, Pack, CAS, CAS2, BF, DIVL}
use Rattle.numeric_spec.specs.Entry.{Entry, unsigned}
use Rattle.numeric_spec.specs.Payload.{flag_place, size_place, target_direction_place, address_width_place, condition_place, branch_size_place, shift_direction_place, sign_place, bit_field_operation_place, register_form, field_value_form, trap_operand_form, register_choice_form, operand_form}
use Rattle.numeric_spec.specs.Form.{place_of}
use Rattle.sheet_spec.specs.declared.Kind.{Kind}
use Rattle.sheet_spec.specs.declared.Kind.TheVariants as kind
use Rattle.sheet_spec.specs.Grammar.{kinds_of}
use Rattle.isa_spec.specs.Ordinary.{Ordinary}
use Rattle.m68k_facts.specs.Sizes.{untargeted}
use Rattle.sheet_size_facts.specs.Says.{entries}
use Rattle.sheet_size_facts.specs.Sorts.{Sort, none, ◌⊗◌, number, integer, target, place, is_named, Enum, variant, enum, choice}

abbrev byte : {d : ℕ → Bool} → Sort d ℕ
byte = number (2 ^ 8 - 1) refl (λ k. k)

abbrev word : {d : ℕ → Bool} → Sort d ℕ
word = number (2 ^ 16 - 1) refl (λ k. k)

abbrev long : {d : ℕ → Bool} → Sort d ℕ
long = number (2 ^ 32 - 1) refl (λ k. k)

abbrev flag : {d : ℕ → Bool} → Sort d Bool
flag = number 1 refl flag_place

abbrev size : {d : ℕ → Bool} → Sort d Size
size = choice kind.Size (λ m. refl) (λ v q. q) 2 size_place refl (λ m. (λ h. h, λ k top. refl))

abbrev direction : {d : ℕ → Bool} → Sort d TargetDirection
direction = choice kind.TargetDirection (λ m. refl) (λ v q. q) 1 target_direction_place refl (λ m. (λ h. h, λ k top. refl))

abbrev width : {d : ℕ → Bool} → Sort d AddressWidth
width = choice kind.AddressWidth (λ m. refl) (λ v q. q) 1 address_width_place refl (λ m. (λ h. h, λ k top. refl))

abbrev condition : {d : ℕ → Bool} → Sort d Condition
condition = choice kind.Condition (λ m. refl) (λ v q. q) 15 condition_place refl (λ m. (λ h. h, λ k top. refl))

abbrev reach : {d : ℕ → Bool} → Sort d BranchSize
reach = choice kind.BranchSize (λ m. refl) (λ v q. q) 2 branch_size_place refl (λ m. (λ h. h, λ k top. refl))

abbrev side : {d : ℕ → Bool} → Sort d ShiftDirection
side = choice kind.ShiftDirection (λ m. refl) (λ v q. q) 1 shift_direction_place refl (λ m. (λ h. h, λ k top. refl))

abbrev sign : {d : ℕ → Bool} → Sort d Sign
sign = choice kind.Sign (λ m. refl) (λ v q. q) 1 sign_place refl (λ m. (λ h. h, λ k top. refl))

abbrev action : {d : ℕ → Bool} → Sort d BitFieldOperation
action = choice kind.BitFieldOperation (λ m. refl) (λ v q. q) 7 bit_field_operation_place refl (λ m. (λ h. h, λ k top. refl))

abbrev register : {d : ℕ → Bool} → Sort d RegisterOperand
register =
    let e : Enum RegisterOperand = record { form = register_form; kind = kind.RegisterOperand; suits = λ v q. q; names = λ m. (λ h. h, λ k top. refl); top = 1; untargeted = λ x. x } in
    enum e (elim [ Address m ↦ variant e 0 (λ h. refl) byte Address m (λ w. refl) | Data m ↦ variant e 1 (λ h. refl) byte Data m (λ w. refl) ])

abbrev extent : {d : ℕ → Bool} → Sort d FieldValue
extent =
    let e : Enum FieldValue = record { form = field_value_form; kind = kind.FieldValue; suits = λ v q. q; names = λ m. (λ h. h, λ k top. refl); top = 1; untargeted = λ x. x } in
    enum e (elim [ value.Immediate m ↦ variant e 0 (λ h. refl) byte value.Immediate m (λ w. refl) | value.Register m ↦ variant e 1 (λ h. refl) byte value.Register m (λ w. refl) ])

abbrev high : {d : ℕ → Bool} → Sort d (Option ℕ)
high =
    let e : Enum (Option ℕ) = record { form = register_choice_form; kind = kind.RegisterChoice; suits = λ v q. q; names = λ m. (λ h. h, λ k top. refl); top = 1; untargeted = λ x. x } in
    enum e (elim [ choices.None ↦ variant e 0 (λ h. refl) none (λ w. choices.None) tt (λ w. refl) | choices.Some m ↦ variant e 1 (λ h. refl) byte choices.Some m (λ w. refl) ])

abbrev trapped : {d : ℕ → Bool} → Sort d TrapOperand
trapped =
    let e : Enum TrapOperand = record { form = trap_operand_form; kind = kind.TrapOperand; suits = λ v q. q; names = λ m. (λ h. h, λ k top. refl); top = 2; untargeted = λ x. x } in
    enum e (elim [ trap.None ↦ variant e 0 (λ h. refl) none (λ w. trap.None) tt (λ w. refl) | trap.Word m ↦ variant e 1 (λ h. refl) word trap.Word m (λ w. refl) | trap.Long m ↦ variant e 2 (λ h. refl) long trap.Long m (λ w. refl) ])

abbrev indexed : RegisterOperand × Size → IndexRegister
indexed w = record { register = w.0; size = w.1 }

abbrev operand : {d : ℕ → Bool} → Sort d Operand
operand =
    let e : Enum Operand = record { form = operand_form; kind = kind.Operand; suits = λ v q. q; names = λ m. (λ h. h, λ k top. refl); top = 10; untargeted = untargeted } in
    enum e (elim [
      | Immediate v ↦ variant e 0 (λ h. refl) long Immediate v (λ w. refl)
      | Register r ↦ variant e 1 (λ h. refl) register Register r (λ w. refl)
      | Indirect m ↦ variant e 2 (λ h. refl) byte Indirect m (λ w. refl)
      | PostIndirect m ↦ variant e 3 (λ h. refl) byte PostIndirect m (λ w. refl)
      | PreIndirect m ↦ variant e 4 (λ h. refl) byte PreIndirect m (λ w. refl)
      | IndirectDisplacement z base ↦ variant e 5 (λ h. refl) (integer ⊗ register) (λ w. IndirectDisplacement w.0 w.1) (z, base) (λ w. refl)
      | IndirectIndex base z x ↦ variant e 6 (λ h. refl) (register ⊗ integer ⊗ (register ⊗ size)) (λ w. IndirectIndex w.0.0 w.0.1 (indexed w.1)) ((base, z), (x.register, x.size)) (λ w. refl)
      | PcDisplacement t ↦ variant e 7 (λ h. refl) place PcDisplacement t (λ w. refl)
      | PcIndex t x ↦ variant e 8 (λ h. refl) (place ⊗ (register ⊗ size)) (λ w. PcIndex w.0 (indexed w.1)) (t, (x.register, x.size)) (λ w. refl)
      | Extended base v z outer ↦ variant e 9 (λ h. refl) (byte ⊗ word ⊗ integer ⊗ integer) (λ w. Extended w.0.0.0 w.0.0.1 w.0.1 w.1) (((base, v), z), outer) (λ w. refl)
      | Absolute a v ↦ variant e 10 (λ h. refl) (number (2 ^ 64 - 1) refl (λ k. k) ⊗ width) (λ w. Absolute w.0 w.1) (a, v) (λ w. refl)
    ])

-- ---- an instruction

-- where it has a name, the grammar of its fields and its form are those of a sort
abbrev pub Law : {d : ℕ → Bool} {Z : Type 0} → Sort d Z → (Z → Instruction) → Z → Type 0
Law {d} {Z} s con z =
    Ordinary (con z) → (w : Z)
    → ◌≡◌ {A = Bool × List Kind × List Entry} (is_named kind.Instruction (place_of (con z)), kinds_of kind.Instruction (place_of (con z)), entries (con w)) (true, s.kinds, unsigned 98 (place_of (con z)) ∷ s.form w)

-- the sort of its fields, what makes it of their values, and these
pub record Row (d : ℕ → Bool) (i : Instruction) : Type 1 where
  pub Z : Type 0
  pub sort : Sort d Z
  pub con : Z → Instruction
  pub z : Z
  pub is : con z ≡ i
  pub law : Law sort con z

abbrev as_row : {d : ℕ → Bool} {Z : Type 0} (s : Sort d Z) (con : Z → Instruction) (z : Z) → Law s con z → Row d (con z)
as_row {d} {Z} s con z law = record { Z = Z; sort = s; con = con; z = z; is = refl; law = law }

abbrev as_rows : {d : ℕ → Bool} {K Z : Type 0} (s : Sort d Z) (con : K → Z → Instruction) (z : Z) → ((k : K) → Law s (con k) z) → (k : K) → Row d (con k z)
as_rows s con z law k = as_row s (con k) z (law k)

abbrev pub row : {d : ℕ → Bool} (i : Instruction) → Row d i
row (IntoRegister op o r s) = as_rows (operand ⊗ register ⊗ size) (λ op w. IntoRegister op w.0.0 w.0.1 w.1) ((o, r), s) (elim [ ADDA ↦ λ h w. refl | SUBA ↦ λ h w. refl | CMPA ↦ λ h w. refl | MOVEA ↦ λ h w. refl | CMP ↦ λ h w. refl | CHK2 ↦ λ h w. refl | CMP2 ↦ λ h w. refl ]) op
row (MOVEM d s v o) = as_row (direction ⊗ size ⊗ word ⊗ operand) (λ w. MOVEM w.0.0.0 w.0.0.1 w.0.1 w.1) (((d, s), v), o) (λ h w. refl)
row (Transfer op d s r o) = as_rows (direction ⊗ size ⊗ register ⊗ operand) (λ op w. Transfer op w.0.0.0 w.0.0.1 w.0.1 w.1) (((d, s), r), o) (elim [ MOVEP ↦ λ h w. refl | MOVES ↦ λ h w. refl ]) op
row (Pair op o d s) = as_rows (operand ⊗ operand ⊗ size) (λ op w. Pair op w.0.0 w.0.1 w.1) ((o, d), s) (elim [ MOVE ↦ λ h w. refl | ADD ↦ λ h w. refl | SUB ↦ λ h w. refl | ADDX ↦ λ h w. refl | SUBX ↦ λ h w. refl | CMPM ↦ λ h w. refl | OR ↦ λ h w. refl | AND ↦ λ h w. refl | EOR ↦ λ h w. refl ]) op
row (Quick op v o s) = as_rows (byte ⊗ operand ⊗ size) (λ op w. Quick op w.0.0 w.0.1 w.1) ((v, o), s) (elim [ ADDQ ↦ λ h w. refl | SUBQ ↦ λ h w. refl ]) op
row (MOVEQ v r) = as_row (byte ⊗ register) (λ w. MOVEQ w.0 w.1) (v, r) (λ h w. refl)
row (ImmediateInto op v o s) = as_rows (long ⊗ operand ⊗ size) (λ op w. ImmediateInto op w.0.0 w.0.1 w.1) ((v, o), s) (elim [ ADDI ↦ λ h w. refl | SUBI ↦ λ h w. refl | ANDI ↦ λ h w. refl | ORI ↦ λ h w. refl | EORI ↦ λ h w. refl | CMPI ↦ λ h w. refl ]) op
row (WordIntoData op o r g) = as_rows (operand ⊗ register ⊗ sign) (λ op w. WordIntoData op w.0.0 w.0.1 w.1) ((o, r), g) (elim [ DIVx ↦ λ h w. refl | MULx ↦ λ h w. refl ]) op
row (SWAP r) = as_row register (λ w. SWAP w) r (λ h w. refl)
row (EXG r q) = as_row (register ⊗ register) (λ w. EXG w.0 w.1) (r, q) (λ h w. refl)
row (UnsizedIntoRegister op o r) = as_rows (operand ⊗ register) (λ op w. UnsizedIntoRegister op w.0 w.1) (o, r) (elim [ LEA ↦ λ h w. refl | CHK ↦ λ h w. refl | CHKL ↦ λ h w. refl ]) op
row (UnsizedOne op o) = as_rows operand (λ op w. UnsizedOne op w) o (elim [ PEA ↦ λ h w. refl | NBCD ↦ λ h w. refl | JSR ↦ λ h w. refl | JMP ↦ λ h w. refl | TAS ↦ λ h w. refl | MOVEtoCCR ↦ λ h w. refl | MOVEfromCCR ↦ λ h w. refl | MOVEtoSR ↦ λ h w. refl | MOVEfromSR ↦ λ h w. refl ]) op
row (UnsizedPair op o d) = as_rows (operand ⊗ operand) (λ op w. UnsizedPair op w.0 w.1) (o, d) (elim [ ABCD ↦ λ h w. refl | SBCD ↦ λ h w. refl | BTST ↦ λ h w. refl | BCLR ↦ λ h w. refl | BSET ↦ λ h w. refl | BCHG ↦ λ h w. refl ]) op
row (EXT r s q) = as_row (register ⊗ size ⊗ size) (λ w. EXT w.0.0 w.0.1 w.1) ((r, s), q) (λ h w. refl)
row (OneOperand op o s) = as_rows (operand ⊗ size) (λ op w. OneOperand op w.0 w.1) (o, s) (elim [ CLR ↦ λ h w. refl | NEG ↦ λ h w. refl | NEGX ↦ λ h w. refl | NOT ↦ λ h w. refl | TST ↦ λ h w. refl ]) op
row (Bcc t c s) = as_row (target ⊗ condition ⊗ reach) (λ w. Bcc w.0.0 w.0.1 w.1) ((t, c), s) (λ h w. refl)
row (Scc o c) = as_row (operand ⊗ condition) (λ w. Scc w.0 w.1) (o, c) (λ h w. refl)
row (DBcc r t c) = as_row (register ⊗ target ⊗ condition) (λ w. DBcc w.0.0 w.0.1 w.1) ((r, t), c) (λ h w. refl)
row (Branch op t s) = as_rows (target ⊗ reach) (λ op w. Branch op w.0 w.1) (t, s) (elim [ BRA ↦ λ h w. refl | BSR ↦ λ h w. refl ]) op
row (Link op r v) = as_rows (register ⊗ long) (λ op w. Link op w.0 w.1) (r, v) (elim [ LINK ↦ λ h w. refl | LINKL ↦ λ h w. refl ]) op
row (UNLK r) = as_row register (λ w. UNLK w) r (λ h w. refl)
row (Shift op o d g s) = as_rows (operand ⊗ operand ⊗ side ⊗ size) (λ op w. Shift op w.0.0.0 w.0.0.1 w.0.1 w.1) (((o, d), g), s) (elim [ ASd ↦ λ h w. refl | ROd ↦ λ h w. refl | LSd ↦ λ h w. refl | ROXd ↦ λ h w. refl ]) op
row (Vector op v) = as_rows byte (λ op w. Vector op w) v (elim [ TRAP ↦ λ h w. refl | BKPT ↦ λ h w. refl ]) op
row (Status op v) = as_rows word (λ op w. Status op w) v (elim [ ANDItoSR ↦ λ h w. refl | ORItoSR ↦ λ h w. refl | EORItoSR ↦ λ h w. refl | STOP ↦ λ h w. refl ]) op
row (ConditionCode op v) = as_rows byte (λ op w. ConditionCode op w) v (elim [ ANDItoCCR ↦ λ h w. refl | ORItoCCR ↦ λ h w. refl | EORItoCCR ↦ λ h w. refl ]) op
row (MOVEUSP b r) = as_row (flag ⊗ register) (λ w. MOVEUSP w.0 w.1) (b, r) (λ h w. refl)
row (Raw op v) = as_rows word (λ op w. Raw op w) v (elim [ LINEA ↦ λ h w. refl | LINEF ↦ λ h w. refl | IllegalWord ↦ λ h w. absurd (h.0 v refl) ]) op
row (NoOperand op) = as_rows none (λ op w. NoOperand op) tt (elim [ RTE ↦ λ h w. refl | RESET ↦ λ h w. refl | RTR ↦ λ h w. refl | TRAPV ↦ λ h w. refl | ILLEGAL ↦ λ h w. refl | RTS ↦ λ h w. refl | NOP ↦ λ h w. refl | SIMHALT ↦ λ h w. absurd (h.1 refl) ]) op
row (RTD v) = as_row long (λ w. RTD w) v (λ h w. refl)
row (MOVEC b v r) = as_row (flag ⊗ word ⊗ register) (λ w. MOVEC w.0.0 w.0.1 w.1) ((b, v), r) (λ h w. refl)
row (TRAPcc c x) = as_row (condition ⊗ trapped) (λ w. TRAPcc w.0 w.1) (c, x) (λ h w. refl)
row (MULL o v c g) = as_row (operand ⊗ byte ⊗ high ⊗ sign) (λ w. MULL w.0.0.0 w.0.0.1 w.0.1 w.1) (((o, v), c), g) (λ h w. refl)
row (Pack op o d v) = as_rows (operand ⊗ operand ⊗ word) (λ op w. Pack op w.0.0 w.0.1 w.1) ((o, d), v) (elim [ PACK ↦ λ h w. refl | UNPK ↦ λ h w. refl ]) op
row (CAS c v o s) = as_row (byte ⊗ byte ⊗ operand ⊗ size) (λ w. CAS w.0.0.0 w.0.0.1 w.0.1 w.1) (((c, v), o), s) (λ h w. refl)
row (CAS2 c d u v p q s) = as_row (byte ⊗ byte ⊗ byte ⊗ byte ⊗ register ⊗ register ⊗ size) (λ w. CAS2 w.0.0.0.0.0.0 w.0.0.0.0.0.1 w.0.0.0.0.1 w.0.0.0.1 w.0.0.1 w.0.1 w.1) ((((((c, d), u), v), p), q), s) (λ h w. refl)
row (BF p o f n) = as_row (action ⊗ operand ⊗ (extent ⊗ extent) ⊗ byte) (λ w. BF w.0.0.0 w.0.0.1 (record { offset = w.0.1.0; width = w.0.1.1 }) w.1) (((p, o), (f.offset, f.width)), n) (λ h w. refl)
row (DIVL o q r b g) = as_row (operand ⊗ byte ⊗ byte ⊗ flag ⊗ sign) (λ w. DIVL w.0.0.0.0 w.0.0.0.1 w.0.0.1 w.0.1 w.1) ((((o, q), r), b), g) (λ h w. refl)
