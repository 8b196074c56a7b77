-- The numbers of what reads are inside their types. Assumes nothing.
use Rattle.std.specs.Prelude.{ℕ, zero, suc, ◌+◌, ◌*◌, ◌-◌, ◌/◌, ◌%◌, ◌^◌, ◌<◌, ◌≡◌, refl, Bool, true, false, ◌&&◌, cond, List, [], ◌∷◌, ◌++◌, eqb, ltb, leb, get_or}
use Rattle.std.proofs.Common.{sym, ap, subst, arith, le-leb, ltb-true}
use Rattle.isa.specs.declared.Size.{Size}
use Rattle.isa.specs.declared.Size.TheVariants.{Byte, Word, Long}
use Rattle.isa.specs.declared.BranchSize.{BranchSize}
use Rattle.isa.specs.declared.BranchSize.TheVariants as branch
use Rattle.std.specs.declared.option.Option.{Option}
use Rattle.std.specs.declared.option.Option.TheVariants.{None, Some}
use Rattle.isa.specs.declared.RegisterOperand.TheVariants.{Address, Data}
use Rattle.isa.specs.declared.Operand.{Operand}
use Rattle.isa.specs.declared.Operand.TheVariants.{Immediate, Register, Indirect, PostIndirect, PreIndirect, IndirectDisplacement, IndirectIndex, PcDisplacement, PcIndex, Extended, Absolute}
use Rattle.isa.specs.declared.TransferOperation.TheVariants.{MOVES}
use Rattle.isa.specs.declared.PairOperation.TheVariants.{MOVE}
use Rattle.isa.specs.declared.UnsizedRegisterOperation.TheVariants.{CHK}
use Rattle.isa.specs.declared.BranchOperation.TheVariants.{BRA, BSR}
use Rattle.isa.specs.declared.LinkOperation.TheVariants.{LINK}
use Rattle.isa.specs.declared.StatusOperation.TheVariants.{STOP}
use Rattle.isa.specs.declared.VectorOperation.TheVariants.{TRAP}
use Rattle.isa.specs.declared.NoOperandOperation.TheVariants.{RTE, RESET, RTR, TRAPV, RTS, NOP}
use Rattle.isa.specs.declared.Instruction.{Instruction}
use Rattle.isa.specs.declared.Instruction.TheVariants.{IntoRegister, Transfer, Pair, Quick, MOVEQ, ImmediateInto, WordIntoData, EXG, UnsizedPair, EXT, OneOperand, Branch, Link, UNLK, Shift, Vector, Status, MOVEUSP, NoOperand, RTD, MULL, CAS, DIVL}
use Rattle.base_spec.specs.Signed.{signed32}
use Rattle.isa_spec.specs.Condition.{condition_of}
use Rattle.encode_spec.specs.Item.{word_address}
use Rattle.read_spec.specs.declared.Group.{Group}
use Rattle.read_spec.specs.declared.Group.TheVariants as group
use Rattle.read_spec.specs.Number.{signed8, signed16, reach}
use Rattle.read_spec.specs.Tree.{Tree, ret, fail, more, run}
use Rattle.read_spec.specs.Operand.{general_of}
use Rattle.read_spec.specs.Operation.{size_at, exchanged_at, field_in, sign_at, to_status, to_memory_at, count_at, either_at, shift_count, bit_field_at, trap_at, value_at}
use Rattle.read_spec.specs.Layouts.{is_exchange, layout_of}
use Rattle.isa.specs.declared.RegisterOperand.{RegisterOperand}
use Rattle.isa.specs.declared.Condition.{Condition}
use Rattle.isa.specs.declared.Condition.TheVariants.{True, False, High, LowOrSame, CarryClear, CarrySet, NotEqual, Equal, OverflowClear, OverflowSet, Plus, Minus, GreaterThanOrEqual, LessThan, GreaterThan, LessThanOrEqual}
use Rattle.isa.specs.declared.TargetDirection.{TargetDirection}
use Rattle.isa.specs.declared.TargetDirection.TheVariants.{ToMemory, FromMemory}
use Rattle.isa.specs.declared.ShiftDirection.{ShiftDirection}
use Rattle.isa.specs.declared.ShiftDirection.TheVariants.{Right, Left}
use Rattle.isa.specs.declared.Sign.{Sign}
use Rattle.isa.specs.declared.Sign.TheVariants.{Signed, Unsigned}
use Rattle.isa.specs.declared.BitFieldOperation.{BitFieldOperation}
use Rattle.isa.specs.declared.BitFieldOperation.TheVariants.{Test, ExtractUnsigned, Change, ExtractSigned, Clear, FindFirstOne, Set, Insert}
use Rattle.isa.specs.declared.BitField.{BitField}
use Rattle.isa.specs.declared.FieldValue.TheVariants as value
use Rattle.isa.specs.declared.TrapOperand.{TrapOperand}
use Rattle.isa.specs.declared.TrapOperand.TheVariants as trap
use Rattle.isa.specs.declared.RegisterOperation.{RegisterOperation}
use Rattle.isa.specs.declared.TransferOperation.{TransferOperation}
use Rattle.isa.specs.declared.PairOperation.{PairOperation}
use Rattle.isa.specs.declared.UnsizedPairOperation.{UnsizedPairOperation}
use Rattle.isa.specs.declared.ShiftOperation.{ShiftOperation}
use Rattle.isa.specs.declared.BranchOperation.{BranchOperation}
use Rattle.isa.specs.declared.NoOperandOperation.{NoOperandOperation}
use Rattle.read_spec.specs.Decoded.{data_operand, extended, movep_decoded, cmpm_to, cmpm_decoded, branch_to, decoded, return_decoded, movec_decoded, system_decoded, conditional_decoded, cas_decoded, mull_decoded, high_at, divl_decoded, bit_field_decoded, movem_ext_decoded, word_of}
use Rattle.numeric_spec.specs.Entry.{Inside}
use Rattle.numeric_spec.specs.Payload.{byte_form, word_form, long_form, flag_form, size_form, target_direction_form, condition_form, branch_size_form, shift_direction_form, sign_form, bit_field_operation_form, register_form, field_value_form, bit_field_form, trap_operand_form, register_choice_form, operand_form}
use Rattle.numeric_spec.specs.Form.{payload_of, place_of, form_of}
use Rattle.numeric_facts.specs.Exact.{inside_both}
use Rattle.read_operand_laws.specs.Facts.{reach_lt}
use Rattle.base_facts.specs.Tests.{cond_lt, and-true}
use Rattle.isa_spec.specs.Ordinary.{Ordinary}
use Rattle.read_spec.specs.declared.Specifier.{Specifier}
use Rattle.read_spec.specs.declared.Specifier.TheVariants as specifier
use Rattle.read_spec.specs.Reading.{Read}
use Rattle.read_spec.specs.Accepted.{Words}
use Rattle.read_spec.specs.Map.{group_at}
use Rattle.read_spec.specs.Layout.{tail_tree}
use Rattle.read_spec.specs.Read.{reader, read_of}
use Rattle.read_operand_laws.specs.TreeLaws.{bind_then}
use Rattle.read_operand_laws.specs.TailStands.{SpecifierStands, source_at, destination_at}
use Rattle.read_operand_laws.specs.TailLaws.{tail_sound}
use Rattle.read_facts.specs.Flat.{decoded_flat}
use Rattle.read_laws.specs.DecodedLaws.{flat_got}
use Rattle.read_laws.specs.ReaderLaws.{from-read}
use Rattle.sheet_size_facts.specs.Rows.{row}
use Rattle.unsheet_laws.specs.OperandInside.{top_in, size_in, register_in_lem, operand_in}

record Held (o : Operand) : Type 0 where
  pub numbers : Inside (operand_form o)

record Holds (i : Instruction) : Type 0 where
  pub numbers : Inside (payload_of i)

-- ---- what is a place among variants, or a number
flag_in : (b : Bool) → Inside (flag_form b)
flag_in true = (refl, tt)
flag_in false = (refl, tt)

direction_in_lem : (d : TargetDirection) → Inside (target_direction_form d)
direction_in_lem ToMemory = (refl, tt)
direction_in_lem FromMemory = (refl, tt)

condition_in : (c : Condition) → Inside (condition_form c)
condition_in = elim [ True ↦ (refl, tt) | False ↦ (refl, tt) | High ↦ (refl, tt) | LowOrSame ↦ (refl, tt) | CarryClear ↦ (refl, tt) | CarrySet ↦ (refl, tt) | NotEqual ↦ (refl, tt) | Equal ↦ (refl, tt) | OverflowClear ↦ (refl, tt) | OverflowSet ↦ (refl, tt) | Plus ↦ (refl, tt) | Minus ↦ (refl, tt) | GreaterThanOrEqual ↦ (refl, tt) | LessThan ↦ (refl, tt) | GreaterThan ↦ (refl, tt) | LessThanOrEqual ↦ (refl, tt) ]

branch_size_in : (s : BranchSize) → Inside (branch_size_form s)
branch_size_in branch.Short = (refl, tt)
branch_size_in branch.Word = (refl, tt)
branch_size_in branch.Long = (refl, tt)

side_in : (d : ShiftDirection) → Inside (shift_direction_form d)
side_in Right = (refl, tt)
side_in Left = (refl, tt)

sign_in : (g : Sign) → Inside (sign_form g)
sign_in Signed = (refl, tt)
sign_in Unsigned = (refl, tt)

action_in : (p : BitFieldOperation) → Inside (bit_field_operation_form p)
action_in = elim [ Test ↦ (refl, tt) | ExtractUnsigned ↦ (refl, tt) | Change ↦ (refl, tt) | ExtractSigned ↦ (refl, tt) | Clear ↦ (refl, tt) | FindFirstOne ↦ (refl, tt) | Set ↦ (refl, tt) | Insert ↦ (refl, tt) ]

byte_in : (n : ℕ) → n < 256 → Inside (byte_form n)
byte_in n h = (top_in 256 n h, tt)

word_in : (n : ℕ) → n < 65536 → Inside (word_form n)
word_in n h = (top_in 65536 n h, tt)

long_in : (n : ℕ) → n < 2 ^ 32 → Inside (long_form n)
long_in n h = (top_in (2 ^ 32) n h, tt)

-- ---- values of a variant
cond_register : (b : Bool) (r q : RegisterOperand) → Inside (register_form r) → Inside (register_form q) → Inside (register_form (cond b r q))
cond_register true r q h g = h
cond_register false r q h g = g

general_in : (k : ℕ) → k < 16 → Inside (register_form (general_of k))
general_in k h = cond_register (ltb k 8) (Data k) (Address (k - 8)) (register_in_lem (Data k) (omega arith)) (register_in_lem (Address (k - 8)) (omega arith))

value_in : (n : ℕ) → Inside (field_value_form (value_at n))
value_in n = go (eqb (n / 32) 1)
  where
    go : (b : Bool) → Inside (field_value_form (cond b (value.Register (n % 8)) (value.Immediate (n % 32))))
    go true = (refl, byte_in (n % 8) (omega arith))
    go false = (refl, byte_in (n % 32) (omega arith))

high_in : (b : Bool) (n : ℕ) → n < 256 → Inside (register_choice_form (cond b (Some n) None))
high_in true n h = (refl, byte_in n h)
high_in false n h = (refl, tt)

trap_in : (b c : Bool) (v : ℕ) → v < 2 ^ 32 → Inside (trap_operand_form (cond b (trap.Word (v % 65536)) (cond c (trap.Long v) trap.None)))
trap_in true c v h = (refl, word_in (v % 65536) (omega arith))
trap_in false true v h = (refl, long_in v h)
trap_in false false v h = (refl, tt)

data_held : (k : ℕ) → k < 256 → Held (data_operand k)
data_held k h = record { numbers = (refl, register_in_lem (Data k) h) }

immediate_held : (v : ℕ) → v < 2 ^ 32 → Held (Immediate v)
immediate_held v h = record { numbers = (refl, long_in v h) }

either_held : (b : Bool) (o d : Operand) → Held o → Held d → Held (cond b o d)
either_held true o d h g = h
either_held false o d h g = g

predecrement_held : (b : Bool) (k : ℕ) → k < 256 → Held (cond b (Register (Data k)) (PreIndirect k))
predecrement_held b k h = either_held b (data_operand k) (PreIndirect k) (data_held k h) (record { numbers = (refl, byte_in k h) })

-- ---- instructions of a shape
into_register_lem : {op : RegisterOperation} {s : Size} (o : Operand) (r : RegisterOperand) → Held o → Inside (register_form r) → Holds (IntoRegister op o r s)
into_register_lem {s = s} o r h g = record { numbers = inside_both (operand_form o ++ register_form r) (size_form s) (inside_both (operand_form o) (register_form r) h.numbers g) (size_in s) }

transfer : {op : TransferOperation} {d : TargetDirection} {s : Size} (r : RegisterOperand) (o : Operand) → Inside (register_form r) → Held o → Holds (Transfer op d s r o)
transfer {d = d} {s = s} r o g h =
    record {
      numbers = inside_both (target_direction_form d ++ size_form s ++ register_form r) (operand_form o)
          (inside_both (target_direction_form d ++ size_form s) (register_form r) (inside_both (target_direction_form d) (size_form s) (direction_in_lem d) (size_in s)) g) h.numbers;
    }

pair : {op : PairOperation} {s : Size} (o d : Operand) → Held o → Held d → Holds (Pair op o d s)
pair {s = s} o d h g = record { numbers = inside_both (operand_form o ++ operand_form d) (size_form s) (inside_both (operand_form o) (operand_form d) h.numbers g.numbers) (size_in s) }

unsized_pair_lem : {op : UnsizedPairOperation} (o d : Operand) → Held o → Held d → Holds (UnsizedPair op o d)
unsized_pair_lem o d h g = record { numbers = inside_both (operand_form o) (operand_form d) h.numbers g.numbers }

exchange : (r q : RegisterOperand) → Inside (register_form r) → Inside (register_form q) → Holds (EXG r q)
exchange r q h g = record { numbers = inside_both (register_form r) (register_form q) h g }

shift : {op : ShiftOperation} {d : ShiftDirection} {s : Size} (o t : Operand) → Held o → Held t → Holds (Shift op o t d s)
shift {d = d} {s = s} o t h g =
    record {
      numbers = inside_both (operand_form o ++ operand_form t ++ shift_direction_form d) (size_form s)
          (inside_both (operand_form o ++ operand_form t) (shift_direction_form d) (inside_both (operand_form o) (operand_form t) h.numbers g.numbers) (side_in d)) (size_in s);
    }

extend : {s q : Size} (k : ℕ) → k < 256 → Holds (EXT (Data k) s q)
extend {s} {q} k h = record { numbers = inside_both (register_form (Data k) ++ size_form s) (size_form q) (inside_both (register_form (Data k)) (size_form s) (register_in_lem (Data k) h) (size_in s)) (size_in q) }

either : (b : Bool) {i j : Instruction} → Holds i → Holds j → Holds (cond b i j)
either true h g = h
either false h g = g

branch_to_lem : (k t : ℕ) (s : BranchSize) → t < 2 ^ 32 → Holds (branch_to k t s)
branch_to_lem k t s h =
    let b : (op : BranchOperation) → Holds (Branch op t s) = λ op. record { numbers = inside_both (long_form t) (branch_size_form s) (long_in t h) (branch_size_in s) } in
    either (eqb k 0) (b BRA) (either (eqb k 1) (b BSR) (record { numbers = inside_both (long_form t ++ condition_form (condition_of k)) (branch_size_form s) (inside_both (long_form t) (condition_form (condition_of k)) (long_in t h) (condition_in (condition_of k))) (branch_size_in s) }))

abbrev All : List Instruction → Type 0
All [] = Unit {0}
All (i ∷ is) = Holds i × All is

among : (is : List Instruction) (k : ℕ) (j : Instruction) → All is → Holds j → Holds (get_or is k j)
among [] k j h g = g
among (i ∷ is) zero j h g = h.0
among (i ∷ is) (suc k) j h g = among is k j h.1 g

plainly : {op : NoOperandOperation} → Holds (NoOperand op)
plainly = record { numbers = tt }

-- ---- what an operation word of a group forms
abbrev HoldsIn : Tree Instruction → Type 0
HoldsIn (ret i) = Holds i
HoldsIn fail = Unit {0}
HoldsIn (more k) = Unit {0}

in_either : (b : Bool) (t u : Tree Instruction) → HoldsIn t → HoldsIn u → HoldsIn (cond b t u)
in_either true t u h g = h
in_either false t u h g = g

movep-holds : (x opmode : ℕ) → x < 8 → (o : Operand) → Held o → HoldsIn (movep_decoded x opmode o)
movep-holds x opmode l (Immediate v) h = tt
movep-holds x opmode l (Register r) h = tt
movep-holds x opmode l (Indirect n) h = tt
movep-holds x opmode l (PostIndirect n) h = tt
movep-holds x opmode l (PreIndirect n) h = tt
movep-holds x opmode l (IndirectDisplacement z base) h = transfer (Data x) (IndirectDisplacement z base) (register_in_lem (Data x) (omega arith)) h
movep-holds x opmode l (IndirectIndex base z i) h = tt
movep-holds x opmode l (PcDisplacement t) h = tt
movep-holds x opmode l (PcIndex t i) h = tt
movep-holds x opmode l (Extended base w z outer) h = tt
movep-holds x opmode l (Absolute a width) h = tt

compare_to : (s : Size) (y : ℕ) → Held (PostIndirect y) → (d : Operand) → Held d → HoldsIn (cmpm_to s y d)
compare_to s y h (Immediate v) g = tt
compare_to s y h (Register r) g = tt
compare_to s y h (Indirect n) g = tt
compare_to s y h (PostIndirect x) g = pair (PostIndirect y) (PostIndirect x) h g
compare_to s y h (PreIndirect n) g = tt
compare_to s y h (IndirectDisplacement z base) g = tt
compare_to s y h (IndirectIndex base z i) g = tt
compare_to s y h (PcDisplacement t) g = tt
compare_to s y h (PcIndex t i) g = tt
compare_to s y h (Extended base w z outer) g = tt
compare_to s y h (Absolute a width) g = tt

compare_holds : (s : Size) (o : Operand) → Held o → (d : Operand) → Held d → HoldsIn (cmpm_decoded s o d)
compare_holds s (Immediate v) h d g = tt
compare_holds s (Register r) h d g = tt
compare_holds s (Indirect n) h d g = tt
compare_holds s (PostIndirect y) h d g = compare_to s y h d g
compare_holds s (PreIndirect n) h d g = tt
compare_holds s (IndirectDisplacement z base) h d g = tt
compare_holds s (IndirectIndex base z i) h d g = tt
compare_holds s (PcDisplacement t) h d g = tt
compare_holds s (PcIndex t i) h d g = tt
compare_holds s (Extended base w z outer) h d g = tt
compare_holds s (Absolute a width) h d g = tt

module _ (a line x opmode ea v : ℕ) (o d : Operand) (hl : line < 16) (hx : x < 8) (ho : opmode < 8) (he : ea < 64) (hv : v < 2 ^ 32) (h : Held o) (g : Held d) where
  address_in_lem : (k : ℕ) → k < 256 → Inside (register_form (Address k))
  address_in_lem k l = register_in_lem (Address k) l

  system : Holds (system_decoded ea v)
  system =
      let y : Inside (register_form (Address (ea % 8))) = address_in_lem (ea % 8) (omega arith) in
      let w : v / 4096 % 16 < 16 = omega arith in
      let t : Holds (Vector TRAP ea) = record { numbers = byte_in ea (omega arith) } in
      let u : (b : Bool) → Holds (MOVEUSP b (Address (ea % 8))) = λ b. record { numbers = inside_both (flag_form b) (register_form (Address (ea % 8))) (flag_in b) y } in
      let status : Holds (Status STOP (v % 65536)) = record { numbers = word_in (v % 65536) (omega arith) } in
      let e : extended (v % 65536) < 2 ^ 32 = omega arith in
      let rs : List Instruction = NoOperand RESET ∷ NoOperand NOP ∷ Status STOP (v % 65536) ∷ NoOperand RTE ∷ RTD (extended (v % 65536)) ∷ NoOperand RTS ∷ NoOperand TRAPV ∷ NoOperand RTR ∷ [] in
      let ss : List Instruction = Vector TRAP ea ∷ Vector TRAP ea ∷ Link LINK (Address (ea % 8)) (extended (v % 65536)) ∷ UNLK (Address (ea % 8)) ∷ MOVEUSP true (Address (ea % 8)) ∷ MOVEUSP false (Address (ea % 8)) ∷ return_decoded (ea % 8) v ∷ [] in
      let returns : Holds (return_decoded (ea % 8) v) = among rs (ea % 8) (NoOperand NOP) (plainly, (plainly, (status, (plainly, (record { numbers = long_in (extended (v % 65536)) e }, (plainly, (plainly, (plainly, tt)))))))) plainly in
      let control : Holds (movec_decoded ea v) = record { numbers = inside_both (flag_form (eqb ea 59) ++ word_form (v % 4096)) (register_form (general_of (v / 4096 % 16))) (inside_both (flag_form (eqb ea 59)) (word_form (v % 4096)) (flag_in (eqb ea 59)) (word_in (v % 4096) (omega arith))) (general_in (v / 4096 % 16) w) } in
      among ss (ea / 8) (movec_decoded ea v)
      (t, (t, (record { numbers = inside_both (register_form (Address (ea % 8))) (long_form (extended (v % 65536))) y (long_in (extended (v % 65536)) e) }, (record { numbers = y }, (u true, (u false, (returns, tt)))))))
      control

  abbrev Formed : Group → Type 0
  Formed s = HoldsIn (decoded a s line x opmode ea v o d)

  x_in : Inside (register_form (Data x))
  x_in = register_in_lem (Data x) (omega arith)

  x_held : Held (data_operand x)
  x_held = data_held x (omega arith)

  y_in : Inside (register_form (Data (ea % 8)))
  y_in = register_in_lem (Data (ea % 8)) (omega arith)

  either_x : Held (either_at ea x)
  either_x = predecrement_held (ltb ea 8) x (omega arith)

  either_y : Held (either_at ea (ea % 8))
  either_y = predecrement_held (ltb ea 8) (ea % 8) (omega arith)

  count_lt : count_at x < 256
  count_lt = cond_lt (eqb x 0) 8 x 256 (omega arith) (omega arith)

  w_in : Inside (register_form (general_of (v / 4096 % 16)))
  w_in = general_in (v / 4096 % 16) (omega arith)

  conditional : (k : ℕ) → Holds (conditional_decoded a k ea v o)
  conditional k =
      let t = reach (word_address a 1) (signed16 (v % 65536)) in
      let c = condition_of k in
      let f : TrapOperand = trap_at ea v in
      either (eqb (ea / 8) 1) (record { numbers = inside_both (register_form (Data (ea % 8)) ++ long_form t) (condition_form c) (inside_both (register_form (Data (ea % 8))) (long_form t) y_in (long_in t (reach_lt (word_address a 1) (signed16 (v % 65536))))) (condition_in c) })
      (either (leb 58 ea && leb ea 60) (record { numbers = inside_both (condition_form c) (trap_operand_form f) (condition_in c) (trap_in (eqb ea 58) (eqb ea 59) v hv) }) (record { numbers = inside_both (operand_form o) (condition_form c) h.numbers (condition_in c) }))

  cas : Holds (cas_decoded x ea v o)
  cas =
      let m = v / 65536 in
      let n = v % 65536 in
      let p : m % 8 < 256 = omega arith in
      let r : RegisterOperand = general_of (m / 4096 % 16) in
      let q : RegisterOperand = general_of (n / 4096 % 16) in
      let s = size_at (x - 5) in
      either (eqb ea 60 && leb 6 x)
      (record {
        numbers = (
          top_in 256 (m % 8) (omega arith),
          (
            top_in 256 (n % 8) (omega arith),
            (
              top_in 256 (m / 64 % 8) (omega arith),
              (
                top_in 256 (n / 64 % 8) (omega arith),
                inside_both (register_form r ++ register_form q) (size_form s) (inside_both (register_form r) (register_form q) (general_in (m / 4096 % 16) (omega arith)) (general_in (n / 4096 % 16) (omega arith))) (size_in s),
              ),
            ),
          ),
        );
      })
      (record { numbers = (top_in 256 (v % 8) (omega arith), (top_in 256 (v / 64 % 8) (omega arith), inside_both (operand_form o) (size_form s) h.numbers (size_in s))) })

  multiply : Holds (mull_decoded v o)
  multiply =
      let low = v / 4096 % 8 in
      let c : Option ℕ = high_at v in
      let s = sign_at (v / 2048 % 2) in
      record {
        numbers = inside_both (operand_form o ++ byte_form low ++ register_choice_form c) (sign_form s)
            (inside_both (operand_form o ++ byte_form low) (register_choice_form c) (inside_both (operand_form o) (byte_form low) h.numbers (byte_in low (omega arith))) (high_in (eqb (v / 1024 % 2) 1) (v % 8) (omega arith))) (sign_in s);
      }

  divide : Holds (divl_decoded v o)
  divide =
      let q = v / 4096 % 8 in
      let r = v % 8 in
      let b = eqb (v / 1024 % 2) 1 in
      let s = sign_at (v / 2048 % 2) in
      record {
        numbers = inside_both (operand_form o ++ byte_form q ++ byte_form r ++ flag_form b) (sign_form s)
            (inside_both (operand_form o ++ byte_form q ++ byte_form r) (flag_form b) (inside_both (operand_form o ++ byte_form q) (byte_form r) (inside_both (operand_form o) (byte_form q) h.numbers (byte_in q (omega arith))) (byte_in r (omega arith))) (flag_in b)) (sign_in s);
      }

  bit_field_lem : Holds (bit_field_decoded x opmode v o)
  bit_field_lem =
      let p = bit_field_at ((x - 4) * 2 + opmode / 4) in
      let f : BitField = field_in v in
      let r = v / 4096 % 8 in
      let i : Inside (bit_field_form f) = inside_both (field_value_form f.offset) (field_value_form f.width) (value_in (v / 64 % 64)) (value_in (v % 64)) in
      record {
        numbers = inside_both (bit_field_operation_form p ++ operand_form o ++ bit_field_form f) (byte_form r)
            (inside_both (bit_field_operation_form p ++ operand_form o) (bit_field_form f) (inside_both (bit_field_operation_form p) (operand_form o) (action_in p) h.numbers) i) (byte_in r (omega arith));
      }

  movem : Holds (movem_ext_decoded x opmode ea v o)
  movem =
      let t = to_memory_at (5 - x) in
      let s = size_at (opmode - 1) in
      either (eqb x 4 && ltb ea 8) (extend ea (omega arith))
      (record {
        numbers = inside_both (target_direction_form t ++ size_form s ++ word_form (v % 65536)) (operand_form o)
            (inside_both (target_direction_form t ++ size_form s) (word_form (v % 65536)) (inside_both (target_direction_form t) (size_form s) (direction_in_lem t) (size_in s)) (word_in (v % 65536) (omega arith))) h.numbers;
      })

  decoded-holds : (s : Group) → Formed s
  decoded-holds group.Unused = tt
  decoded-holds group.ImmediateInto =
      let s = size_at opmode in
      either (to_status x opmode ea) (either (eqb opmode 0) (record { numbers = byte_in (v % 256) (omega arith) }) (record { numbers = word_in (v % 65536) (omega arith) }))
      (record { numbers = inside_both (long_form v ++ operand_form o) (size_form s) (inside_both (long_form v) (operand_form o) (long_in v hv) h.numbers) (size_in s) })
  decoded-holds group.StaticBit = unsized_pair_lem (Immediate v) o (immediate_held v hv) h
  decoded-holds group.DynamicBitMovep = in_either (eqb (ea / 8) 1) (movep_decoded x opmode o) _ (movep-holds x opmode hx o h) (unsized_pair_lem (data_operand x) o x_held h)
  decoded-holds group.MOVES = transfer (general_of (v / 4096 % 16)) o w_in h
  decoded-holds group.Bounds = into_register_lem o (general_of (v / 4096 % 16)) h w_in
  decoded-holds group.CAS = cas
  decoded-holds group.MOVE = either (eqb opmode 1) (into_register_lem o (Address x) h (address_in_lem x (omega arith))) (pair o d h g)
  decoded-holds group.OneOperand = let s = size_at opmode in record { numbers = inside_both (operand_form o) (size_form s) h.numbers (size_in s) }
  decoded-holds group.UnsizedOneIllegal = either (eqb x 5 && eqb ea 60) plainly (record { numbers = h.numbers })
  decoded-holds group.NbcdLink = either (eqb (ea / 8) 1) (record { numbers = inside_both (register_form (Address (ea % 8))) (long_form v) (address_in_lem (ea % 8) (omega arith)) (long_in v hv) }) (record { numbers = h.numbers })
  decoded-holds group.PeaSwapBkpt = either (ltb ea 8) (record { numbers = register_in_lem (Data ea) (omega arith) }) (either (ltb ea 16) (record { numbers = byte_in (ea % 8) (omega arith) }) (record { numbers = h.numbers }))
  decoded-holds group.MovemExt = movem
  decoded-holds group.MULL = multiply
  decoded-holds group.DIVL = divide
  decoded-holds group.System = system
  decoded-holds group.LeaExtb = either (eqb x 4 && ltb ea 8) (extend ea (omega arith)) (record { numbers = inside_both (operand_form o) (register_form (Address x)) h.numbers (address_in_lem x (omega arith)) })
  decoded-holds group.CHK = record { numbers = inside_both (operand_form o) (register_form (Data x)) h.numbers x_in }
  decoded-holds group.Quick = let s = size_at (opmode % 4) in record { numbers = inside_both (byte_form (count_at x) ++ operand_form o) (size_form s) (inside_both (byte_form (count_at x)) (operand_form o) (byte_in (count_at x) count_lt) h.numbers) (size_in s) }
  decoded-holds group.Conditional = conditional (x * 2 + opmode / 4)
  decoded-holds group.Branch =
      let k = x * 2 + opmode / 4 in
      let byte = opmode % 4 * 64 + ea in
      let b = word_address a 1 in
      either (eqb byte 0) (branch_to_lem k _ branch.Word (reach_lt b (signed16 (v % 65536)))) (either (eqb byte 255) (branch_to_lem k _ branch.Long (reach_lt b (signed32 v))) (branch_to_lem k _ branch.Short (reach_lt b (signed8 byte))))
  decoded-holds group.MOVEQ = let n = opmode % 4 * 64 + ea in record { numbers = inside_both (byte_form n) (register_form (Data x)) (byte_in n (omega arith)) x_in }
  decoded-holds group.IntoData = either (eqb line 11) (into_register_lem o (Data x) h x_in) (pair o (data_operand x) h x_held)
  decoded-holds group.ArithmeticExtended = either (ltb ea 16) (pair (either_at ea (ea % 8)) (either_at ea x) either_y either_x) (pair (data_operand x) o x_held h)
  decoded-holds group.LogicDecimal = either (ltb ea 16) (unsized_pair_lem (either_at ea (ea % 8)) (either_at ea x) either_y either_x) (pair (data_operand x) o x_held h)
  decoded-holds group.LogicPack =
      let p : Operand = either_at ea (ea % 8) in
      let q : Operand = either_at ea x in
      let n = v % 65536 in
      either (ltb ea 16) (record { numbers = inside_both (operand_form p ++ operand_form q) (word_form n) (inside_both (operand_form p) (operand_form q) either_y.numbers either_x.numbers) (word_in n (omega arith)) }) (pair (data_operand x) o x_held h)
  decoded-holds group.LogicExchange =
      let y = address_in_lem (ea % 8) (omega arith) in
      either (is_exchange opmode ea) (either (ltb ea 8) (exchange (Data x) (Data (ea % 8)) x_in y_in) (exchange (exchanged_at x opmode) (Address (ea % 8)) (cond_register (eqb opmode 5) (Address x) (Data x) (address_in_lem x (omega arith)) x_in) y))
      (pair (data_operand x) o x_held h)
  decoded-holds group.LogicCompare = in_either (eqb (ea / 8) 1) (cmpm_decoded (size_at (opmode - 4)) o d) _ (compare_holds (size_at (opmode - 4)) o h d g) (pair (data_operand x) o x_held h)
  decoded-holds group.WordIntoData = let s = sign_at (opmode / 4) in record { numbers = inside_both (operand_form o ++ register_form (Data x)) (sign_form s) (inside_both (operand_form o) (register_form (Data x)) h.numbers x_in) (sign_in s) }
  decoded-holds group.IntoAddress = into_register_lem o (Address x) h (address_in_lem x (omega arith))
  decoded-holds group.ShiftRegister = shift (shift_count ea x) (data_operand (ea % 8)) (either_held (eqb (ea / 32) 1) (data_operand x) (Immediate (count_at x)) x_held (immediate_held (count_at x) (omega (arith, count_lt)))) (data_held (ea % 8) (omega arith))
  decoded-holds group.ShiftMemory = shift (Immediate 1) o (immediate_held 1 (omega arith)) h
  decoded-holds group.BitField = bit_field_lem
  decoded-holds group.LineA = record { numbers = word_in (word_of line x opmode ea) (omega arith) }
  decoded-holds group.LineF = record { numbers = word_in (word_of line x opmode ea) (omega arith) }

-- ---- what reads: by the reader's tree
specifier_lt : (k : Specifier) (v : ℕ) → SpecifierStands k v → v < 2 ^ 32
specifier_lt specifier.Nothing v h = omega (arith, h)
specifier_lt specifier.Word v h = omega (arith, h.0)
specifier_lt specifier.Byte v h = omega (arith, h.0)
specifier_lt specifier.General v h = omega (arith, h.0)
specifier_lt specifier.Multiply v h = omega (arith, h.0)
specifier_lt specifier.Divide v h = omega (arith, h.0)
specifier_lt specifier.Compare v h = omega (arith, h.0)
specifier_lt specifier.BitField v h = omega (arith, h.0)
specifier_lt specifier.Long v h = h.0
specifier_lt specifier.CompareTwo v h = h.0

-- the place of an ordinary instruction is one of 99
place_in : (i : Instruction) → Ordinary i → leb (place_of i) 98 ≡ true
place_in i l =
    let r = row {d = λ k. true} i in
    let n = and-true (ltb (place_of (r.con r.z)) 99) _ (ap (λ t. t.0) (r.law (subst Ordinary (sym r.is) l) r.z)) in
    subst (λ (j : Instruction). leb (place_of j) 98 ≡ true) r.is (le-leb (place_of (r.con r.z)) 98 (omega (arith, ltb-true (place_of (r.con r.z)) 99 n.0)))

pub read-inside : (a : ℕ) (ws : List ℕ) (i : Instruction) (n : ℕ) → Words ws → read_of ws a ≡ Read i n → Ordinary i → Inside (form_of i)
unfolding read_of form_of
read-inside a [] i n h e l = let z : ◌≡◌ {A = ℕ} 0 1 = cc in absurd (omega arith)
read-inside a (w ∷ ws) i n h e l =
    let q = from-read (run (reader a) a 0 (w ∷ ws)) i n e in
    let line = w / 4096 in
    let x = w / 512 % 8 in
    let opmode = w / 64 % 8 in
    let ea = w % 64 in
    let s = group_at line x opmode in
    let y = layout_of s line x opmode ea in
    bind_then (tail_tree y) _ a 1 ws i q.0 q.1 q.2 (λ f m t e1 e2.
    let b = (tail_sound a y ws h.1 f m t e1).0 in
    let g = flat_got (decoded a s line x opmode ea f.value f.source f.destination) (decoded_flat a s line x opmode ea f.value f.source f.destination) a m t i q.0 q.1 e2 in
    let c = decoded-holds a line x opmode ea f.value f.source f.destination (omega (arith, h.0)) (omega arith) (omega arith) (omega arith) (specifier_lt y.specifier f.value b.1)
    (record { numbers = operand_in y.size (source_at a y f) y.source f.source b.2 }) (record { numbers = operand_in y.size (destination_at a y f) y.destination f.destination b.3 }) s in
    let k : Holds i = subst HoldsIn g.0 c in
    (place_in i l, k.numbers))
