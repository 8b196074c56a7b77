-- A size is 2 to 22, twice the words at any address, and does not depend on targets.
use Rattle.std.specs.Prelude.{ℕ, ◌*◌, ◌≤◌, ◌≡◌, refl, Bool, true, false, not, cond, List, ◌∷◌, ◌++◌, length}
use Rattle.std.proofs.Common.{sym, ap, ap₂, ◌∙◌, length-append, arith}
use Rattle.isa.specs.declared.Measured.{Measured}
use Rattle.isa.specs.declared.Size.TheVariants as size
use Rattle.isa.specs.declared.BranchSize.TheVariants as reach
use Rattle.isa.specs.declared.RegisterOperand.TheVariants.{Data}
use Rattle.isa.specs.declared.IndexRegister.{IndexRegister}
use Rattle.isa.specs.declared.Operand.{Operand}
use Rattle.isa.specs.declared.Operand.TheVariants.{Immediate, Register, Indirect, PostIndirect, PreIndirect, IndirectDisplacement, IndirectIndex, PcDisplacement, PcIndex, Extended, Absolute}
use Rattle.isa.specs.declared.RegisterOperation.TheVariants.{ADDA, SUBA, CMPA, MOVEA, CMP, CHK2, CMP2}
use Rattle.isa.specs.declared.TransferOperation.TheVariants.{MOVEP, MOVES}
use Rattle.isa.specs.declared.PairOperation.TheVariants.{MOVE, ADD, SUB, ADDX, SUBX, CMPM, OR, AND, EOR}
use Rattle.isa.specs.declared.WordOperation.TheVariants.{DIVx, MULx}
use Rattle.isa.specs.declared.UnsizedRegisterOperation.TheVariants.{LEA, CHK, CHKL}
use Rattle.isa.specs.declared.UnsizedOneOperation.TheVariants.{PEA, NBCD, JSR, JMP, TAS, MOVEtoCCR, MOVEfromCCR, MOVEtoSR, MOVEfromSR}
use Rattle.isa.specs.declared.UnsizedPairOperation.TheVariants.{ABCD, SBCD, BTST, BCLR, BSET, BCHG}
use Rattle.isa.specs.declared.OneOperation.TheVariants.{CLR, NEG, NEGX, NOT, TST}
use Rattle.isa.specs.declared.BranchOperation.TheVariants.{BRA, BSR}
use Rattle.isa.specs.declared.PackOperation.TheVariants.{PACK, UNPK}
use Rattle.isa.specs.declared.Instruction.{Instruction}
use Rattle.isa.specs.declared.Instruction.TheVariants.{IntoRegister, MOVEM, Transfer, Pair, Quick, ImmediateInto, WordIntoData, UnsizedIntoRegister, UnsizedOne, UnsizedPair, OneOperand, Bcc, Scc, DBcc, Branch, Shift, MULL, Pack, CAS, BF, DIVL}
use Rattle.encode_spec.specs.Item.{Item, Part, Verdict, failure, words_in, laid, check, fine, malformed, out_of_range, no_encoding, operation, allow}
use Rattle.isa_spec.specs.Code.{move_code}
use Rattle.encode_spec.specs.Encode.{items_of, words_of, refusal_of, measured_as, size_of}
use Rattle.isa_spec.specs.Mode.{every_column}
use Rattle.encode_spec.specs.Ea.{permits, byte_of_address, ea_field, effective, is_register, is_immediate, typed, single, with_data, with_address, from_data}
use Rattle.encode_spec.specs.Movement.{move_parts, movea_parts, movem_parts, movep_parts}
use Rattle.encode_spec.specs.Arithmetic.{immediate_parts, quick_parts, into_data_parts, arithmetic_parts, into_address_parts, bounds_parts, extended_parts, cmpm_parts, mull_parts, divl_parts, tst_parts}
use Rattle.encode_spec.specs.Logic.{logical_parts, shift_parts, shift_register_parts, shift_memory_parts}
use Rattle.encode_spec.specs.Bits.{bit_parts, dynamic_parts, static_parts, bit_field_parts, pack_parts}
use Rattle.encode_spec.specs.Control.{branch_parts, bcc_parts, dbcc_parts, scc_parts}
use Rattle.encode_spec.specs.System.{moves_parts, cas_parts}
use Rattle.encode_spec.specs.Instruction.{register_parts, transfer_parts, pair_parts, word_parts, unsized_register_parts, unsized_one_parts, unsized_pair_parts, one_parts, branches_parts, packs_parts}
use Rattle.encode_facts.specs.Items.{failure_append, words_in_append, words_count}
use Rattle.m68k_facts.specs.Lays.{alike_count, instruction_lays}

-- ---- 2 to 22, and twice the words
measured-most : (v : Verdict) (k : ℕ) → (measured_as v k).size ≤ k
measured-most fine k = omega arith
measured-most malformed k = omega arith
measured-most (out_of_range f z) k = omega arith
measured-most (no_encoding r) k = omega arith

measured-size : (v : Verdict) (k : ℕ) → (measured_as v k).number ≡ 0 → (measured_as v k).size ≡ k
measured-size fine k h = refl
measured-size malformed k h = absurd (omega arith)
measured-size (out_of_range f z) k h = absurd (omega arith)
measured-size (no_encoding r) k h = absurd (omega arith)

pub size-most : (i : Instruction) → (size_of i).size ≤ 22
unfolding size_of
size-most i = omega (arith, measured-most (refusal_of false i 0) (2 * length (words_of i 0)), words_count (items_of i 0), (instruction_lays i).most 0)

pub size_words : (i : Instruction) → (size_of i).number ≡ 0 → (a : ℕ) → (size_of i).size ≡ 2 * length (words_of i a)
unfolding size_of
size_words i h a =
    measured-size (refusal_of false i 0) (2 * length (words_of i 0)) h
    ∙ ap (λ (n : ℕ). 2 * n) (words_count (items_of i 0) ∙ alike_count (items_of i 0) (items_of i a) ((instruction_lays i).alike 0 a) ∙ sym (words_count (items_of i a)))

pub size_least : (i : Instruction) → (size_of i).number ≡ 0 → 2 ≤ (size_of i).size
size_least i h = omega (arith, size_words i h 0, words_count (items_of i 0), (instruction_lays i).least 0)

-- ---- targets
-- an operand without its target
abbrev pub untargeted : Operand → Operand
untargeted (Immediate v) = Immediate v
untargeted (Register r) = Register r
untargeted (Indirect k) = Indirect k
untargeted (PostIndirect k) = PostIndirect k
untargeted (PreIndirect k) = PreIndirect k
untargeted (IndirectDisplacement z base) = IndirectDisplacement z base
untargeted (IndirectIndex base z x) = IndirectIndex base z x
untargeted (PcDisplacement t) = PcDisplacement 0
untargeted (PcIndex t x) = PcIndex 0 x
untargeted (Extended base w z outer) = Extended base w z outer
untargeted (Absolute a w) = Absolute a w

-- where an operand stands in an instruction
pub data Hole : (Operand → Instruction) → Type 0 where
  into_register_lem : {op r s : _} → Hole (λ o. IntoRegister op o r s)
  movem : {d s mask : _} → Hole (λ o. MOVEM d s mask o)
  transfer : {op d s r : _} → Hole (λ o. Transfer op d s r o)
  source : {op d s : _} → Hole (λ o. Pair op o d s)
  destination : {op o s : _} → Hole (λ d. Pair op o d s)
  quick : {op v s : _} → Hole (λ o. Quick op v o s)
  immediate_into_lem : {op v s : _} → Hole (λ o. ImmediateInto op v o s)
  word_into_data_lem : {op r sign : _} → Hole (λ o. WordIntoData op o r sign)
  unsized_into_register_lem : {op r : _} → Hole (λ o. UnsizedIntoRegister op o r)
  unsized-one : {op : _} → Hole (λ o. UnsizedOne op o)
  unsized_source : {op d : _} → Hole (λ o. UnsizedPair op o d)
  unsized_destination : {op o : _} → Hole (λ d. UnsizedPair op o d)
  one-operand : {op s : _} → Hole (λ o. OneOperand op o s)
  scc : {c : _} → Hole (λ o. Scc o c)
  count : {op d direction s : _} → Hole (λ o. Shift op o d direction s)
  shifted : {op o direction s : _} → Hole (λ d. Shift op o d direction s)
  mull : {low high sign : _} → Hole (λ o. MULL o low high sign)
  packed : {op d v : _} → Hole (λ o. Pack op o d v)
  unpacked : {op o v : _} → Hole (λ d. Pack op o d v)
  cas : {c u s : _} → Hole (λ o. CAS c u o s)
  bf : {op f r : _} → Hole (λ o. BF op o f r)
  divl : {q r wide sign : _} → Hole (λ o. DIVL o q r wide sign)

-- where a branch's target stands
pub data Aim : (ℕ → Instruction) → Type 0 where
  bcc : {c s : _} → Aim (λ t. Bcc t c s)
  dbcc : {r c : _} → Aim (λ t. DBcc r t c)
  branch : {op s : _} → Aim (λ t. Branch op t s)

-- what `size` says of items, and of items behind others
abbrev weight : List Item → Measured
weight xs = measured_as (failure false xs) (2 * length (words_in xs))

behind : (xs ys zs : List Item) → failure false ys ≡ failure false zs → length (words_in ys) ≡ length (words_in zs) → weight (xs ++ ys) ≡ weight (xs ++ zs)
behind xs ys zs e k =
    rw (failure_append false xs ys, failure_append false xs zs, words_in_append xs ys, words_in_append xs zs, length-append (words_in xs) (words_in ys), length-append (words_in xs) (words_in zs), e, k)

-- two values either way of a test
either : {A B : Type 0} (b : Bool) (F : A → B) {x y x₂ y₂ u v u₂ v₂ : A} → ◌≡◌ {A = B × B} (F x, F x₂) (F u, F u₂) → ◌≡◌ {A = B × B} (F y, F y₂) (F v, F v₂)
    → ◌≡◌ {A = B × B} (F (cond b x y), F (cond b x₂ y₂)) (F (cond b u v), F (cond b u₂ v₂))
either true F p q = p
either false F p q = q

-- `size`, and all that it computes with
computed : Instruction → Measured
unfolding size_of permits byte_of_address single with_data with_address from_data move_parts movea_parts movem_parts movep_parts immediate_parts quick_parts into_data_parts arithmetic_parts into_address_parts bounds_parts extended_parts cmpm_parts mull_parts divl_parts tst_parts logical_parts shift_parts shift_register_parts shift_memory_parts bit_parts dynamic_parts static_parts bit_field_parts pack_parts branch_parts bcc_parts dbcc_parts scc_parts moves_parts cas_parts register_parts transfer_parts pair_parts word_parts unsized_register_parts unsized_one_parts unsized_pair_parts one_parts branches_parts packs_parts
computed i = size_of i

-- with a displacement and with an index from the program counter
abbrev Sizes : (Operand → Instruction) → ℕ → IndexRegister → Measured × Measured
Sizes c t x = (size_of (c (PcDisplacement t)), size_of (c (PcIndex t x)))

steady : {c : Operand → Instruction} → Hole c → (t : ℕ) (x : IndexRegister) → Sizes c 0 x ≡ Sizes c t x
unfolding computed
steady (into_register_lem {op = ADDA}) t x = refl
steady (into_register_lem {op = SUBA}) t x = refl
steady (into_register_lem {op = CMPA}) t x = refl
steady (into_register_lem {op = MOVEA}) t x = refl
steady (into_register_lem {op = CMP}) t x = refl
steady (into_register_lem {op = CHK2}) t x = refl
steady (into_register_lem {op = CMP2}) t x = refl
steady movem t x = refl
steady (transfer {op = MOVEP}) t x = refl
steady (transfer {op = MOVES}) t x = refl
steady (source {op = MOVE} {d}) t x = refl
steady (source {op = ADD} {d}) t x =
    let F : List Part → Measured = λ ps. weight (check fine ∷ typed d ∷ laid ps 0) in
    let r = is_register d in
    either r F refl refl
steady (source {op = SUB} {d}) t x =
    let F : List Part → Measured = λ ps. weight (check fine ∷ typed d ∷ laid ps 0) in
    let r = is_register d in
    either r F refl refl
steady (source {op = ADDX} {d}) t x = refl
steady (source {op = SUBX} {d}) t x = refl
steady (source {op = CMPM} {d}) t x = refl
steady (source {op = OR} {d}) t x =
    let F : List Part → Measured = λ ps. weight (check fine ∷ typed d ∷ laid ps 0) in
    let r = is_register d in
    either r F refl refl
steady (source {op = AND} {d}) t x =
    let F : List Part → Measured = λ ps. weight (check fine ∷ typed d ∷ laid ps 0) in
    let r = is_register d in
    either r F refl refl
steady (source {op = EOR} {d}) t x = refl
steady (destination {op = MOVE} {o} {s}) t x =
    let xs : ℕ → List Item = λ field. typed o ∷ check fine ∷ operation (move_code s) field 7 (ea_field o) ∷ allow (not (byte_of_address s o)) 7 ∷ effective o s every_column 8 2 in
    ap₂ (λ p q. (p, q)) (behind (xs 2) _ _ refl refl) (behind (xs 3) _ _ refl refl)
steady (destination {op = ADD} {o} {s}) t x = refl
steady (destination {op = SUB} {o} {s}) t x = refl
steady (destination {op = ADDX} {o} {s}) t x = refl
steady (destination {op = SUBX} {o} {s}) t x = refl
steady (destination {op = CMPM} {o} {s}) t x = refl
steady (destination {op = OR} {o} {s}) t x = refl
steady (destination {op = AND} {o} {s}) t x = refl
steady (destination {op = EOR} {o} {s}) t x = refl
steady quick t x = refl
steady (immediate_into_lem {op} {v} {s = size.Byte}) t x = refl
steady (immediate_into_lem {op} {v} {s = size.Word}) t x = refl
steady (immediate_into_lem {op} {v} {s = size.Long}) t x = refl
steady (word_into_data_lem {op = DIVx}) t x = refl
steady (word_into_data_lem {op = MULx}) t x = refl
steady (unsized_into_register_lem {op = LEA}) t x = refl
steady (unsized_into_register_lem {op = CHK}) t x = refl
steady (unsized_into_register_lem {op = CHKL}) t x = refl
steady (unsized-one {op = PEA}) t x = refl
steady (unsized-one {op = NBCD}) t x = refl
steady (unsized-one {op = JSR}) t x = refl
steady (unsized-one {op = JMP}) t x = refl
steady (unsized-one {op = TAS}) t x = refl
steady (unsized-one {op = MOVEtoCCR}) t x = refl
steady (unsized-one {op = MOVEfromCCR}) t x = refl
steady (unsized-one {op = MOVEtoSR}) t x = refl
steady (unsized-one {op = MOVEfromSR}) t x = refl
steady (unsized_source {op = ABCD}) t x = refl
steady (unsized_source {op = SBCD}) t x = refl
steady (unsized_source {op = BTST}) t x = refl
steady (unsized_source {op = BCLR}) t x = refl
steady (unsized_source {op = BSET}) t x = refl
steady (unsized_source {op = BCHG}) t x = refl
steady (unsized_destination {op = ABCD} {o}) t x = refl
steady (unsized_destination {op = SBCD} {o}) t x = refl
steady (unsized_destination {op = BTST} {o}) t x =
    let F : List Part → Measured = λ ps. weight (typed o ∷ check fine ∷ laid ps 0) in
    let r = is_register o in
    let i = is_immediate o in
    either r F refl (either i F refl refl)
steady (unsized_destination {op = BCLR} {o}) t x =
    let F : List Part → Measured = λ ps. weight (typed o ∷ check fine ∷ laid ps 0) in
    let r = is_register o in
    let i = is_immediate o in
    either r F refl (either i F refl refl)
steady (unsized_destination {op = BSET} {o}) t x =
    let F : List Part → Measured = λ ps. weight (typed o ∷ check fine ∷ laid ps 0) in
    let r = is_register o in
    let i = is_immediate o in
    either r F refl (either i F refl refl)
steady (unsized_destination {op = BCHG} {o}) t x =
    let F : List Part → Measured = λ ps. weight (typed o ∷ check fine ∷ laid ps 0) in
    let r = is_register o in
    let i = is_immediate o in
    either r F refl (either i F refl refl)
steady (one-operand {op = CLR}) t x = refl
steady (one-operand {op = NEG}) t x = refl
steady (one-operand {op = NEGX}) t x = refl
steady (one-operand {op = NOT}) t x = refl
steady (one-operand {op = TST}) t x = refl
steady scc t x = refl
steady (count {op} {d}) t x = either (is_register d) (λ ps. weight (check fine ∷ typed d ∷ laid ps 0)) refl refl
steady shifted t x = refl
steady mull t x = refl
steady (packed {op = PACK}) t x = refl
steady (packed {op = UNPK}) t x = refl
steady (unpacked {op = PACK}) t x = refl
steady (unpacked {op = UNPK}) t x = refl
steady cas t x = refl
steady bf t x = refl
steady divl t x = refl

pub untargeted-size : {c : Operand → Instruction} → Hole c → (o : Operand) → size_of (c (untargeted o)) ≡ size_of (c o)
untargeted-size h (Immediate v) = refl
untargeted-size h (Register r) = refl
untargeted-size h (Indirect k) = refl
untargeted-size h (PostIndirect k) = refl
untargeted-size h (PreIndirect k) = refl
untargeted-size h (IndirectDisplacement z base) = refl
untargeted-size h (IndirectIndex base z x) = refl
untargeted-size h (PcDisplacement t) = ap (λ p. p.0) (steady h t (record { register = Data 0; size = size.Byte }))
untargeted-size h (PcIndex t x) = ap (λ p. p.1) (steady h t x)
untargeted-size h (Extended base w z outer) = refl
untargeted-size h (Absolute a w) = refl

pub aim_size : {c : ℕ → Instruction} → Aim c → (t : ℕ) → size_of (c 0) ≡ size_of (c t)
unfolding computed
aim_size (bcc {c} {s = reach.Short}) t = refl
aim_size (bcc {c} {s = reach.Word}) t = refl
aim_size (bcc {c} {s = reach.Long}) t = refl
aim_size dbcc t = refl
aim_size (branch {op = BRA} {s = reach.Short}) t = refl
aim_size (branch {op = BRA} {s = reach.Word}) t = refl
aim_size (branch {op = BRA} {s = reach.Long}) t = refl
aim_size (branch {op = BSR} {s = reach.Short}) t = refl
aim_size (branch {op = BSR} {s = reach.Word}) t = refl
aim_size (branch {op = BSR} {s = reach.Long}) t = refl
