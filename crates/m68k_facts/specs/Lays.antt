-- How many words the parts of an instruction lay down, and that an address changes only what the words hold and the ranges.
use Rattle.std.specs.Prelude.{ℕ, ◌+◌, ◌≤◌, Bool, true, false, cond, List, [], ◌∷◌, ◌++◌, ◌≡◌, refl, T, leb, ℤ, pos}
use Rattle.std.proofs.Common.{ap, lit≤, arith}
use Rattle.isa.specs.declared.Size.{Size}
use Rattle.isa.specs.declared.Size.TheVariants.{Byte, Word, Long}
use Rattle.isa.specs.declared.AddressWidth.TheVariants as width
use Rattle.isa.specs.declared.DisplacementSize.{DisplacementSize}
use Rattle.isa.specs.declared.DisplacementSize.TheVariants as displacement
use Rattle.isa.specs.declared.Operand.{Operand}
use Rattle.isa.specs.declared.Operand.TheVariants.{Immediate, Register, Indirect, PostIndirect, PreIndirect, IndirectDisplacement, IndirectIndex, PcDisplacement, PcIndex, Extended, Absolute}
use Rattle.isa.specs.declared.RegisterOperand.{RegisterOperand}
use Rattle.isa.specs.declared.Field.{Field}
use Rattle.isa.specs.declared.Field.TheVariants as field
use Rattle.isa.specs.declared.RegisterOperation.TheVariants.{ADDA, SUBA, CMPA, MOVEA, CMP, CHK2, CMP2}
use Rattle.isa.specs.declared.RegisterOperation.{RegisterOperation}
use Rattle.isa.specs.declared.TransferOperation.{TransferOperation}
use Rattle.isa.specs.declared.TransferOperation.TheVariants.{MOVEP, MOVES}
use Rattle.isa.specs.declared.TargetDirection.{TargetDirection}
use Rattle.isa.specs.declared.PairOperation.{PairOperation}
use Rattle.isa.specs.declared.PairOperation.TheVariants.{MOVE, ADD, SUB, ADDX, SUBX, CMPM, OR, AND, EOR}
use Rattle.isa.specs.declared.ImmediateOperation.{ImmediateOperation}
use Rattle.isa.specs.declared.Sign.{Sign}
use Rattle.isa.specs.declared.WordOperation.{WordOperation}
use Rattle.isa.specs.declared.WordOperation.TheVariants.{DIVx, MULx}
use Rattle.isa.specs.declared.UnsizedRegisterOperation.{UnsizedRegisterOperation}
use Rattle.isa.specs.declared.UnsizedRegisterOperation.TheVariants.{LEA, CHK, CHKL}
use Rattle.isa.specs.declared.UnsizedOneOperation.{UnsizedOneOperation}
use Rattle.isa.specs.declared.UnsizedOneOperation.TheVariants.{PEA, NBCD, JSR, JMP, TAS, MOVEtoCCR, MOVEfromCCR, MOVEtoSR, MOVEfromSR}
use Rattle.isa.specs.declared.UnsizedPairOperation.{UnsizedPairOperation}
use Rattle.isa.specs.declared.UnsizedPairOperation.TheVariants.{ABCD, SBCD, BTST, BCLR, BSET, BCHG}
use Rattle.isa.specs.declared.OneOperation.{OneOperation}
use Rattle.isa.specs.declared.OneOperation.TheVariants.{CLR, NEG, NEGX, NOT, TST}
use Rattle.isa.specs.declared.ShiftOperation.{ShiftOperation}
use Rattle.isa.specs.declared.ShiftDirection.{ShiftDirection}
use Rattle.isa.specs.declared.PackOperation.{PackOperation}
use Rattle.isa.specs.declared.PackOperation.TheVariants.{PACK, UNPK}
use Rattle.isa.specs.declared.BranchOperation.{BranchOperation}
use Rattle.isa.specs.declared.BranchOperation.TheVariants.{BRA, BSR}
use Rattle.isa.specs.declared.BranchSize.{BranchSize}
use Rattle.isa.specs.declared.BranchSize.TheVariants as branch
use Rattle.isa.specs.declared.LinkOperation.{LinkOperation}
use Rattle.isa.specs.declared.LinkOperation.TheVariants.{LINK, LINKL}
use Rattle.isa.specs.declared.VectorOperation.{VectorOperation}
use Rattle.isa.specs.declared.VectorOperation.TheVariants.{TRAP, BKPT}
use Rattle.isa.specs.declared.RawOperation.{RawOperation}
use Rattle.isa.specs.declared.RawOperation.TheVariants.{LINEA, LINEF, IllegalWord}
use Rattle.isa.specs.declared.NoOperandOperation.{NoOperandOperation}
use Rattle.isa.specs.declared.NoOperandOperation.TheVariants.{RTE, RESET, RTR, TRAPV, ILLEGAL, RTS, NOP, SIMHALT}
use Rattle.isa.specs.declared.StatusOperation.{StatusOperation}
use Rattle.isa.specs.declared.StatusOperation.TheVariants.{ANDItoSR, ORItoSR, EORItoSR, STOP}
use Rattle.isa.specs.declared.ConditionCodeOperation.{ConditionCodeOperation}
use Rattle.isa.specs.declared.ConditionCodeOperation.TheVariants.{ANDItoCCR, ORItoCCR, EORItoCCR}
use Rattle.isa.specs.declared.TrapOperand.{TrapOperand}
use Rattle.isa.specs.declared.TrapOperand.TheVariants as trap
use Rattle.isa.specs.declared.Condition.{Condition}
use Rattle.isa.specs.declared.Condition.TheVariants.{True, False}
use Rattle.isa.specs.declared.QuickOperation.{QuickOperation}
use Rattle.isa.specs.declared.Instruction.{Instruction}
use Rattle.isa.specs.declared.Instruction.TheVariants.{IntoRegister, MOVEM, Transfer, Pair, Quick, MOVEQ, ImmediateInto, WordIntoData, SWAP, EXG, UnsizedIntoRegister, UnsizedOne, UnsizedPair, EXT, OneOperand, Bcc, Scc, DBcc, Branch, Link, UNLK, Shift, Vector, Status, ConditionCode, MOVEUSP, Raw, NoOperand, RTD, MOVEC, TRAPcc, MULL, Pack, CAS, CAS2, BF, DIVL}
use Rattle.isa_spec.specs.Code.{size_code}
use Rattle.encode_spec.specs.Movement.{move_parts, movea_parts, movem_parts, movep_parts, moveq_parts, exg_parts, link_parts, linkl_parts, unlk_parts}
use Rattle.encode_spec.specs.Arithmetic.{immediate_parts, quick_parts, into_data_parts, arithmetic_parts, into_address_parts, bounds_parts, extended_parts, cmpm_parts, mull_parts, divl_parts, tst_parts, ext_parts, swap_parts}
use Rattle.encode_spec.specs.Logic.{logical_parts, shift_parts, shift_register_parts, shift_memory_parts, count_items}
use Rattle.encode_spec.specs.Bits.{bit_parts, dynamic_parts, static_parts, bit_field_parts, pack_parts}
use Rattle.encode_spec.specs.Control.{branch_parts, bcc_parts, dbcc_parts, scc_parts, trapcc_parts, rtd_parts, relative_word, relative_long, short_branch}
use Rattle.encode_spec.specs.System.{status_parts, condition_code_parts, vector_parts, moveusp_parts, movec_parts, moves_parts, cas_parts, cas2_parts, raw_parts, no_operand_parts}
use Rattle.encode_spec.specs.Instruction.{parts_of, register_parts, transfer_parts, pair_parts, word_parts, unsized_register_parts, unsized_one_parts, unsized_pair_parts, one_parts, branches_parts, links_parts, packs_parts}
use Rattle.isa_spec.specs.ExtensionWord.{is_full, base_size, outer_size}
use Rattle.encode_spec.specs.Item.{Item, Part, Verdict, no_encoding, data_verdict, operation, word, check, range, fixed, count_of, laid, word_address, failure}
use Rattle.encode_spec.specs.Ea.{immediate_words, displacement_items, full_items, scaled_items, base_displacement, ea_items, effective, single, with_data, with_address, from_data, ea_field, is_register, is_immediate, register_in, immediate_in, memory_alterable}
use Rattle.isa_spec.specs.Mode.{data_column}
use Rattle.encode_facts.specs.Items.{count_append}

-- the same words and checks in the same order, whatever the words hold and the ranges ask
abbrev pub Alike : List Item → List Item → Type 0
Alike [] [] = Unit {0}
Alike [] (y ∷ ys) = ⊥
Alike (word w ∷ xs) [] = ⊥
Alike (word w ∷ xs) (word v ∷ ys) = Alike xs ys
Alike (word w ∷ xs) (check v ∷ ys) = ⊥
Alike (word w ∷ xs) (range f z ∷ ys) = ⊥
Alike (check u ∷ xs) [] = ⊥
Alike (check u ∷ xs) (word v ∷ ys) = ⊥
Alike (check u ∷ xs) (check v ∷ ys) = (u ≡ v) × Alike xs ys
Alike (check u ∷ xs) (range f z ∷ ys) = ⊥
Alike (range g y ∷ xs) [] = ⊥
Alike (range g y ∷ xs) (word v ∷ ys) = ⊥
Alike (range g y ∷ xs) (check v ∷ ys) = ⊥
Alike (range g y ∷ xs) (range f z ∷ ys) = Alike xs ys

pub alike_refl : (xs : List Item) → Alike xs xs
alike_refl [] = tt
alike_refl (word w ∷ xs) = alike_refl xs
alike_refl (check v ∷ xs) = (refl, alike_refl xs)
alike_refl (range f z ∷ xs) = alike_refl xs

pub alike_append : (xs ys us vs : List Item) → Alike xs ys → Alike us vs → Alike (xs ++ us) (ys ++ vs)
alike_append [] [] us vs h k = k
alike_append [] (y ∷ ys) us vs h k = absurd h
alike_append (word w ∷ xs) [] us vs h k = absurd h
alike_append (word w ∷ xs) (word v ∷ ys) us vs h k = alike_append xs ys us vs h k
alike_append (word w ∷ xs) (check v ∷ ys) us vs h k = absurd h
alike_append (word w ∷ xs) (range f z ∷ ys) us vs h k = absurd h
alike_append (check u ∷ xs) [] us vs h k = absurd h
alike_append (check u ∷ xs) (word v ∷ ys) us vs h k = absurd h
alike_append (check u ∷ xs) (check v ∷ ys) us vs h k = (h.0, alike_append xs ys us vs h.1 k)
alike_append (check u ∷ xs) (range f z ∷ ys) us vs h k = absurd h
alike_append (range g y ∷ xs) [] us vs h k = absurd h
alike_append (range g y ∷ xs) (word v ∷ ys) us vs h k = absurd h
alike_append (range g y ∷ xs) (check v ∷ ys) us vs h k = absurd h
alike_append (range g y ∷ xs) (range f z ∷ ys) us vs h k = alike_append xs ys us vs h k

pub alike_count : (xs ys : List Item) → Alike xs ys → count_of xs ≡ count_of ys
alike_count [] [] h = refl
alike_count [] (y ∷ ys) h = absurd h
alike_count (word w ∷ xs) [] h = absurd h
alike_count (word w ∷ xs) (word v ∷ ys) h = ap (λ (n : ℕ). n + 1) (alike_count xs ys h)
alike_count (word w ∷ xs) (check v ∷ ys) h = absurd h
alike_count (word w ∷ xs) (range f z ∷ ys) h = absurd h
alike_count (check u ∷ xs) [] h = absurd h
alike_count (check u ∷ xs) (word v ∷ ys) h = absurd h
alike_count (check u ∷ xs) (check v ∷ ys) h = alike_count xs ys h.1
alike_count (check u ∷ xs) (range f z ∷ ys) h = absurd h
alike_count (range g y ∷ xs) [] h = absurd h
alike_count (range g y ∷ xs) (word v ∷ ys) h = absurd h
alike_count (range g y ∷ xs) (check v ∷ ys) h = absurd h
alike_count (range g y ∷ xs) (range f z ∷ ys) h = alike_count xs ys h

-- what `size` says of them is the same
pub alike_failure : (xs ys : List Item) → Alike xs ys → failure false xs ≡ failure false ys
alike_failure [] [] h = refl
alike_failure [] (y ∷ ys) h = absurd h
alike_failure (word w ∷ xs) [] h = absurd h
alike_failure (word w ∷ xs) (word v ∷ ys) h = alike_failure xs ys h
alike_failure (word w ∷ xs) (check v ∷ ys) h = absurd h
alike_failure (word w ∷ xs) (range f z ∷ ys) h = absurd h
alike_failure (check u ∷ xs) [] h = absurd h
alike_failure (check u ∷ xs) (word v ∷ ys) h = absurd h
alike_failure (check u ∷ xs) (check v ∷ ys) h = rw (h.0, alike_failure xs ys h.1)
alike_failure (check u ∷ xs) (range f z ∷ ys) h = absurd h
alike_failure (range g y ∷ xs) [] h = absurd h
alike_failure (range g y ∷ xs) (word v ∷ ys) h = absurd h
alike_failure (range g y ∷ xs) (check v ∷ ys) h = absurd h
alike_failure (range g y ∷ xs) (range f z ∷ ys) h = alike_failure xs ys h

-- parts that lay down m to n words wherever they stand, and are alike everywhere
pub record Lays (m n : ℕ) (ps : List Part) : Type 0 where
  pub least : (a : ℕ) → m ≤ count_of (laid ps a)
  pub most : (a : ℕ) → count_of (laid ps a) ≤ n
  pub alike : (a b : ℕ) → Alike (laid ps a) (laid ps b)

pub none : Lays 0 0 []
none = record { least = λ a. omega arith; most = λ a. omega arith; alike = λ a b. tt }

-- a part of j to k words before them
pub then : (j k m n : ℕ) (p : Part) (ps : List Part)
    → ((a : ℕ) → j ≤ count_of (p a)) → ((a : ℕ) → count_of (p a) ≤ k) → ((a b : ℕ) → Alike (p a) (p b))
    → Lays m n ps → Lays (j + m) (k + n) (p ∷ ps)
then j k m n p ps l u s h =
    record {
      least = λ a. let r = word_address a (count_of (p a)) in rw (count_append (p a) (laid ps r)) (omega (arith, l a, h.least r));
      most = λ a. let r = word_address a (count_of (p a)) in rw (count_append (p a) (laid ps r)) (omega (arith, u a, h.most r));
      alike = λ a b. alike_append (p a) (p b) _ _ (s a b) (h.alike (word_address a (count_of (p a))) (word_address b (count_of (p b))));
    }

pub fixed_then : (m n : ℕ) (xs : List Item) (ps : List Part) → Lays m n ps → Lays (count_of xs + m) (count_of xs + n) (fixed xs ∷ ps)
fixed_then m n xs ps h = then (count_of xs) (count_of xs) m n (fixed xs) ps (λ a. omega arith) (λ a. omega arith) (λ a b. alike_refl xs) h

pub wider : (j k m n : ℕ) (ps : List Part) → j ≤ m → n ≤ k → Lays m n ps → Lays j k ps
wider j k m n ps p q h =
    record { least = λ a. omega (arith, h.least a); most = λ a. omega (arith, h.most a); alike = h.alike }

pub either : (m n : ℕ) (b : Bool) (ps qs : List Part) → Lays m n ps → Lays m n qs → Lays m n (cond b ps qs)
either m n true ps qs h k = h
either m n false ps qs h k = k

-- an operand has at most five extension words
immediate_most : (v : ℕ) (s : Size) → count_of (immediate_words v s) ≤ 5
immediate_most v Byte = lit≤ tt
immediate_most v Word = lit≤ tt
immediate_most v Long = lit≤ tt

displacement_most : (d : DisplacementSize) (z : ℤ) (f : Field) → count_of (displacement_items d z f) ≤ 2
displacement_most displacement.Null z f = lit≤ tt
displacement_most displacement.Word z f = lit≤ tt
displacement_most displacement.Long z f = lit≤ tt

full-most : (w : ℕ) (z outer : ℤ) → count_of (full_items w z outer) ≤ 5
full-most w z outer =
    rw (count_append (displacement_items (base_size w) z field.BaseDisplacement) (displacement_items (outer_size w) outer field.OuterDisplacement))
    (omega (arith, displacement_most (base_size w) z field.BaseDisplacement, displacement_most (outer_size w) outer field.OuterDisplacement))

displacement_alike : (d : DisplacementSize) (z y : ℤ) (f : Field) → Alike (displacement_items d z f) (displacement_items d y f)
displacement_alike displacement.Null z y f = tt
displacement_alike displacement.Word z y f = tt
displacement_alike displacement.Long z y f = tt

cond_most : (b : Bool) (xs ys : List Item) (n : ℕ) → count_of xs ≤ n → count_of ys ≤ n → count_of (cond b xs ys) ≤ n
cond_most true xs ys n p q = p
cond_most false xs ys n p q = q

cond_alike : (b : Bool) (xs ys us vs : List Item) → Alike xs us → Alike ys vs → Alike (cond b xs ys) (cond b us vs)
cond_alike true xs ys us vs p q = p
cond_alike false xs ys us vs p q = q

pub ea_most : (o : Operand) (s : Size) (a : ℕ) → count_of (ea_items o s a) ≤ 5
ea_most (Immediate v) s a = immediate_most v s
ea_most (Register r) s a = lit≤ tt
ea_most (Indirect n) s a = lit≤ tt
ea_most (PostIndirect n) s a = lit≤ tt
ea_most (PreIndirect n) s a = lit≤ tt
ea_most (IndirectDisplacement z base) s a = lit≤ tt
ea_most (IndirectIndex base z x) s a = lit≤ tt
ea_most (PcDisplacement t) s a = lit≤ tt
ea_most (PcIndex t x) s a = lit≤ tt
ea_most (Extended base w z outer) s a =
    cond_most (is_full w) (full_items w (base_displacement base w z a) outer) (scaled_items base w (base_displacement base w z a)) 5
    (full-most w (base_displacement base w z a) outer) (lit≤ tt)
ea_most (Absolute v width.Word) s a = lit≤ tt
ea_most (Absolute v width.Long) s a = lit≤ tt

pub ea_alike : (o : Operand) (s : Size) (a b : ℕ) → Alike (ea_items o s a) (ea_items o s b)
ea_alike (Immediate v) s a b = alike_refl (ea_items (Immediate v) s a)
ea_alike (Register r) s a b = (refl, tt)
ea_alike (Indirect n) s a b = (refl, tt)
ea_alike (PostIndirect n) s a b = (refl, tt)
ea_alike (PreIndirect n) s a b = (refl, tt)
ea_alike (IndirectDisplacement z base) s a b = (refl, tt)
ea_alike (IndirectIndex base z x) s a b = (refl, (refl, (refl, tt)))
ea_alike (PcDisplacement t) s a b = tt
ea_alike (PcIndex t x) s a b = (refl, (refl, tt))
ea_alike (Extended base w z outer) s a b =
    cond_alike (is_full w) _ _ _ _
    (alike_append (displacement_items (base_size w) (base_displacement base w z a) _) (displacement_items (base_size w) (base_displacement base w z b) _) _ _
    (displacement_alike (base_size w) _ _ _) (displacement_alike (outer_size w) _ _ _))
    tt
ea_alike (Absolute v width) s a b = alike_refl (ea_items (Absolute v width) s a)

pub effective_then : (m n : ℕ) (o : Operand) (s : Size) (allowed : List Bool) (reason : ℕ) (ps : List Part) → Lays m n ps → Lays m (5 + n) (effective o s allowed reason ∷ ps)
effective_then m n o s allowed reason ps h =
    wider m (5 + n) (0 + m) (5 + n) (effective o s allowed reason ∷ ps) (omega arith) (omega arith)
    (then 0 5 m n (effective o s allowed reason) ps (λ a. omega arith) (λ a. ea_most o s a) (λ a b. (refl, ea_alike o s a b)) h)

-- ---- the forms
single_lays : (line x opmode : ℕ) (o : Operand) (s : Size) (allowed : List Bool) (reason : ℕ) → Lays 1 6 (single line x opmode o s allowed reason)
unfolding single
single_lays line x opmode o s allowed reason = fixed_then 0 5 _ _ (effective_then 0 0 o s allowed reason [] none)

data_lays : (line : ℕ) (r : RegisterOperand) (opmode : ℕ) (o : Operand) (s : Size) (allowed : List Bool) (reason : ℕ) → Lays 1 6 (with_data line r opmode o s allowed reason)
unfolding with_data
data_lays line r opmode o s allowed reason = fixed_then 0 5 _ _ (effective_then 0 0 o s allowed reason [] none)

address_lays : (line : ℕ) (r : RegisterOperand) (opmode : ℕ) (o : Operand) (s : Size) (allowed : List Bool) (reason : ℕ) → Lays 1 6 (with_address line r opmode o s allowed reason)
unfolding with_address
address_lays line r opmode o s allowed reason = fixed_then 0 5 _ _ (effective_then 0 0 o s allowed reason [] none)

from_lays : (line : ℕ) (allowed : List Bool) (reason : ℕ) (o d : Operand) (s : Size) → Lays 1 6 (from_data line allowed reason o d s)
unfolding from_data
from_lays line allowed reason o d s = fixed_then 1 6 _ _ (data_lays line _ _ d s allowed reason)

-- one to eleven words
pub up_to : (m n : ℕ) {ps : List Part} → T (leb 1 m) → T (leb n 11) → Lays m n ps → Lays 1 11 ps
up_to m n {ps} p q h = wider 1 11 m n ps (lit≤ p) (lit≤ q) h

-- parts after checks alone
checked : {ps : List Part} (xs : List Item) → count_of xs ≡ 0 → Lays 1 11 ps → Lays 1 11 (fixed xs ∷ ps)
checked {ps} xs e h = wider 1 11 (count_of xs + 1) (count_of xs + 11) (fixed xs ∷ ps) (omega arith) (omega arith) (fixed_then 1 11 xs ps h)

-- ---- data movement
move_lays : (o d : Operand) (s : Size) → Lays 1 11 (move_parts o d s)
unfolding move_parts
move_lays o d s = fixed_then 0 10 _ _ (effective_then 0 5 o s _ _ _ (effective_then 0 0 d s _ _ _ none))

movea_lays : (o : Operand) (r : RegisterOperand) (s : Size) → Lays 1 11 (movea_parts o r s)
unfolding movea_parts
movea_lays o r s = checked _ refl (up_to 1 6 tt tt (address_lays _ r _ o s _ _))

movem_lays : (d : TargetDirection) (s : Size) (mask : ℕ) (o : Operand) → Lays 1 11 (movem_parts d s mask o)
unfolding movem_parts
movem_lays d s mask o = up_to 2 7 tt tt (fixed_then 0 5 _ _ (effective_then 0 0 o s _ _ _ none))

movep_lays : (d : TargetDirection) (s : Size) (r : RegisterOperand) (o : Operand) → Lays 1 11 (movep_parts d s r o)
unfolding movep_parts
movep_lays d s r o = up_to 1 6 tt tt (fixed_then 0 5 _ _ (effective_then 0 0 o _ _ _ _ (fixed_then 0 0 _ _ none)))

moveq_lays : (v : ℕ) (r : RegisterOperand) → Lays 1 11 (moveq_parts v r)
unfolding moveq_parts
moveq_lays v r = up_to 1 1 tt tt (fixed_then 0 0 _ _ none)

exg_lays : (x y : RegisterOperand) → Lays 1 11 (exg_parts x y)
unfolding exg_parts
exg_lays x y = up_to 1 1 tt tt (fixed_then 0 0 _ _ none)

links_lays : (op : LinkOperation) (r : RegisterOperand) (d : ℕ) → Lays 1 11 (links_parts op r d)
unfolding links_parts link_parts linkl_parts
links_lays LINK r d = up_to 2 2 tt tt (fixed_then 0 0 _ _ none)
links_lays LINKL r d = up_to 3 3 tt tt (fixed_then 0 0 _ _ none)

unlk_lays : (r : RegisterOperand) → Lays 1 11 (unlk_parts r)
unfolding unlk_parts
unlk_lays r = up_to 1 1 tt tt (fixed_then 0 0 _ _ none)

-- ---- integer arithmetic
immediate_lays : (op : ImmediateOperation) (v : ℕ) (o : Operand) (s : Size) → Lays 1 11 (immediate_parts op v o s)
unfolding immediate_parts
immediate_lays op v o Byte = up_to 2 7 tt tt (fixed_then 0 5 _ _ (effective_then 0 0 o Byte _ _ _ none))
immediate_lays op v o Word = up_to 2 7 tt tt (fixed_then 0 5 _ _ (effective_then 0 0 o Word _ _ _ none))
immediate_lays op v o Long = up_to 3 8 tt tt (fixed_then 0 5 _ _ (effective_then 0 0 o Long _ _ _ none))

quick_lays : (op : QuickOperation) (n : ℕ) (o : Operand) (s : Size) → Lays 1 11 (quick_parts op n o s)
unfolding quick_parts
quick_lays op n o s = checked _ refl (up_to 1 6 tt tt (single_lays _ _ _ o s _ _))

into_lays : (line reason : ℕ) (o : Operand) (r : RegisterOperand) (s : Size) → Lays 1 11 (into_data_parts line reason o r s)
unfolding into_data_parts
into_lays line reason o r s = checked _ refl (up_to 1 6 tt tt (data_lays line r _ o s _ reason))

arithmetic_lays : (line : ℕ) (o d : Operand) (s : Size) → Lays 1 11 (arithmetic_parts line o d s)
unfolding arithmetic_parts
arithmetic_lays line o d s =
    either 1 11 (is_register d) (into_data_parts line 59 o (register_in d) s) (from_data line memory_alterable 60 o d s)
    (into_lays line 59 o (register_in d) s) (up_to 1 6 tt tt (from_lays line memory_alterable 60 o d s))

into_address_lays : (line reason : ℕ) (o : Operand) (r : RegisterOperand) (s : Size) → Lays 1 11 (into_address_parts line reason o r s)
unfolding into_address_parts
into_address_lays line reason o r s = checked _ refl (up_to 1 6 tt tt (address_lays line r _ o s _ reason))

bounds-lays : (trap : Bool) (o : Operand) (r : RegisterOperand) (s : Size) → Lays 1 11 (bounds_parts trap o r s)
unfolding bounds_parts
bounds-lays trap o r s = up_to 2 7 tt tt (fixed_then 0 5 _ _ (effective_then 0 0 o s _ _ _ none))

register_lays : (op : RegisterOperation) (o : Operand) (r : RegisterOperand) (s : Size) → Lays 1 11 (register_parts op o r s)
unfolding register_parts
register_lays ADDA o r s = into_address_lays 13 44 o r s
register_lays SUBA o r s = into_address_lays 9 37 o r s
register_lays CMPA o r s = into_address_lays 11 40 o r s
register_lays MOVEA o r s = movea_lays o r s
register_lays CMP o r s = into_lays 11 39 o r s
register_lays CHK2 o r s = bounds-lays true o r s
register_lays CMP2 o r s = bounds-lays false o r s

extended_lays : (line opmode : ℕ) (o d : Operand) → Lays 1 11 (extended_parts line opmode o d)
unfolding extended_parts
extended_lays line opmode o d = up_to 1 1 tt tt (fixed_then 0 0 _ _ none)

cmpm_lays : (o d : Operand) (s : Size) → Lays 1 11 (cmpm_parts o d s)
unfolding cmpm_parts
cmpm_lays o d s = up_to 1 1 tt tt (fixed_then 0 0 _ _ none)

word_lays : (op : WordOperation) (o : Operand) (r : RegisterOperand) (sign : Sign) → Lays 1 11 (word_parts op o r sign)
unfolding word_parts
word_lays DIVx o r sign = up_to 1 6 tt tt (data_lays _ r _ o _ _ _)
word_lays MULx o r sign = up_to 1 6 tt tt (data_lays _ r _ o _ _ _)

one_lays : (op : OneOperation) (o : Operand) (s : Size) → Lays 1 11 (one_parts op o s)
unfolding one_parts tst_parts
one_lays CLR o s = up_to 1 6 tt tt (single_lays _ _ _ o s _ _)
one_lays NEG o s = up_to 1 6 tt tt (single_lays _ _ _ o s _ _)
one_lays NEGX o s = up_to 1 6 tt tt (single_lays _ _ _ o s _ _)
one_lays NOT o s = up_to 1 6 tt tt (single_lays _ _ _ o s _ _)
one_lays TST o s = checked _ refl (up_to 1 6 tt tt (single_lays _ _ _ o s _ _))

-- ---- logic, shifts and bits
logical_lays : (line : ℕ) (o d : Operand) (s : Size) → Lays 1 11 (logical_parts line o d s)
unfolding logical_parts
logical_lays line o d s =
    either 1 11 (is_register d) (with_data line (register_in d) (size_code s) o s data_column 57) (from_data line memory_alterable 58 o d s)
    (up_to 1 6 tt tt (data_lays line (register_in d) (size_code s) o s data_column 57)) (up_to 1 6 tt tt (from_lays line memory_alterable 58 o d s))

counter_cond : (b c : Bool) (u v : Verdict) (f : Field) (z : ℤ) → count_of (cond b (check u ∷ []) (cond c (range f z ∷ []) (check v ∷ []))) ≡ 0
counter_cond true c u v f z = refl
counter_cond false true u v f z = refl
counter_cond false false u v f z = refl

shift_register_lays : (op : ShiftOperation) (o : Operand) (r : RegisterOperand) (d : ShiftDirection) (s : Size) → Lays 1 11 (shift_register_parts op o r d s)
unfolding shift_register_parts
shift_register_lays op o r d s =
    let e : count_of (count_items o) ≡ 0 = counter_cond (is_register o) (is_immediate o) (data_verdict (register_in o)) (no_encoding 63) field.Count (pos (immediate_in o)) in
    wider 1 11 (count_of (count_items o) + 1 + 0) (count_of (count_items o) + 1 + 0) _ (omega arith) (omega arith) (fixed_then 0 0 _ _ none)

shift_memory_lays : (op : ShiftOperation) (o x : Operand) (d : ShiftDirection) (s : Size) → Lays 1 11 (shift_memory_parts op o x d s)
unfolding shift_memory_parts
shift_memory_lays op o x d s = checked _ refl (up_to 1 6 tt tt (single_lays _ _ _ x _ _ _))

shift_lays : (op : ShiftOperation) (o x : Operand) (d : ShiftDirection) (s : Size) → Lays 1 11 (shift_parts op o x d s)
unfolding shift_parts
shift_lays op o x d s =
    either 1 11 (is_register x) (shift_register_parts op o (register_in x) d s) (shift_memory_parts op o x d s)
    (shift_register_lays op o (register_in x) d s) (shift_memory_lays op o x d s)

static_lays : (kind n : ℕ) (x : Operand) → Lays 1 11 (static_parts kind n x)
unfolding static_parts
static_lays kind n x = up_to 2 7 tt tt (fixed_then 0 5 _ _ (effective_then 0 0 x _ _ _ _ none))

dynamic_lays : (kind : ℕ) (r : RegisterOperand) (x : Operand) → Lays 1 11 (dynamic_parts kind r x)
unfolding dynamic_parts
dynamic_lays kind r x = up_to 1 6 tt tt (data_lays _ r _ x _ _ _)

abbrev no_bit : ℕ → Operand → List Part
no_bit kind x = fixed (operation 0 4 kind (ea_field x) ∷ check (no_encoding 53) ∷ []) ∷ []

bit_lays : (kind : ℕ) (o x : Operand) → Lays 1 11 (bit_parts kind o x)
unfolding bit_parts
bit_lays kind o x =
    either 1 11 (is_register o) (dynamic_parts kind (register_in o) x) (cond (is_immediate o) (static_parts kind (immediate_in o) x) (no_bit kind x))
    (dynamic_lays kind (register_in o) x)
    (either 1 11 (is_immediate o) (static_parts kind (immediate_in o) x) (no_bit kind x) (static_lays kind (immediate_in o) x) (up_to 1 1 tt tt (fixed_then 0 0 _ _ none)))

packs_lays : (op : PackOperation) (o d : Operand) (n : ℕ) → Lays 1 11 (packs_parts op o d n)
unfolding packs_parts pack_parts
packs_lays PACK o d n = up_to 2 2 tt tt (fixed_then 0 0 _ _ none)
packs_lays UNPK o d n = up_to 2 2 tt tt (fixed_then 0 0 _ _ none)

-- ---- program control
branch_lays : (condition : Condition) (t : ℕ) (s : BranchSize) → Lays 1 11 (branch_parts condition t s)
unfolding branch_parts
branch_lays condition t branch.Short = up_to 1 1 tt tt (then 1 1 0 0 (short_branch condition t) _ (λ a. lit≤ tt) (λ a. lit≤ tt) (λ a b. tt) none)
branch_lays condition t branch.Word = up_to 2 2 tt tt (fixed_then 1 1 _ _ (then 1 1 0 0 (relative_word _ t) _ (λ a. lit≤ tt) (λ a. lit≤ tt) (λ a b. tt) none))
branch_lays condition t branch.Long = up_to 3 3 tt tt (fixed_then 2 2 _ _ (then 2 2 0 0 (relative_long t) _ (λ a. lit≤ tt) (λ a. lit≤ tt) (λ a b. tt) none))

bcc_lays : (t : ℕ) (condition : Condition) (s : BranchSize) → Lays 1 11 (bcc_parts t condition s)
unfolding bcc_parts
bcc_lays t condition s = checked _ refl (branch_lays _ t s)

branches_lays : (op : BranchOperation) (t : ℕ) (s : BranchSize) → Lays 1 11 (branches_parts op t s)
unfolding branches_parts
branches_lays BRA t s = branch_lays True t s
branches_lays BSR t s = branch_lays False t s

dbcc_lays : (r : RegisterOperand) (t : ℕ) (condition : Condition) → Lays 1 11 (dbcc_parts r t condition)
unfolding dbcc_parts
dbcc_lays r t condition = up_to 2 2 tt tt (fixed_then 1 1 _ _ (then 1 1 0 0 (relative_word _ t) _ (λ a. lit≤ tt) (λ a. lit≤ tt) (λ a b. tt) none))

scc_lays : (o : Operand) (condition : Condition) → Lays 1 11 (scc_parts o condition)
unfolding scc_parts
scc_lays o condition = up_to 1 6 tt tt (single_lays _ _ _ o _ _ _)

trapcc_lays : (condition : Condition) (x : TrapOperand) → Lays 1 11 (trapcc_parts condition x)
unfolding trapcc_parts
trapcc_lays condition trap.None = up_to 1 1 tt tt (fixed_then 0 0 _ _ none)
trapcc_lays condition (trap.Word v) = up_to 2 2 tt tt (fixed_then 0 0 _ _ none)
trapcc_lays condition (trap.Long v) = up_to 3 3 tt tt (fixed_then 0 0 _ _ none)

rtd_lays : (d : ℕ) → Lays 1 11 (rtd_parts d)
unfolding rtd_parts
rtd_lays d = up_to 2 2 tt tt (fixed_then 0 0 _ _ none)

-- ---- system control
status_lays : (op : StatusOperation) (v : ℕ) → Lays 1 11 (status_parts op v)
unfolding status_parts
status_lays ANDItoSR v = up_to 2 2 tt tt (fixed_then 0 0 _ _ none)
status_lays ORItoSR v = up_to 2 2 tt tt (fixed_then 0 0 _ _ none)
status_lays EORItoSR v = up_to 2 2 tt tt (fixed_then 0 0 _ _ none)
status_lays STOP v = up_to 2 2 tt tt (fixed_then 0 0 _ _ none)

condition_code_lays : (op : ConditionCodeOperation) (v : ℕ) → Lays 1 11 (condition_code_parts op v)
unfolding condition_code_parts
condition_code_lays ANDItoCCR v = up_to 2 2 tt tt (fixed_then 0 0 _ _ none)
condition_code_lays ORItoCCR v = up_to 2 2 tt tt (fixed_then 0 0 _ _ none)
condition_code_lays EORItoCCR v = up_to 2 2 tt tt (fixed_then 0 0 _ _ none)

vector_lays : (op : VectorOperation) (v : ℕ) → Lays 1 11 (vector_parts op v)
unfolding vector_parts
vector_lays TRAP v = up_to 1 1 tt tt (fixed_then 0 0 _ _ none)
vector_lays BKPT v = up_to 1 1 tt tt (fixed_then 0 0 _ _ none)

raw_lays : (op : RawOperation) (w : ℕ) → Lays 1 11 (raw_parts op w)
unfolding raw_parts
raw_lays LINEA w = up_to 1 1 tt tt (fixed_then 0 0 _ _ none)
raw_lays LINEF w = up_to 1 1 tt tt (fixed_then 0 0 _ _ none)
raw_lays IllegalWord w = up_to 1 1 tt tt (fixed_then 0 0 _ _ none)

no_operand_lays : (op : NoOperandOperation) → Lays 1 11 (no_operand_parts op)
unfolding no_operand_parts
no_operand_lays RTE = up_to 1 1 tt tt (fixed_then 0 0 _ _ none)
no_operand_lays RESET = up_to 1 1 tt tt (fixed_then 0 0 _ _ none)
no_operand_lays RTR = up_to 1 1 tt tt (fixed_then 0 0 _ _ none)
no_operand_lays TRAPV = up_to 1 1 tt tt (fixed_then 0 0 _ _ none)
no_operand_lays ILLEGAL = up_to 1 1 tt tt (fixed_then 0 0 _ _ none)
no_operand_lays RTS = up_to 1 1 tt tt (fixed_then 0 0 _ _ none)
no_operand_lays NOP = up_to 1 1 tt tt (fixed_then 0 0 _ _ none)
no_operand_lays SIMHALT = up_to 2 2 tt tt (fixed_then 0 0 _ _ none)

-- ---- shapes with several operations
pair_lays : (op : PairOperation) (o d : Operand) (s : Size) → Lays 1 11 (pair_parts op o d s)
unfolding pair_parts
pair_lays MOVE o d s = move_lays o d s
pair_lays ADD o d s = arithmetic_lays 13 o d s
pair_lays SUB o d s = arithmetic_lays 9 o d s
pair_lays ADDX o d s = extended_lays 13 (4 + size_code s) o d
pair_lays SUBX o d s = extended_lays 9 (4 + size_code s) o d
pair_lays CMPM o d s = cmpm_lays o d s
pair_lays OR o d s = logical_lays 8 o d s
pair_lays AND o d s = logical_lays 12 o d s
pair_lays EOR o d s = up_to 1 6 tt tt (from_lays 11 _ 42 o d s)

transfer_lays : (op : TransferOperation) (d : TargetDirection) (s : Size) (r : RegisterOperand) (o : Operand) → Lays 1 11 (transfer_parts op d s r o)
unfolding transfer_parts moves_parts
transfer_lays MOVEP d s r o = movep_lays d s r o
transfer_lays MOVES d s r o = up_to 2 7 tt tt (fixed_then 0 5 _ _ (effective_then 0 0 o s _ _ _ none))

unsized-register_lays : (op : UnsizedRegisterOperation) (o : Operand) (r : RegisterOperand) → Lays 1 11 (unsized_register_parts op o r)
unfolding unsized_register_parts
unsized-register_lays LEA o r = up_to 1 6 tt tt (address_lays _ r _ o _ _ _)
unsized-register_lays CHK o r = up_to 1 6 tt tt (data_lays _ r _ o _ _ _)
unsized-register_lays CHKL o r = up_to 1 6 tt tt (data_lays _ r _ o _ _ _)

unsized-one_lays : (op : UnsizedOneOperation) (o : Operand) → Lays 1 11 (unsized_one_parts op o)
unfolding unsized_one_parts
unsized-one_lays PEA o = up_to 1 6 tt tt (single_lays _ _ _ o _ _ _)
unsized-one_lays NBCD o = up_to 1 6 tt tt (single_lays _ _ _ o _ _ _)
unsized-one_lays JSR o = up_to 1 6 tt tt (single_lays _ _ _ o _ _ _)
unsized-one_lays JMP o = up_to 1 6 tt tt (single_lays _ _ _ o _ _ _)
unsized-one_lays TAS o = up_to 1 6 tt tt (single_lays _ _ _ o _ _ _)
unsized-one_lays MOVEtoCCR o = up_to 1 6 tt tt (single_lays _ _ _ o _ _ _)
unsized-one_lays MOVEfromCCR o = up_to 1 6 tt tt (single_lays _ _ _ o _ _ _)
unsized-one_lays MOVEtoSR o = up_to 1 6 tt tt (single_lays _ _ _ o _ _ _)
unsized-one_lays MOVEfromSR o = up_to 1 6 tt tt (single_lays _ _ _ o _ _ _)

unsized_pair_lays : (op : UnsizedPairOperation) (o d : Operand) → Lays 1 11 (unsized_pair_parts op o d)
unfolding unsized_pair_parts
unsized_pair_lays ABCD o d = extended_lays 12 4 o d
unsized_pair_lays SBCD o d = extended_lays 8 4 o d
unsized_pair_lays BTST o d = bit_lays 0 o d
unsized_pair_lays BCLR o d = bit_lays 2 o d
unsized_pair_lays BSET o d = bit_lays 3 o d
unsized_pair_lays BCHG o d = bit_lays 1 o d

-- every instruction lays down one to eleven words
pub instruction_lays : (i : Instruction) → Lays 1 11 (parts_of i)
unfolding ext_parts swap_parts mull_parts divl_parts bit_field_parts moveusp_parts movec_parts cas_parts cas2_parts
instruction_lays (IntoRegister op o r s) = checked _ refl (register_lays op o r s)
instruction_lays (MOVEM d s mask o) = checked _ refl (movem_lays d s mask o)
instruction_lays (Transfer op d s r o) = checked _ refl (transfer_lays op d s r o)
instruction_lays (Pair op o d s) = checked _ refl (pair_lays op o d s)
instruction_lays (Quick op n o s) = checked _ refl (quick_lays op n o s)
instruction_lays (MOVEQ v r) = moveq_lays v r
instruction_lays (ImmediateInto op v o s) = checked _ refl (immediate_lays op v o s)
instruction_lays (WordIntoData op o r sign) = checked _ refl (word_lays op o r sign)
instruction_lays (SWAP r) = up_to 1 1 tt tt (fixed_then 0 0 _ _ none)
instruction_lays (EXG x y) = exg_lays x y
instruction_lays (UnsizedIntoRegister op o r) = checked _ refl (unsized-register_lays op o r)
instruction_lays (UnsizedOne op o) = checked _ refl (unsized-one_lays op o)
instruction_lays (UnsizedPair op o d) = checked _ refl (unsized_pair_lays op o d)
instruction_lays (EXT r from to) = up_to 1 1 tt tt (fixed_then 0 0 _ _ none)
instruction_lays (OneOperand op o s) = checked _ refl (one_lays op o s)
instruction_lays (Bcc t condition s) = bcc_lays t condition s
instruction_lays (Scc o condition) = checked _ refl (scc_lays o condition)
instruction_lays (DBcc r t condition) = dbcc_lays r t condition
instruction_lays (Branch op t s) = branches_lays op t s
instruction_lays (Link op r d) = links_lays op r d
instruction_lays (UNLK r) = unlk_lays r
instruction_lays (Shift op count o d s) = checked _ refl (shift_lays op count o d s)
instruction_lays (Vector op v) = vector_lays op v
instruction_lays (Status op v) = status_lays op v
instruction_lays (ConditionCode op v) = condition_code_lays op v
instruction_lays (MOVEUSP to r) = up_to 1 1 tt tt (fixed_then 0 0 _ _ none)
instruction_lays (Raw op w) = raw_lays op w
instruction_lays (NoOperand op) = no_operand_lays op
instruction_lays (RTD d) = rtd_lays d
instruction_lays (MOVEC to n r) = up_to 2 2 tt tt (fixed_then 0 0 _ _ none)
instruction_lays (TRAPcc condition x) = trapcc_lays condition x
instruction_lays (MULL o low high sign) = checked _ refl (up_to 2 7 tt tt (fixed_then 0 5 _ _ (effective_then 0 0 o _ _ _ _ none)))
instruction_lays (Pack op o d n) = checked _ refl (packs_lays op o d n)
instruction_lays (CAS compare update o s) = checked _ refl (up_to 2 7 tt tt (fixed_then 0 5 _ _ (effective_then 0 0 o s _ _ _ none)))
instruction_lays (CAS2 c1 c2 u1 u2 p1 p2 s) = up_to 3 3 tt tt (fixed_then 2 2 _ _ (fixed_then 1 1 _ _ (fixed_then 0 0 _ _ none)))
instruction_lays (BF op o f r) = checked _ refl (up_to 2 7 tt tt (fixed_then 0 5 _ _ (effective_then 0 0 o _ _ _ _ none)))
instruction_lays (DIVL o q r wide sign) = checked _ refl (up_to 2 7 tt tt (fixed_then 0 5 _ _ (effective_then 0 0 o _ _ _ _ none)))
