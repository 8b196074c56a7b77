-- Line 1110: ASd LSd ROXd ROd, of a data register and in memory; the bit-field instructions.
use Rattle.std.specs.Prelude.{ℕ, ◌+◌, ◌*◌, ◌/◌, ◌%◌, ◌<◌, ◌-◌, ◌≡◌, refl, Bool, true, false, ◌&&◌, cond, List, [], ◌∷◌, leb, eqb, pos}
use Rattle.std.proofs.Common.{ap, ◌∙◌, append-nil, arith}
use Rattle.std.proofs.lemmas.Bool.{false≢true}
use Rattle.isa.specs.declared.Size.{Size}
use Rattle.isa.specs.declared.Size.TheVariants.{Byte, Word, Long}
use Rattle.isa.specs.declared.RegisterOperand.{RegisterOperand}
use Rattle.isa.specs.declared.RegisterOperand.TheVariants.{Data}
use Rattle.isa.specs.declared.ShiftOperation.{ShiftOperation}
use Rattle.isa.specs.declared.ShiftOperation.TheVariants.{ASd, ROd, LSd, ROXd}
use Rattle.isa.specs.declared.ShiftDirection.{ShiftDirection}
use Rattle.isa.specs.declared.ShiftDirection.TheVariants.{Right, Left}
use Rattle.isa.specs.declared.Field.TheVariants as field
use Rattle.isa.specs.declared.Operand.{Operand}
use Rattle.isa.specs.declared.Operand.TheVariants.{Immediate, Register}
use Rattle.isa.specs.declared.Instruction.{Instruction}
use Rattle.isa.specs.declared.Instruction.TheVariants.{Shift, BF}
use Rattle.encode_spec.specs.Item.{fine, number_verdict, check, register, word, allow}
use Rattle.isa_spec.specs.Code.{size_code, is_word, register_bits, bit}
use Rattle.isa_spec.specs.Mode.{bits}
use Rattle.encode_spec.specs.Ea.{memory_alterable, is_register, bit_field_read, bit_field_written, typed, single}
use Rattle.encode_spec.specs.Logic.{shift_kind, left_bit, count_bits, count_items, is_one, shift_register_parts, shift_memory_parts, shift_parts}
use Rattle.read_spec.specs.declared.Group.TheVariants as group
use Rattle.read_spec.specs.declared.Specifier.TheVariants as specifier
use Rattle.read_spec.specs.Tree.{ret}
use Rattle.read_spec.specs.Map.{group_at, map}
use Rattle.read_spec.specs.Operation.{size_at, shift_at, direction_at, shift_count, count_at, bit_field_at, value_at, field_in}
use Rattle.read_spec.specs.Decoded.{data_operand, shift_decoded, word_of}
use Rattle.read_operand_laws.specs.Facts.{count_holds}
use Rattle.encode_facts.specs.Items.{lt_number, reason_not, number_lt, unless_range, true_unless, unless_reason}
use Rattle.isa_facts.specs.Code.{bit_lt}
use Rattle.isa_facts.specs.Mode.{column_cond}
use Rattle.base_facts.specs.Tests.{below, and-true, true_and, ltb_is, eqb_eq, eqb_is}
use Rattle.isa_spec.specs.Field.{holds}
use Rattle.read_laws.specs.Control.{count_eight}
use Rattle.read_laws.specs.FromData.{memory_not}
use Rattle.std.proofs.Math.Nat.{div-div-eq-div-mul}
use Rattle.isa.specs.declared.FieldValue.{FieldValue}
use Rattle.isa.specs.declared.FieldValue.TheVariants as value
use Rattle.isa.specs.declared.BitField.{BitField}
use Rattle.isa.specs.declared.BitFieldOperation.{BitFieldOperation}
use Rattle.isa.specs.declared.BitFieldOperation.TheVariants.{Test, ExtractUnsigned, Change, ExtractSigned, Clear, FindFirstOne, Set, Insert}
use Rattle.encode_spec.specs.Bits.{bit_field_code, writes, value_bits, value_holds, value_number, larger, bit_field_verdict, bit_field_parts}
use Rattle.read_spec.specs.Layout.{value_part, valid}
use Rattle.read_operand_laws.specs.TailStands.{SpecifierStands}
use Rattle.encode_spec.specs.Encode.{items_of}
use Rattle.read_laws.specs.Statements.{Reads, Encodes, Sound}
use Rattle.read_spec.specs.Accepted.{Accepted}
use Rattle.read_laws.specs.Tests.{equal, yes, among, implies, facts_below}
use Rattle.read_laws.specs.MapLaws.{At, at_code, at_upto, at_among, in_group}
use Rattle.read_laws.specs.LayingLaws.{Passing, passed, checked, one_back, Laying, form_as, laying_reads, laying_encodes, decoded_as, word_as, alone-reads, alone_encodes, form_word, form_behind}
use Rattle.read_laws.specs.Operands.{is_register_lem, not_immediate, by_kind, by_register, data_bits}
use Rattle.isa_facts.specs.Ordinary.{ordinary}

-- ---- the fields of a shift
kind_at : (op : ShiftOperation) → (shift_kind op < 4) × (shift_at (shift_kind op) ≡ op)
kind_at ASd = (omega arith, refl)
kind_at ROd = (omega arith, refl)
kind_at LSd = (omega arith, refl)
kind_at ROXd = (omega arith, refl)

-- ---- the count: in a data register, or 1 to 8
data Count : Operand → Type 0 where
  in_register : (m : ℕ) → m < 8 → Count (Register (Data m))
  number : (v : ℕ) → holds field.Count (pos v) ≡ true → Count (Immediate v)

count_back : (count : Operand) → Passing (count_items count) → Count count
count_back =
    by_kind (λ count. Passing (count_items count) → Count count)
    (λ r c. rw (← data_bits r (rw (is_register_lem r) at c).0) (in_register (register_bits r) (omega arith)))
    (λ v c. number v c.0)
    (λ o e i c. reason_not 63 (rw (e, i) at c).0)

-- ---- of a data register
abbrev shift_field : ShiftOperation → Operand → ℕ → ℕ
shift_field op count n = 32 * bit (is_register count) + 8 * shift_kind op + n % 8

register_encodes : (a : ℕ) (op : ShiftOperation) (count : Operand) (n : ℕ) (direction : ShiftDirection) (s : Size) → Count count → n < 8
    → Encodes a (Shift op count (data_operand n) direction s) (word_of 14 (count_bits count) (4 * left_bit direction + size_code s) (shift_field op count n) ∷ [])
unfolding shift_parts shift_register_parts
register_encodes a op count n direction s (in_register m h) hn =
    (((tt, tt), passed (items_of (Shift op count (data_operand n) direction s) a) (refl, (refl, (lt_number n hn, (lt_number m h, tt)))), ordinary _ refl), refl, refl)
register_encodes a op count n direction s (number v h) hn =
    (((tt, tt), passed (items_of (Shift op count (data_operand n) direction s) a) (refl, (refl, (lt_number n hn, (h, tt)))), ordinary _ refl), refl, refl)

-- the count that bits 11 to 9 name, and i/r
abbrev Counted : Operand → ℕ → Bool → Type 0
Counted count x b = Count count × (count_bits count ≡ x) × (is_register count ≡ b)

count_at_lem : (ea x : ℕ) → x < 8 → Counted (shift_count ea x) x (eqb (ea / 32) 1)
count_at_lem ea x h = go (eqb (ea / 32) 1)
  where
    go : (b : Bool) → Counted (cond b (Register (Data x)) (Immediate (count_at x))) x b
    go true = (in_register x h, omega arith, refl)
    go false =
        let (t, (u, z)) = facts_below 8 (λ x. yes (leb 1 (count_at x) && leb (count_at x) 8) ∷ equal (count_at x % 8) x ∷ []) refl x h in
        (number (count_at x) (count_holds (count_at x) ∙ t), u, refl)

field_at : (ea : ℕ) → ea < 64 → 32 * bit (eqb (ea / 32) 1) + 8 * shift_kind (shift_at (ea / 8 % 4)) + ea % 8 % 8 ≡ ea
field_at ea h = eqb_eq _ ea (below (λ ea. eqb (32 * bit (eqb (ea / 32) 1) + 8 * shift_kind (shift_at (ea / 8 % 4)) + ea % 8 % 8) ea) 64 refl ea h)

same_word : {x y o p e f : ℕ} → x ≡ y → o ≡ p → e ≡ f → word_of 14 x o e ≡ word_of 14 y p f
same_word p q r = rw (p, q, r)

shifted_encodes : (a x opmode ea : ℕ) → 4 * left_bit (direction_at (opmode / 4)) + size_code (size_at (opmode % 4)) ≡ opmode → x < 8 → ea < 64
    → Encodes a (shift_decoded x opmode ea) (word_of 14 x opmode ea ∷ [])
shifted_encodes a x opmode ea t hx he =
    let c = count_at_lem ea x hx in
    word_as a (shift_decoded x opmode ea) _ _ []
    (same_word c.1 t (rw c.2 (field_at ea he)))
    (register_encodes a (shift_at (ea / 8 % 4)) (shift_count ea x) (ea % 8) (direction_at (opmode / 4)) (size_at (opmode % 4)) c.0 (omega arith))

-- what encodes so is what its fields name
count_is : (ea : ℕ) (count : Operand) → Count count → ea / 32 ≡ bit (is_register count) → shift_count ea (count_bits count) ≡ count
count_is ea count (in_register m h) e =
    let q : m % 8 ≡ m = omega arith in
    rw (e, q)
count_is ea count (number v h) e = rw e (ap Immediate (count_eight v h))

abbrev opmodes : List ℕ
opmodes = 0 ∷ 1 ∷ 2 ∷ 4 ∷ 5 ∷ 6 ∷ []

abbrev opmode_of : ShiftDirection → Size → ℕ
opmode_of direction s = 4 * left_bit direction + size_code s

opmode_is : (direction : ShiftDirection) (s : Size)
    → (among opmodes (opmode_of direction s) ≡ true) × (direction_at (opmode_of direction s / 4) ≡ direction) × (size_at (opmode_of direction s % 4) ≡ s)
opmode_is Right Byte = (refl, refl, refl)
opmode_is Right Word = (refl, refl, refl)
opmode_is Right Long = (refl, refl, refl)
opmode_is Left Byte = (refl, refl, refl)
opmode_is Left Word = (refl, refl, refl)
opmode_is Left Long = (refl, refl, refl)

register-is : (op : ShiftOperation) (count : Operand) (n : ℕ) (direction : ShiftDirection) (s : Size) → Count count → n < 8
    → shift_decoded (count_bits count) (opmode_of direction s) (shift_field op count n) ≡ Shift op count (data_operand n) direction s
register-is op count n direction s c h =
    let b = bit_lt (is_register count) in
    let k = kind_at op in
    let o = opmode_is direction s in
    let i = count_is (shift_field op count n) count c (omega (arith, k.0)) in
    let p : shift_field op count n / 8 % 4 ≡ shift_kind op = omega (arith, k.0) in
    let q : shift_field op count n % 8 ≡ n = omega arith in
    rw (p, q, k.1, i, o.1, o.2)

count_lt : (count : Operand) → Count count → count_bits count < 8
count_lt count (in_register m h) = omega arith
count_lt count (number v h) = omega arith

data_reads : (a : ℕ) (op : ShiftOperation) (count : Operand) (n : ℕ) (direction : ShiftDirection) (s : Size) → Count count → n < 8
    → Reads a (Shift op count (data_operand n) direction s)
unfolding group_at map
data_reads a op count n direction s c h =
    let b = bit_lt (is_register count) in
    let k = kind_at op in
    alone-reads a (Shift op count (data_operand n) direction s) (shift_field op count n) specifier.Nothing 0
    (at_among group.ShiftRegister (14 ∷ []) opmodes refl 14 (opmode_of direction s) (count_bits count) refl (opmode_is direction s).0 (count_lt count c))
    (omega (arith, k.0))
    refl refl (ap (λ (i : Instruction). ret i) (register-is op count n direction s c h)) (register_encodes a op count n direction s c h)

register-reads : (a : ℕ) (op : ShiftOperation) (count : Operand) (r : RegisterOperand) (direction : ShiftDirection) (s : Size)
    → Accepted a (Shift op count (Register r) direction s) → Reads a (Shift op count (Register r) direction s)
unfolding shift_parts shift_register_parts
register-reads a op count r direction s h =
    let (t, (u, (d, c))) = rw (is_register_lem r) at (checked a (Shift op count (Register r) direction s) h) in
    rw (← data_bits r d) (data_reads a op count (register_bits r) direction s (count_back count (rw (append-nil (count_items count)) at c)) (omega arith))

pub shift_register_sound : Sound group.ShiftRegister
unfolding map
shift_register_sound a line x opmode ea hl hx ho he e f h p i r =
    let (l, (t, u)) = in_group group.ShiftRegister (λ l x o. equal l 14 ∷ equal (4 * left_bit (direction_at (o / 4)) + size_code (size_at (o % 4))) o ∷ []) refl
    line x opmode e in
    decoded_as a i (shift_decoded x opmode ea) _ _ _ r (omega arith) (alone_encodes a (shift_decoded x opmode ea) (word_of 14 x opmode ea) specifier.Nothing f h
    (shifted_encodes a x opmode ea t hx he))

-- ---- in memory
word-is : (s : Size) → is_word s ≡ true → s ≡ Word
word-is Byte e = absurd (false≢true e)
word-is Word e = refl
word-is Long e = absurd (false≢true e)

one-is : (count : Operand) → is_one count ≡ true → count ≡ Immediate 1
one-is =
    by_kind (λ count. is_one count ≡ true → count ≡ Immediate 1)
    (λ r e. absurd (false≢true (rw (not_immediate r) at e)))
    (λ v e. ap Immediate (eqb_eq v 1 e))
    (λ o e i h. absurd (false≢true (rw i at h)))

memory_laying : (a : ℕ) (op : ShiftOperation) (count o : Operand) (direction : ShiftDirection) (s : Size) (v : ℕ) → is_register o ≡ false
    → Laying a (Shift op count o direction s) 14 (shift_kind op) (4 * left_bit direction + 3) specifier.Nothing Word (bits memory_alterable) v o
    (Passing (typed count ∷ allow (is_one count && is_word s) 64 ∷ []))
unfolding shift_parts shift_memory_parts single
memory_laying a op count o direction s v e =
    form_behind (typed count ∷ []) (allow (is_one count && is_word s) 64 ∷ []) [] 65 (rw e) refl refl

memory_at : (direction : ShiftDirection)
    → ((x : ℕ) → x < 4 → At group.ShiftMemory 14 x (4 * left_bit direction + 3)) × (direction_at ((4 * left_bit direction + 3) / 4) ≡ direction)
unfolding group_at map
memory_at Right = (at_upto group.ShiftMemory 14 3 4 refl, refl)
memory_at Left = (at_upto group.ShiftMemory 14 7 4 refl, refl)

memory_reads : (a : ℕ) (op : ShiftOperation) (count o : Operand) (direction : ShiftDirection) (s : Size) → is_register o ≡ false
    → Accepted a (Shift op count o direction s) → Reads a (Shift op count o direction s)
memory_reads a op count o direction s e (n, f, l) =
    let k = kind_at op in
    let d = memory_at direction in
    laying_reads (memory_laying a op count o direction s 0 e) (d.0 (shift_kind op) k.0) f n.1 (λ c m.
    let t = and-true (is_one count) _ (unless_reason (is_one count && is_word s) 64 c.1.0) in
    (refl, refl, rw (one-is count t.0, word-is s t.1, k.1, d.1)))

pub shift_reads : (a : ℕ) (op : ShiftOperation) (count o : Operand) (direction : ShiftDirection) (s : Size)
    → Accepted a (Shift op count o direction s) → Reads a (Shift op count o direction s)
shift_reads a op count o direction s =
    by_register (λ o. Accepted a (Shift op count o direction s) → Reads a (Shift op count o direction s))
    (λ r. register-reads a op count r direction s) (λ o e. memory_reads a op count o direction s e) o

pub shift_memory_sound : Sound group.ShiftMemory
unfolding map
shift_memory_sound a line x opmode ea hl hx ho he e f h p i r =
    let (w, u) = in_group group.ShiftMemory (λ l x o. equal (word_of 14 (shift_kind (shift_at x)) (4 * left_bit (direction_at (o / 4)) + 3) 0) (word_of l x o 0) ∷ [])
    refl line x opmode e in
    let n = memory_not f.source (one_back a specifier.Nothing Word ea (bits memory_alterable) f h).0.0 in
    let direction = direction_at (opmode / 4) in
    decoded_as a i (Shift (shift_at x) (Immediate 1) f.source direction Word) _ _ _ r (omega (arith, w))
    (laying_encodes ea f (memory_laying a (shift_at x) (Immediate 1) f.source direction Word f.value n) (refl, (refl, tt)) h p (λ n. (tt, n)) refl (λ e. rw e))

-- ---- the bit-field instructions: an offset or a width
part_lt : (x : FieldValue) → value_bits x < 64
part_lt (value.Immediate n) = omega arith
part_lt (value.Register n) = omega arith

value_part_lem : (x : FieldValue) → value_part (value_bits x) ≡ true
value_part_lem (value.Immediate n) = below (λ k. value_part k) 32 refl (n % 32) (omega arith)
value_part_lem (value.Register n) = below (λ k. value_part (32 + k)) 8 refl (n % 8) (omega arith)

value_bits_lem : (x : FieldValue) → value_holds x ≡ true → value_at (value_bits x) ≡ x
value_bits_lem (value.Immediate n) e =
    let l = ltb_is n 32 e in
    let m : n % 32 ≡ n = omega arith in
    let z : n / 32 ≡ 0 = omega arith in
    rw (m, z) (ap value.Immediate m)
value_bits_lem (value.Register n) e =
    let l = ltb_is n 8 e in
    let z : (32 + n % 8) / 32 ≡ 1 = omega arith in
    rw z (ap value.Register (omega arith))

bits-value : (n : ℕ) → n < 64 → value_part n ≡ true → (value_bits (value_at n) ≡ n) × (value_holds (value_at n) ≡ true)
bits-value n h e =
    let (t, (u, z)) = facts_below 64 (λ n. yes (implies (value_part n) (eqb (value_bits (value_at n)) n)) ∷ yes (value_holds (value_at n)) ∷ []) refl n h in
    (eqb_eq (value_bits (value_at n)) n (rw e at t), u)

-- ---- the extension word
abbrev word_in : BitField → ℕ → ℕ
word_in f r = r % 8 * 4096 + value_bits f.offset * 64 + value_bits f.width

word_fields : (f : BitField) (r : ℕ) → r < 8
    → (word_in f r < 32768) × (word_in f r / 64 % 64 ≡ value_bits f.offset) × (word_in f r % 64 ≡ value_bits f.width) × (word_in f r / 4096 % 8 ≡ r)
word_fields f r h =
    let o = part_lt f.offset in
    let w = part_lt f.width in
    (omega arith, omega arith, omega arith, omega arith)

word_stands : (f : BitField) (r : ℕ) → r < 8 → SpecifierStands specifier.BitField (word_in f r)
word_stands f r h =
    let c = word_fields f r h in
    (omega (arith, c.0), rw (c.1, c.2, eqb_is (word_in f r / 32768) 0 (omega (arith, c.0)), value_part_lem f.offset, value_part_lem f.width))

-- ---- what the encoder checks
abbrev Holding : BitField → ℕ → Type 0
Holding f r = (value_holds f.offset ≡ true) × (value_holds f.width ≡ true) × (r < 8)

holding_back : (f : BitField) (r : ℕ) → bit_field_verdict f ≡ fine → number_verdict r ≡ fine → Holding f r
holding_back f r e n =
    let t = and-true (value_holds f.offset) _ (unless_range _ field.BitField (pos (larger (value_number f.offset) (value_number f.width))) e) in
    (t.0, t.1, number_lt r n)

abbrev code_x : BitFieldOperation → ℕ
code_x op = 4 + bit_field_code op / 2

abbrev code_opmode : BitFieldOperation → ℕ
code_opmode op = 4 * (bit_field_code op % 2) + 3

field_laying : (a : ℕ) (op : BitFieldOperation) (o : Operand) (f : BitField) (r v : ℕ) → word_in f r ≡ v
    → Laying a (BF op o f r) 14 (code_x op) (code_opmode op) specifier.BitField Byte (cond (writes op) (bits bit_field_written) (bits bit_field_read)) v o (Holding f r)
unfolding bit_field_parts
field_laying a op o f r v e =
    form_as
    (form_word (check (bit_field_verdict f) ∷ register r ∷ word (word_in f r) ∷ []) (cond (writes op) 32 33) (rw (column_cond (writes op) bit_field_written bit_field_read refl refl)) refl (ap (λ (w : ℕ). w ∷ []) e))
    (λ c. holding_back f r c.0 c.1.0) (λ d. (true_unless _ _ (true_and _ _ d.0 d.1), (lt_number r d.2, tt)))

abbrev operation_at : ℕ → ℕ → BitFieldOperation
operation_at x opmode = bit_field_at ((x - 4) * 2 + opmode / 4)

code_is : (op : BitFieldOperation) → At group.BitField 14 (code_x op) (code_opmode op) × (operation_at (code_x op) (code_opmode op) ≡ op)
unfolding group_at map
code_is Test = (at_code group.BitField 14 4 3 refl, refl)
code_is ExtractUnsigned = (at_code group.BitField 14 4 7 refl, refl)
code_is Change = (at_code group.BitField 14 5 3 refl, refl)
code_is ExtractSigned = (at_code group.BitField 14 5 7 refl, refl)
code_is Clear = (at_code group.BitField 14 6 3 refl, refl)
code_is FindFirstOne = (at_code group.BitField 14 6 7 refl, refl)
code_is Set = (at_code group.BitField 14 7 3 refl, refl)
code_is Insert = (at_code group.BitField 14 7 7 refl, refl)

pub bf_reads : (a : ℕ) (op : BitFieldOperation) (o : Operand) (f : BitField) (r : ℕ) → Accepted a (BF op o f r) → Reads a (BF op o f r)
bf_reads a op o f r (n, e, l) =
    let (t, c) = code_is op in
    laying_reads (field_laying a op o f r (word_in f r) refl) t e n (λ d m.
    let w = word_fields f r d.2 in
    (rw c, word_stands f r d.2, rw (c, w.1, w.2, w.3, value_bits_lem f.offset d.0, value_bits_lem f.width d.1)))

field_in_lem : (v : ℕ) → valid specifier.BitField v ≡ true → Holding (field_in v) (v / 4096 % 8) × (word_in (field_in v) (v / 4096 % 8) ≡ v)
field_in_lem v e =
    let t = and-true (eqb (v / 32768) 0 && value_part (v / 64 % 64)) _ e in
    let u = and-true (eqb (v / 32768) 0) _ t.0 in
    let o = bits-value (v / 64 % 64) (omega arith) u.1 in
    let w = bits-value (v % 64) (omega arith) t.1 in
    let z = eqb_eq (v / 32768) 0 u.0 in
    let d : v / 64 / 64 ≡ v / 4096 = div-div-eq-div-mul v 64 64 in
    ((o.1, w.1, omega arith), rw (o.0, w.0) (omega arith))

pub bit_field_sound : Sound group.BitField
unfolding map
bit_field_sound a line x opmode ea hl hx ho he e f h p i r =
    let (w, u) = in_group group.BitField (λ l x o. equal (word_of 14 (code_x (operation_at x o)) (code_opmode (operation_at x o)) 0) (word_of l x o 0) ∷ []) refl line
    x opmode e in
    let op = operation_at x opmode in
    let d = field_in_lem f.value h.1.1 in
    let n = f.value / 4096 % 8 in
    decoded_as a i (BF op f.source (field_in f.value) n) _ _ _ r (omega (arith, w))
    (laying_encodes ea f (field_laying a op f.source (field_in f.value) n f.value d.1) d.0 h p (λ n. n) refl (λ e. rw e))
