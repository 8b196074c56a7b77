-- Line 0000: ORI ANDI SUBI ADDI EORI CMPI, and to CCR and SR; BTST BCHG BCLR BSET; MOVEP.
use Rattle.std.specs.Prelude.{ℕ, suc, ◌+◌, ◌/◌, ◌%◌, ◌<◌, ◌-◌, ◌*◌, ◌≤◌, ◌≡◌, refl, Bool, true, false, not, ◌&&◌, ◌||◌, cond, [], ◌∷◌, List, ltb, eqb, leb, pos, ℤ}
use Rattle.std.proofs.Common.{ap, sym, ◌∙◌, true≢false, arith}
use Rattle.isa.specs.declared.Size.{Size}
use Rattle.isa.specs.declared.Size.TheVariants.{Byte, Word, Long}
use Rattle.isa.specs.declared.Field.TheVariants as field
use Rattle.isa.specs.declared.ImmediateOperation.{ImmediateOperation}
use Rattle.isa.specs.declared.ImmediateOperation.TheVariants.{ADDI, SUBI, ANDI, ORI, EORI, CMPI}
use Rattle.isa.specs.declared.StatusOperation.{StatusOperation}
use Rattle.isa.specs.declared.StatusOperation.TheVariants.{ANDItoSR, ORItoSR, EORItoSR, STOP}
use Rattle.isa.specs.declared.ConditionCodeOperation.{ConditionCodeOperation}
use Rattle.isa.specs.declared.ConditionCodeOperation.TheVariants.{ANDItoCCR, ORItoCCR, EORItoCCR}
use Rattle.isa.specs.declared.Operand.{Operand}
use Rattle.isa.specs.declared.Instruction.TheVariants.{ImmediateInto, ConditionCode, Status, UnsizedPair, Transfer}
use Rattle.isa_spec.specs.Field.{top_of, holds, remainder_of}
use Rattle.encode_spec.specs.Item.{fine, failure, operation, words_in, count_of, word_address, Item, Part, malformed, unless, word, range, data_register, data_verdict, laid, no_encoding}
use Rattle.isa_spec.specs.Code.{size_code, register_bits, is_byte, long_bit, to_memory}
use Rattle.isa_spec.specs.Mode.{data_column, bits}
use Rattle.isa_facts.specs.Mode.{column_cond}
use Rattle.encode_facts.specs.Columns.{immediate_column}
use Rattle.encode_spec.specs.Ea.{permits, data_alterable, data_not_immediate, ea_field, typed, immediate_words, immediate_items, is_typed, with_data, ea_items}
use Rattle.encode_spec.specs.Arithmetic.{immediate_kind, immediate_modes, immediate_reason, immediate_parts}
use Rattle.encode_spec.specs.System.{condition_code_operation, condition_code_parts, status_operation, status_parts}
use Rattle.encode_spec.specs.Encode.{items_of}
use Rattle.read_spec.specs.declared.Group.TheVariants as group
use Rattle.read_spec.specs.declared.Specifier.TheVariants as specifier
use Rattle.read_spec.specs.declared.Tail.{Tail}
use Rattle.read_spec.specs.Layout.{one, alone}
use Rattle.read_spec.specs.Layouts.{immediate_specifier, dynamic_bit_movep_layout, layout_of}
use Rattle.read_spec.specs.Tree.{ret, Tree, fail}
use Rattle.read_spec.specs.Decoded.{word_of, movep_decoded, status_decoded}
use Rattle.read_spec.specs.Map.{group_at, map}
use Rattle.read_spec.specs.Operation.{size_at, immediate_at, to_status, condition_code_at, status_at, bit_at, to_memory_at}
use Rattle.read_operand_laws.specs.TailStands.{specifier_words, SpecifierStands, TailStands, tail_words}
use Rattle.read_operand_laws.specs.Facts.{bit-number-holds, plain_number_lem, own_number_lem}
use Rattle.encode_facts.specs.Immediates.{immediate_held, long-holds, own_remainder}
use Rattle.encode_facts.specs.Items.{fine_both, lt_number, reason_not, unless_reason, true_unless}
use Rattle.base_facts.specs.Tests.{ltb_is, ltb-true, eqb_is, eqb_eq, and-true, true_not_false, leb-true, Eq, leb_is, eq?}
use Rattle.isa.specs.declared.RegisterOperand.{RegisterOperand}
use Rattle.isa.specs.declared.RegisterOperand.TheVariants.{Address, Data}
use Rattle.isa.specs.declared.Operand.TheVariants.{Immediate, Register, PostIndirect, IndirectDisplacement}
use Rattle.encode_spec.specs.Bits.{dynamic_reason, dynamic_parts, static_reason, static_parts, bit_parts}
use Rattle.encode_spec.specs.Instruction.{unsized_pair_parts, typed_two, transfer_parts}
use Rattle.isa.specs.declared.TargetDirection.{TargetDirection}
use Rattle.isa.specs.declared.TargetDirection.TheVariants.{ToMemory, FromMemory}
use Rattle.isa.specs.declared.TransferOperation.TheVariants.{MOVEP}
use Rattle.isa.specs.declared.Instruction.{Instruction}
use Rattle.encode_spec.specs.Movement.{movep_parts}
use Rattle.base_spec.specs.Signed.{bits_of}
use Rattle.read_spec.specs.Operand.{permitted}
use Rattle.read_operand_laws.specs.Stands.{Stands}
use Rattle.read_laws.specs.Statements.{Reads, reads, Encodes, Sound}
use Rattle.read_spec.specs.Accepted.{Accepted}
use Rattle.read_laws.specs.Tests.{Known, equal, yes, no, known, says, implies, among, each, facts_below, modes_say}
use Rattle.read_laws.specs.MapLaws.{At, at_code, at_below, at_sizes, at_line, in_group, each-size, size_code_lem}
use Rattle.read_laws.specs.DecodedLaws.{Kind, displaced, post, other, kind?}
use Rattle.read_laws.specs.LayingLaws.{Passing, passing, passed, checked, tail_of, behind, one_there, Laying, form_is, form_as, laying_reads, laying_encodes, decoded_as, word_as, alone-reads, alone_encodes, either_encodes, one_words}
use Rattle.read_laws.specs.Operands.{is_register_lem, by_kind, data_bits, address_is}
use Rattle.isa_facts.specs.Ordinary.{ordinary}

-- ---- an immediate before the destination
immediate_passing : (v : ℕ) (s : Size) → v < suc (top_of s) → Passing (immediate_items v s)
immediate_passing v s h = (immediate_held s v h, each-size (λ s. Passing (immediate_words v s)) tt tt tt s)

immediate_words_lem : (v : ℕ) (s : Size) → words_in (immediate_items v s) ≡ specifier_words (immediate_specifier s) (remainder_of s v)
immediate_words_lem v Byte = refl
immediate_words_lem v Word = refl
immediate_words_lem v Long = refl

immediate_at_lem : (a v : ℕ) (s : Size) → word_address (word_address a 0) (count_of (immediate_items v s) + 1) ≡ behind a (immediate_specifier s) (remainder_of s v)
immediate_at_lem a v Byte = omega arith
immediate_at_lem a v Word = omega arith
immediate_at_lem a v Long = omega arith

immediate_stands : (v : ℕ) (s : Size) → Passing (immediate_items v s) → SpecifierStands (immediate_specifier s) (remainder_of s v)
immediate_stands v Byte c = (omega arith, eqb_is (v % 256 / 256) 0 (omega arith))
immediate_stands v Word c = (omega arith, refl)
immediate_stands v Long c = (ltb_is v 4294967296 (sym (long-holds v) ∙ c.0), refl, refl)

stands_immediate : (v : ℕ) (s : Size) → SpecifierStands (immediate_specifier s) v → v < suc (top_of s)
stands_immediate v Byte h = let e = eqb_eq (v / 256) 0 h.1 in omega arith
stands_immediate v Word h = h.0
stands_immediate v Long h = h.0

immediate_laying : (a : ℕ) (op : ImmediateOperation) (v : ℕ) (o : Operand) (s : Size)
    → Laying a (ImmediateInto op v o s) 0 (immediate_kind op) (size_code s) (immediate_specifier s) s (bits (immediate_modes op)) (remainder_of s v) o (Passing (immediate_items v s))
unfolding immediate_parts
immediate_laying a op v o s =
    form_is [] [] (immediate_items v s) (immediate_reason op) (word_address (word_address a 0) (count_of (immediate_items v s) + 1)) (rw (immediate_column op)) (immediate_at_lem a v s) refl
    (λ c. immediate_words_lem v s)

abbrev ImmediateCode : ImmediateOperation → Type 0
ImmediateCode op =
    (immediate_at (immediate_kind op) ≡ op) × (cond (eqb (immediate_kind op) 6) (bits data_not_immediate) (bits data_alterable) ≡ bits (immediate_modes op))
    × ((s : Size) → At group.ImmediateInto 0 (immediate_kind op) (size_code s))

immediate_code : (op : ImmediateOperation) → ImmediateCode op
unfolding group_at map
immediate_code ADDI = (refl, refl, at_sizes group.ImmediateInto 0 3 refl)
immediate_code SUBI = (refl, refl, at_sizes group.ImmediateInto 0 2 refl)
immediate_code ANDI = (refl, refl, at_sizes group.ImmediateInto 0 1 refl)
immediate_code ORI = (refl, refl, at_sizes group.ImmediateInto 0 0 refl)
immediate_code EORI = (refl, refl, at_sizes group.ImmediateInto 0 5 refl)
immediate_code CMPI = (refl, refl, at_sizes group.ImmediateInto 0 6 refl)

-- the forms to CCR and SR stand where these have no mode
not_sixty : (b : Bool) (ea : ℕ) → permitted (cond b (bits data_not_immediate) (bits data_alterable)) ea ≡ true → eqb ea 60 ≡ false
not_sixty true ea m = (modes_say (bits data_not_immediate) (λ ea. no (eqb ea 60) ∷ []) refl ea m).0
not_sixty false ea m = (modes_say (bits data_alterable) (λ ea. no (eqb ea 60) ∷ []) refl ea m).0

pub immediate_into_reads : (a : ℕ) (op : ImmediateOperation) (v : ℕ) (o : Operand) (s : Size) → Accepted a (ImmediateInto op v o s)
    → Reads a (ImmediateInto op v o s)
immediate_into_reads a op v o s (n, e, l) =
    let (c, d, t) = immediate_code op in
    laying_reads (immediate_laying a op v o s) (t s) e n (λ h m.
    let q = not_sixty (eqb (immediate_kind op) 6) (ea_field o) (rw d m) in
    (rw (q, size_code_lem s, d), immediate_stands v s h, rw (q, size_code_lem s, c, plain_number_lem s v h.0)))

-- ---- to CCR and SR: bits 11 to 9
abbrev condition_code_code : ConditionCodeOperation → ℕ
condition_code_code ANDItoCCR = 1
condition_code_code ORItoCCR = 0
condition_code_code EORItoCCR = 5

abbrev status_code : StatusOperation → ℕ
status_code ANDItoSR = 1
status_code ORItoSR = 0
status_code EORItoSR = 5
status_code STOP = 8

abbrev pub is_stop : StatusOperation → Bool
is_stop ANDItoSR = false
is_stop ORItoSR = false
is_stop EORItoSR = false
is_stop STOP = true

abbrev Statuses : ℕ → Type 0
Statuses x = (ltb x 2 || eqb x 5 ≡ true) × At group.ImmediateInto 0 x 0 × At group.ImmediateInto 0 x 1

condition_code-is : (op : ConditionCodeOperation)
    → (condition_code_operation op ≡ operation 0 (condition_code_code op) 0 60) × (condition_code_at (condition_code_code op) ≡ op) × Statuses (condition_code_code op)
unfolding group_at map
condition_code-is ANDItoCCR = (refl, refl, (refl, at_code group.ImmediateInto 0 1 0 refl, at_code group.ImmediateInto 0 1 1 refl))
condition_code-is ORItoCCR = (refl, refl, (refl, at_code group.ImmediateInto 0 0 0 refl, at_code group.ImmediateInto 0 0 1 refl))
condition_code-is EORItoCCR = (refl, refl, (refl, at_code group.ImmediateInto 0 5 0 refl, at_code group.ImmediateInto 0 5 1 refl))

status_is : (op : StatusOperation) → is_stop op ≡ false
    → (status_operation op ≡ operation 0 (status_code op) 1 60) × (status_at (status_code op) ≡ op) × Statuses (status_code op)
status_is ANDItoSR e = (refl, refl, (condition_code-is ANDItoCCR).2)
status_is ORItoSR e = (refl, refl, (condition_code-is ORItoCCR).2)
status_is EORItoSR e = (refl, refl, (condition_code-is EORItoCCR).2)
status_is STOP e = absurd (true≢false e)

condition_code_encodes : (a : ℕ) (op : ConditionCodeOperation) (v : ℕ) → v < 256
    → Encodes a (ConditionCode op v) (word_of 0 (condition_code_code op) 0 60 ∷ v ∷ [])
unfolding condition_code_parts
condition_code_encodes a op v h = rw (condition_code-is op).0 ((h, refl, ordinary _ refl), refl, refl)

status_encodes : (a : ℕ) (op : StatusOperation) (v : ℕ) → is_stop op ≡ false → v < 65536 → Encodes a (Status op v) (word_of 0 (status_code op) 1 60 ∷ v ∷ [])
unfolding status_parts
status_encodes a op v n h = rw (status_is op n).0 ((h, refl, ordinary _ refl), refl, refl)

pub condition_code-reads : (a : ℕ) (op : ConditionCodeOperation) (v : ℕ) → Accepted a (ConditionCode op v) → Reads a (ConditionCode op v)
condition_code-reads a op v (h, e, l) =
    let (c, d, (t, o, u)) = condition_code-is op in
    let m : v % 256 ≡ v = omega arith in
    alone-reads a (ConditionCode op v) 60 specifier.Byte v o (omega arith) (rw t) (omega arith, eqb_is (v / 256) 0 (omega arith)) (rw (t, d, m))
    (condition_code_encodes a op v h)

pub status_reads : (a : ℕ) (op : StatusOperation) (v : ℕ) → is_stop op ≡ false → Accepted a (Status op v) → Reads a (Status op v)
status_reads a op v n (h, e, l) =
    let (c, d, (t, u, o)) = status_is op n in
    let m : v % 65536 ≡ v = omega arith in
    alone-reads a (Status op v) 60 specifier.Word v o (omega arith) (rw t) (h, refl) (rw (t, d, m)) (status_encodes a op v n h)

status_fields : (x opmode ea : ℕ) → to_status x opmode ea ≡ true → (ea ≡ 60) × (opmode < 2) × (ltb x 2 || eqb x 5 ≡ true)
status_fields x opmode ea n =
    let m = and-true (eqb ea 60 && ltb opmode 2) (ltb x 2 || eqb x 5) n in
    let d = and-true (eqb ea 60) (ltb opmode 2) m.0 in
    (eqb_eq ea 60 d.0, ltb_is opmode 2 d.1, m.1)

-- the codes that have forms to CCR and SR
to_status_encodes : (a x opmode v : ℕ) → x < 8 → opmode < 2 → ltb x 2 || eqb x 5 ≡ true → SpecifierStands (immediate_specifier (size_at opmode)) v
    → Encodes a (status_decoded x opmode v) (word_of 0 x opmode 60 ∷ specifier_words (immediate_specifier (size_at opmode)) v)
to_status_encodes a x opmode v hx ho t =
    let test = equal (condition_code_code (condition_code_at x)) x ∷ equal (status_code (status_at x)) x ∷ no (is_stop (status_at x)) ∷ [] in
    let (c, (d, (n, z))) = says test (rw t at (facts_below 8 (λ x. yes (implies (ltb x 2 || eqb x 5)
    (known (equal (condition_code_code (condition_code_at x)) x ∷ equal (status_code (status_at x)) x ∷ no (is_stop (status_at x)) ∷ []))) ∷ []) refl x hx).0) in
    each (λ o. SpecifierStands (immediate_specifier (size_at o)) v → Encodes a (status_decoded x o v)
    (word_of 0 x o 60 ∷ specifier_words (immediate_specifier (size_at o)) v))
    (0 ∷ 1 ∷ []) (
      λ s. let q = eqb_eq (v / 256) 0 s.1 in let m : v % 256 ≡ v = omega arith in rw m
          (rw c at (condition_code_encodes a (condition_code_at x) v (omega arith))),
      (λ s. let m : v % 65536 ≡ v = omega (arith, s.0) in rw m (rw d at (status_encodes a (status_at x) v n s.0)), tt),
    )
    opmode (facts_below 2 (λ o. yes (among (0 ∷ 1 ∷ []) o) ∷ []) refl opmode ho).0

pub immediate_into_sound : Sound group.ImmediateInto
unfolding map
immediate_into_sound a line x opmode ea hl hx ho he e f h p i r =
    let (w, (m, (u, z))) = in_group group.ImmediateInto (λ l x o. equal (word_of 0 (immediate_kind (immediate_at x)) (size_code (size_at o)) 0) (word_of l x o 0)
    ∷ equal (cond (eqb x 6) (bits data_not_immediate) (bits data_alterable)) (bits (immediate_modes (immediate_at x))) ∷ equal l 0 ∷ []) refl line x opmode e in
    let s = size_at opmode in
    let v = f.value in
    let j = status_decoded x opmode v in
    let k = ImmediateInto (immediate_at x) v f.source s in
    either_encodes a i j k (word_of line x opmode ea) (to_status x opmode ea) (alone (immediate_specifier s))
    (one (immediate_specifier s) s ea (cond (eqb x 6) (bits data_not_immediate) (bits data_alterable))) f h r
    (λ q g.
    let (y, o, t) = status_fields x opmode ea q in
    word_as a j _ _ _ (omega arith) (alone_encodes a j _ (immediate_specifier s) f g (to_status_encodes a x opmode v hx o t g.1)))
    (λ q g.
    let b = stands_immediate v s g.1 in
    let own = own_remainder s v b in
    word_as a k _ _ _ (omega (arith, w))
    (laying_encodes ea f (rw own at (immediate_laying a (immediate_at x) v f.source s)) (immediate_passing v s b) (rw m at g) (rw q at p) (λ n. n) refl (λ e. rw (own_number_lem s v b, e))))

-- ---- BTST BCHG BCLR BSET, by their number
parts_are : (k : ℕ) → k < 4 → (o d : Operand) → unsized_pair_parts (bit_at k) o d ≡ bit_parts k o d
unfolding unsized_pair_parts
parts_are k h o d =
    each (λ k. unsized_pair_parts (bit_at k) o d ≡ bit_parts k o d) (0 ∷ 1 ∷ 2 ∷ 3 ∷ []) (refl, (refl, (refl, (refl, tt)))) k
    (facts_below 4 (λ k. yes (among (0 ∷ 1 ∷ 2 ∷ 3 ∷ []) k) ∷ []) refl k h).0

items_are : (a k : ℕ) → k < 4 → (o d : Operand) → items_of (UnsizedPair (bit_at k) o d) a ≡ laid (typed_two o d ∷ bit_parts k o d) a
items_are a k h o d = ap (λ (ps : List Part). laid (typed_two o d ∷ ps) a) (parts_are k h o d)

-- the bit number in a word
abbrev static_items : ℕ → List Item
static_items v = range field.BitNumber (pos v) ∷ word (v % 256) ∷ []

static_laying : (a k : ℕ) → k < 4 → (v : ℕ) (d : Operand)
    → Laying a (UnsizedPair (bit_at k) (Immediate v) d) 0 4 k specifier.Byte Byte (cond (eqb k 0) (bits data_not_immediate) (bits data_alterable)) v d (v < 256)
unfolding bit_parts static_parts
static_laying a k h v d =
    let back : Passing (typed (Immediate v) ∷ static_items v) → v < 256 = λ c. ltb_is v 256 (sym (bit-number-holds v) ∙ c.1.0) in
    form_as
    (form_is (typed (Immediate v) ∷ []) [] (static_items v) (static_reason k) (word_address (word_address a 0) 2) (rw (column_cond (eqb k 0) data_not_immediate data_alterable refl refl) (items_are a k h (Immediate v) d)) (omega arith) refl
    (λ c. let l = back c in let z : v % 256 ≡ v = omega arith in rw z))
    back (λ l. (refl, (bit-number-holds v ∙ ltb-true v 256 l, tt)))

static_reads : (a k : ℕ) → k < 4 → (v : ℕ) (d : Operand) → Accepted a (UnsizedPair (bit_at k) (Immediate v) d) → Reads a (UnsizedPair (bit_at k) (Immediate v) d)
unfolding group_at map
static_reads a k h v d (n, e, l) =
    laying_reads (static_laying a k h v d) (at_below group.StaticBit 0 4 4 refl k h) e n.1 (λ c m. (refl, (omega arith, eqb_is (v / 256) 0 (omega arith)), refl))

-- the bit number in a data register
dynamic_laying : (a k : ℕ) → k < 4 → (r : RegisterOperand) (d : Operand) (v : ℕ)
    → Laying a (UnsizedPair (bit_at k) (Register r) d) 0 (register_bits r) (4 + k) specifier.Nothing Byte (cond (eqb k 0) (bits data_column) (bits data_alterable)) v d
    (Passing (typed (Register r) ∷ data_register r ∷ []))
unfolding bit_parts dynamic_parts with_data
dynamic_laying a k h r d v =
    form_is (typed (Register r) ∷ []) [] (data_register r ∷ []) (dynamic_reason k) (word_address (word_address a 0) 1) (rw (column_cond (eqb k 0) data_column data_alterable refl refl) (rw (is_register_lem r) at (items_are a k h (Register r) d))) (omega arith)
    refl (λ c. refl)

-- MOVEP stands where these have no mode
not_address : (b : Bool) (ea : ℕ) → permitted (cond b (bits data_column) (bits data_alterable)) ea ≡ true → eqb (ea / 8) 1 ≡ false
not_address true ea m = (modes_say (bits data_column) (λ ea. no (eqb (ea / 8) 1) ∷ []) refl ea m).0
not_address false ea m = (modes_say (bits data_alterable) (λ ea. no (eqb (ea / 8) 1) ∷ []) refl ea m).0

dynamic_at : (x opmode : ℕ) → x < 8 → 4 ≤ opmode → opmode < 8 → At group.DynamicBitMovep 0 x opmode
unfolding group_at map
dynamic_at x opmode hx l h = at_line group.DynamicBitMovep 0 (λ o. leb 4 o) refl x opmode hx h (leb-true 4 opmode l)

dynamic_reads : (a k : ℕ) → k < 4 → (r : RegisterOperand) (d : Operand) → Accepted a (UnsizedPair (bit_at k) (Register r) d)
    → Reads a (UnsizedPair (bit_at k) (Register r) d)
dynamic_reads a k h r d (n, e, l) =
    let z : 4 + k - 4 ≡ k = omega arith in
    laying_reads (dynamic_laying a k h r d 0) (dynamic_at (register_bits r) (4 + k) (omega arith) (omega arith) (omega arith)) e n.1 (λ c m.
    let q = not_address (eqb k 0) (ea_field d) m in
    (rw (q, z), refl, rw (q, z, data_bits r c.1.0)))

-- no other operand holds a bit number
pub bit-reads : (a k : ℕ) → k < 4 → (o d : Operand) → Accepted a (UnsizedPair (bit_at k) o d) → Reads a (UnsizedPair (bit_at k) o d)
unfolding bit_parts
bit-reads a k h o d =
    by_kind (λ o. Accepted a (UnsizedPair (bit_at k) o d) → Reads a (UnsizedPair (bit_at k) o d)) (λ r. dynamic_reads a k h r d) (λ v. static_reads a k h v d)
    (λ o p q acc.
    let w : failure true (laid (typed_two o d ∷ bit_parts k o d) a) ≡ fine = sym (ap (failure true) (items_are a k h o d)) ∙ acc.1 in
    let t = fine_both (unless (is_typed o) malformed) _ (rw (p, q) at w) in
    reason_not 53 (fine_both (unless (is_typed d) malformed) _ t.1).1) o

pub static_bit_sound : Sound group.StaticBit
unfolding map
static_bit_sound a line x opmode ea hl hx ho he e f h p i r =
    let (l, (k, (o, u))) = in_group group.StaticBit (λ l x o. equal l 0 ∷ equal x 4 ∷ yes (ltb o 4) ∷ []) refl line x opmode e in
    let v = f.value in
    let z = eqb_eq (v / 256) 0 h.1.1 in
    decoded_as a i (UnsizedPair (bit_at opmode) (Immediate v) f.source) _ _ _ r (omega arith)
    (laying_encodes ea f (static_laying a opmode (ltb_is opmode 4 o) v f.source) (omega arith) h p (λ n. (tt, n)) refl (λ e. rw e))

-- ---- MOVEP: the opmode
abbrev movep_mode : TargetDirection → Size → ℕ
movep_mode direction s = 4 + 2 * to_memory direction + long_bit s

movep_mode_lem : (direction : TargetDirection) (s : Size) → not (is_byte s) ≡ true
    → (movep_mode direction s < 8) × (to_memory_at (movep_mode direction s / 2 % 2) ≡ direction) × (size_at (1 + movep_mode direction s % 2) ≡ s)
movep_mode_lem direction Byte e = true_not_false e refl
movep_mode_lem ToMemory Word e = (omega arith, refl, refl)
movep_mode_lem ToMemory Long e = (omega arith, refl, refl)
movep_mode_lem FromMemory Word e = (omega arith, refl, refl)
movep_mode_lem FromMemory Long e = (omega arith, refl, refl)

abbrev movep_of : TargetDirection → Size → RegisterOperand → ℤ → ℕ → Instruction
movep_of direction s r z n = Transfer MOVEP direction s r (IndirectDisplacement z (Address n))

movep_encodes : (a : ℕ) (direction : TargetDirection) (s : Size) (r : RegisterOperand) (z : ℤ) (n : ℕ)
    → data_verdict r ≡ fine → n < 8 → holds field.Displacement z ≡ true → not (is_byte s) ≡ true
    → Encodes a (movep_of direction s r z n) (word_of 0 (register_bits r) (movep_mode direction s) (8 + n) ∷ bits_of z % 65536 ∷ [])
unfolding transfer_parts movep_parts permits
movep_encodes a direction s r z n d h e b =
    let m : n % 8 ≡ n = omega arith in (
      (
        tt,
        passed (items_of (movep_of direction s r z n) a) (refl, (d, (refl, (lt_number n h, (e, (true_unless (not (is_byte s)) (no_encoding 6) b, tt)))))),
        ordinary _ refl,
      ),
      refl,
      rw m,
    )

movep_at : (a : ℕ) (direction : TargetDirection) (s : Size) (r : RegisterOperand) (z : ℤ) (n : ℕ)
    → data_verdict r ≡ fine → n < 8 → holds field.Displacement z ≡ true → not (is_byte s) ≡ true → Reads a (movep_of direction s r z n)
movep_at a direction s r z n d h e b =
    let o = IndirectDisplacement z (Address n) in
    let (m, t, u) = movep_mode_lem direction s b in
    let ea = 8 + n in
    let g : eqb (ea / 8) 1 ≡ true = eqb_is (ea / 8) 1 (omega arith) in
    let k : 40 + ea % 8 ≡ 40 + n % 8 = omega arith in
    let y : dynamic_bit_movep_layout (movep_mode direction s) ea ≡ one specifier.Nothing Word (ea_field o) 32 = rw (g, k) in
    let (hl, hx, ho, q) = dynamic_at (register_bits r) (movep_mode direction s) (omega arith) (omega arith) m in
    let w : permitted 32 (40 + n % 8) ≡ true = (facts_below 8 (λ n. yes (permitted 32 (40 + n)) ∷ []) refl (n % 8) (omega arith)).0 in
    let c = movep_encodes a direction s r z n d h e b in
    reads group.DynamicBitMovep 0 (register_bits r) (movep_mode direction s) ea (tail_of 0 o) hl hx ho (omega arith) q
    (rw y (one_there a specifier.Nothing Word 32 0 o w refl (passed (ea_items o Word (behind a specifier.Nothing 0)) (lt_number n h, (e, tt)), refl, tt, refl)))
    (rw (g, t, u, data_bits r d)) (rw y c.2)

pub movep-reads : (a : ℕ) (direction : TargetDirection) (s : Size) (r : RegisterOperand) (o : Operand) → Accepted a (Transfer MOVEP direction s r o)
    → Reads a (Transfer MOVEP direction s r o)
unfolding transfer_parts movep_parts permits
movep-reads a direction s r o acc = go (kind? o)
  where
    go : Kind o → Reads a (Transfer MOVEP direction s r o)
    go (displaced z base q) =
        let (t, (d, (m, (b, (e, (y, u)))))) = checked a (Transfer MOVEP direction s r (IndirectDisplacement z base)) (rw q at acc) in
        let (n, h, k) = address_is base b in
        rw (q, k) (movep_at a direction s r z n d h e (unless_reason (not (is_byte s)) 6 y))
    go (post n q) = reason_not 5 (checked a (Transfer MOVEP direction s r (PostIndirect n)) (rw q at acc)).1.1.0
    go (other m q) = reason_not 5 (rw q.0 at (checked a (Transfer MOVEP direction s r o) acc)).1.1.0

fail_no : {C : Type 0} (i : Instruction) → ◌≡◌ {A = Tree Instruction} fail (ret i) → C
fail_no i e = let z : ◌≡◌ {A = ℕ} 0 1 = cc in absurd (omega arith)

-- what the opmode of MOVEP names
abbrev direction_in : ℕ → TargetDirection
direction_in opmode = to_memory_at (opmode / 2 % 2)

abbrev size_in : ℕ → Size
size_in opmode = size_at (1 + opmode % 2)

movep_sound : (a x opmode ea : ℕ) (f : Tail) (i : Instruction) → x < 8 → movep_mode (direction_in opmode) (size_in opmode) ≡ opmode
    → not (is_byte (size_in opmode)) ≡ true
    → ea / 8 ≡ 1 → TailStands a (one specifier.Nothing Word (40 + ea % 8) 32) f → movep_decoded x opmode f.source ≡ ret i → Kind f.source
    → Encodes a i (word_of 0 x opmode ea ∷ tail_words a (one specifier.Nothing Word (40 + ea % 8) 32) f)
movep_sound a x opmode ea f i hx m w he h r (displaced z base q) =
    let at = behind a specifier.Nothing f.value in
    let g : Stands Word at (40 + ea % 8) (IndirectDisplacement z base) = rw q at h.2 in
    let (b, (e, t)) = passing (ea_items (IndirectDisplacement z base) Word at) g.0 in
    let (n, l, k) = address_is base b in
    let y : 40 + n % 8 ≡ 40 + ea % 8 = rw k at g.3 in
    let j = movep_of (direction_in opmode) (size_in opmode) (Data x) z n in
    rw (one_words a specifier.Nothing Word (40 + ea % 8) 32 f h, q)
    (decoded_as a i j _ _ _ (rw (q, k) at r) (omega arith) (movep_encodes a (direction_in opmode) (size_in opmode) (Data x) z n (lt_number x hx) l e w))
movep_sound a x opmode ea f i hx m w he h r (post n q) = fail_no i (rw q at r)
movep_sound a x opmode ea f i hx m w he h r (other k q) = fail_no i (sym (q.1 x opmode) ∙ r)

pub dynamic_bit-movep_sound : Sound group.DynamicBitMovep
unfolding map
dynamic_bit-movep_sound a line x opmode ea hl hx ho he e f h p i r = go (eq? (ea / 8) 1)
  where
    facts : Known (equal line 0 ∷ yes (leb 4 opmode) ∷ equal (movep_mode (direction_in opmode) (size_in opmode)) opmode ∷ yes (not (is_byte (size_in opmode))) ∷ [])
    facts =
        in_group group.DynamicBitMovep (λ l x o. equal l 0 ∷ yes (leb 4 o) ∷ equal (movep_mode (direction_in o) (size_in o)) o ∷ yes (not (is_byte (size_in o))) ∷ [])
        refl line x opmode e

    go : Eq (ea / 8) 1 → Encodes a i (word_of line x opmode ea ∷ tail_words a (layout_of group.DynamicBitMovep line x opmode ea) f)
    go (Eq.same q g) =
        let (l, (u, (m, (w, z)))) = facts in
        rw (l, g) (movep_sound a x opmode ea f i hx m w q (rw g at h) (rw g at r) (kind? f.source))
    go (Eq.other q g) =
        let (l, (u, z)) = facts in
        let n = leb_is 4 opmode u in
        rw g (decoded_as a i (UnsizedPair (bit_at (opmode - 4)) (Register (Data x)) f.source) _ _ _ (rw g at r) (omega arith)
        (laying_encodes ea f (dynamic_laying a (opmode - 4) (omega arith) (Data x) f.source f.value) (refl, (lt_number x hx, tt))
        (rw g at h) (rw g at p) (λ n. (tt, n)) refl (λ e. rw e)))
