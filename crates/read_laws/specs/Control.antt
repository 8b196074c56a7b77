-- Lines 0101 to 0111: ADDQ SUBQ; Scc DBcc TRAPcc; Bcc BRA BSR; MOVEQ.
use Rattle.std.specs.Prelude.{ℕ, ◌%◌, ◌^◌, ◌<◌, ◌≤◌, ◌+◌, ◌*◌, ◌/◌, ◌-◌, ◌≡◌, refl, true, not, ◌&&◌, false, cond, ℤ, pos, negsuc, List, ◌∷◌, [], ltb, eqb, leb}
use Rattle.std.proofs.Common.{ap, sym, ◌∙◌, subst, arith}
use Rattle.base_spec.specs.Signed.{signed32, bits_of, difference}
use Rattle.encode_spec.specs.Item.{word_address, no_encoding, words_in, laid, range, allow}
use Rattle.isa_spec.specs.Mode.{alterable_column, bits}
use Rattle.encode_spec.specs.Ea.{distance, data_alterable, byte_of_address, ea_field, single}
use Rattle.read_spec.specs.Number.{signed16, reach, signed8}
use Rattle.read_spec.specs.Decoded.{extended, quick_decoded, word_of, branch_to, branch_decoded}
use Rattle.read_operand_laws.specs.Facts.{fits, fits_wider, as_fits32, signed16-low, signed32-low, low-signed32, signed16-fits, distance-reach, reach-distance, count_holds, reach_lt, low-signed16, word_branch_holds, low, low8, short_branch-holds, signed8-fits, low-signed8, signed8-low}
use Rattle.encode_facts.specs.Items.{address_address, address_lt, unless_reason, true_unless, lt_number}
use Rattle.isa.specs.declared.Condition.{Condition}
use Rattle.isa.specs.declared.Condition.TheVariants.{True, False}
use Rattle.isa_facts.specs.Condition.{of_code, code_of, condition_lt}
use Rattle.isa_spec.specs.Condition.{condition_of}
use Rattle.isa_spec.specs.Code.{condition_code, size_code, is_byte}
use Rattle.isa.specs.declared.Size.{Size}
use Rattle.isa.specs.declared.Field.TheVariants as field
use Rattle.isa.specs.declared.Operand.{Operand}
use Rattle.isa.specs.declared.QuickOperation.{QuickOperation}
use Rattle.isa.specs.declared.QuickOperation.TheVariants.{ADDQ, SUBQ}
use Rattle.isa.specs.declared.Instruction.TheVariants.{Quick, Scc, DBcc, TRAPcc, Bcc, Branch, MOVEQ}
use Rattle.encode_spec.specs.Arithmetic.{quick_bit, quick_parts}
use Rattle.encode_spec.specs.Encode.{items_of}
use Rattle.read_spec.specs.declared.Group.TheVariants as group
use Rattle.read_spec.specs.declared.Specifier.TheVariants as specifier
use Rattle.read_spec.specs.declared.Tail.{Tail}
use Rattle.read_spec.specs.Layouts.{branch_layout, trap_specifier}
use Rattle.read_spec.specs.Map.{group_at, map}
use Rattle.read_spec.specs.Operation.{size_at, count_at, trap_at}
use Rattle.read_operand_laws.specs.TailStands.{TailStands, tail_words, specifier_words, SpecifierStands}
use Rattle.isa.specs.declared.Size.TheVariants.{Byte}
use Rattle.isa.specs.declared.RegisterOperand.{RegisterOperand}
use Rattle.isa.specs.declared.RegisterOperand.TheVariants.{Data}
use Rattle.isa.specs.declared.TrapOperand.{TrapOperand}
use Rattle.isa.specs.declared.TrapOperand.TheVariants as trap
use Rattle.encode_spec.specs.Control.{scc_parts, dbcc_parts, trapcc_parts, trap_opmode, trap_items, branch_parts, bcc_parts}
use Rattle.read_spec.specs.declared.Specifier.{Specifier}
use Rattle.read_spec.specs.Tree.{ret}
use Rattle.read_spec.specs.Layout.{one, alone}
use Rattle.std.specs.Int.Signed.{mag}
use Rattle.isa.specs.declared.BranchSize.{BranchSize}
use Rattle.isa.specs.declared.BranchSize.TheVariants as branch
use Rattle.isa.specs.declared.BranchOperation.{BranchOperation}
use Rattle.isa.specs.declared.BranchOperation.TheVariants.{BRA, BSR}
use Rattle.isa_spec.specs.Field.{holds, excludes}
use Rattle.encode_spec.specs.Instruction.{branches_parts}
use Rattle.isa_facts.specs.Ordinary.{ordinary}
use Rattle.encode_spec.specs.Movement.{moveq_parts}
use Rattle.read_laws.specs.Statements.{Reads, Encodes, Sound}
use Rattle.read_spec.specs.Accepted.{TrapInTypes, Accepted}
use Rattle.read_laws.specs.Tests.{equal, yes, no, implies, among, each, facts_below, modes_say, not-true}
use Rattle.read_laws.specs.MapLaws.{At, at_registers, at_line, in_group, each-size}
use Rattle.read_laws.specs.LayingLaws.{Passing, passed, checked, Laying, form_as, form_byte, laying_reads, laying_encodes, decoded_as, word_as, alone-reads, alone_encodes, either_encodes, form_behind, form_bare}
use Rattle.read_laws.specs.Operands.{data_is}
use Rattle.base_facts.specs.Tests.{Lt, lt?, and-true, true_and, leb_is, leb-true, ltb-true, eqb_eq, Eq, eq?, eqb_is, true_not_false, ltb_is, eqb_not, or_no}

-- ---- ADDQ SUBQ
abbrev quick_opmode : QuickOperation → Size → ℕ
quick_opmode op s = 4 * quick_bit op + size_code s

quick_laying : (a : ℕ) (op : QuickOperation) (n : ℕ) (o : Operand) (s : Size) (v : ℕ)
    → Laying a (Quick op n o s) 5 (n % 8) (quick_opmode op s) specifier.Nothing s (cond (is_byte s) (bits data_alterable) (bits alterable_column)) v o
    (Passing (range field.Count (pos n) ∷ []))
unfolding quick_parts single
quick_laying a op n o s v =
    form_byte (bits alterable_column) (bits data_alterable) 55 refl
    (form_as
    (form_behind [] (range field.Count (pos n) ∷ allow (not (byte_of_address s o)) 55 ∷ []) [] 56 refl refl refl)
    (λ c. (c.1.0, (c.0, tt))) (λ d. (d.1.0, (d.0, tt))))

abbrev QuickCode : QuickOperation → Size → Type 0
QuickCode op s =
    ((x : ℕ) → x < 8 → At group.Quick 5 x (quick_opmode op s)) × (size_at (quick_opmode op s % 4) ≡ s) × (cond (leb 4 (quick_opmode op s)) SUBQ ADDQ ≡ op)

quick_code : (op : QuickOperation) (s : Size) → QuickCode op s
unfolding group_at map
quick_code ADDQ =
    each-size (QuickCode ADDQ) (at_registers group.Quick 5 0 refl, refl, refl) (at_registers group.Quick 5 1 refl, refl, refl)
    (at_registers group.Quick 5 2 refl, refl, refl)
quick_code SUBQ =
    each-size (QuickCode SUBQ) (at_registers group.Quick 5 4 refl, refl, refl) (at_registers group.Quick 5 5 refl, refl, refl)
    (at_registers group.Quick 5 6 refl, refl, refl)

-- a count of 1 to 8, 8 coded 0
pub count_eight : (n : ℕ) → holds field.Count (pos n) ≡ true → count_at (n % 8) ≡ n
count_eight n e = go (eq? (n % 8) 0) (leb_is 1 n t.0) (leb_is n 8 t.1)
  where
    t : (leb 1 n ≡ true) × (leb n 8 ≡ true)
    t = and-true (leb 1 n) (leb n 8) (sym (count_holds n) ∙ e)

    go : Eq (n % 8) 0 → 1 ≤ n → n ≤ 8 → count_at (n % 8) ≡ n
    go (Eq.same p g) l h = rw g (omega arith)
    go (Eq.other p g) l h = rw g (omega (arith, p))

pub quick_reads : (a : ℕ) (op : QuickOperation) (n : ℕ) (o : Operand) (s : Size) → Accepted a (Quick op n o s) → Reads a (Quick op n o s)
quick_reads a op n o s (y, e, l) =
    let (t, z, q) = quick_code op s in
    laying_reads (quick_laying a op n o s 0) (t (n % 8) (omega arith)) e y (λ c m. (rw z, refl, rw (z, count_eight n c.0, q)))

pub quick_sound : Sound group.Quick
unfolding map
quick_sound a line x opmode ea hl hx ho he e f h p i r =
    let (w, (c, u)) = in_group group.Quick (λ l x o. equal (word_of 5 (count_at x % 8) (quick_opmode (cond (leb 4 o) SUBQ ADDQ) (size_at (o % 4))) 0)
    (word_of l x o 0)
    ∷ yes (leb 1 (count_at x) && leb (count_at x) 8) ∷ []) refl line x opmode e in
    decoded_as a i (quick_decoded x opmode f.source) _ _ _ r (omega (arith, w))
    (laying_encodes ea f (quick_laying a (cond (leb 4 opmode) SUBQ ADDQ) (count_at x) f.source (size_at (opmode % 4)) f.value) (count_holds (count_at x) ∙ c, tt)
    h p (λ n. n) refl (λ e. rw e))

-- ---- a word that holds a distance from itself, or a long sign-extended
again : (x : ℕ) → x % 65536 % 65536 ≡ x % 65536
again x = omega arith

within : (v : ℕ) → v < 65536 → v % 65536 ≡ v
within v h = omega arith

-- a distance of fewer bits, from the word after an operation word
pub near : (a h : ℕ) (z : ℤ) → h ≤ 2 ^ 31 → fits h z ≡ true → distance (reach (word_address a 1) z) (word_address a 1) ≡ z
near a h z l e = distance-reach (word_address a 1) z (address_lt a 1) (as_fits32 z (fits_wider h (2 ^ 31) z l e))

pub word-reach : (a v : ℕ) → v < 65536 → distance (reach (word_address a 1) (signed16 (v % 65536))) (word_address a 1) ≡ signed16 v
word-reach a v h = rw (within v h) (near a (2 ^ 15) (signed16 v) (omega arith) (signed16-fits v h))

pub reach-word : (a t : ℕ) → t < 2 ^ 32 → fits (2 ^ 15) (distance t (word_address a 1)) ≡ true
    → reach (word_address a 1) (signed16 (bits_of (distance t (word_address a 1)) % 65536 % 65536)) ≡ t
reach-word a t l h =
    rw (again (bits_of (distance t (word_address a 1))), signed16-low (distance t (word_address a 1)) h) (reach-distance t (word_address a 1) l (address_lt a 1))

pub word-extended : (v : ℕ) → v < 65536 → signed32 (extended (v % 65536)) ≡ signed16 v
word-extended v h =
    rw (within v h) (signed32-low (signed16 v) (as_fits32 (signed16 v) (fits_wider (2 ^ 15) (2 ^ 31) (signed16 v) (omega arith) (signed16-fits v h))))

pub extended-word : (d : ℕ) → d < 2 ^ 32 → fits (2 ^ 15) (signed32 d) ≡ true → extended (bits_of (signed32 d) % 65536 % 65536) ≡ d
extended-word d l h = rw (again (bits_of (signed32 d)), signed16-low (signed32 d) h) (low-signed32 d l)

-- ---- Scc DBcc TRAPcc: the condition in bits 11 to 8
abbrev high : Condition → ℕ
high c = condition_code c / 2

abbrev opmode_of : Condition → ℕ
opmode_of c = 4 * (condition_code c % 2) + 3

condition_at : (c : Condition) → At group.Conditional 5 (high c) (opmode_of c)
unfolding group_at map
condition_at c =
    let k = condition_lt c in
    at_line group.Conditional 5 (λ o. eqb (o % 4) 3) refl (high c) (opmode_of c) (omega (arith, k)) (omega arith) (eqb_is (opmode_of c % 4) 3 (omega arith))

condition_back : (c : Condition) → condition_of (high c * 2 + opmode_of c / 4) ≡ c
condition_back c =
    let k : high c * 2 + opmode_of c / 4 ≡ condition_code c = omega arith in
    ap condition_of k ∙ of_code c

scc_laying : (a : ℕ) (o : Operand) (c : Condition) (v : ℕ) → Laying a (Scc o c) 5 (high c) (opmode_of c) specifier.Nothing Byte (bits data_alterable) v o (Unit {0})
unfolding scc_parts single
scc_laying a o c v = form_bare [] 35 refl refl

-- the modes of Scc are none of DBcc's and TRAPcc's
pub scc_reads : (a : ℕ) (o : Operand) (c : Condition) → Accepted a (Scc o c) → Reads a (Scc o c)
scc_reads a o c (n, e, l) =
    laying_reads (scc_laying a o c 0) (condition_at c) e n (λ d m.
    let (t, (u, z)) = modes_say (bits data_alterable) (λ ea. no (eqb (ea / 8) 1) ∷ no (leb 58 ea && leb ea 60) ∷ []) refl (ea_field o) m in
    (rw (t, u), refl, rw (t, u, condition_back c)))

dbcc_encodes : (a n v : ℕ) (c : Condition) → n < 8 → v < 65536
    → Encodes a (DBcc (Data n) (reach (word_address a 1) (signed16 (v % 65536))) c) (word_of 5 (high c) (opmode_of c) (8 + n) ∷ v ∷ [])
unfolding dbcc_parts
dbcc_encodes a n v c h g =
    let e : n % 8 ≡ n = omega arith in
    let z = signed16 v in
    let t = reach (word_address a 1) (signed16 (v % 65536)) in
    let i = DBcc (Data n) t c in (
      (
        reach_lt (word_address a 1) (signed16 (v % 65536)),
        passed (items_of i a) (
          lt_number n h,
          (rw (word-reach a v g) (word_branch_holds z ∙ signed16-fits v g), tt),
        ),
        ordinary _ refl,
      ),
      refl,
      rw (word-reach a v g, e, low-signed16 v g),
    )

dbcc_at : (a n t : ℕ) (c : Condition) → n < 8 → t < 2 ^ 32 → fits (2 ^ 15) (distance t (word_address a 1)) ≡ true → Reads a (DBcc (Data n) t c)
dbcc_at a n t c h l g =
    let v = bits_of (distance t (word_address a 1)) % 65536 in
    let q : (8 + n) / 8 ≡ 1 = omega arith in
    let u : (8 + n) % 8 ≡ n = omega arith in
    let e = reach-word a t l g in
    alone-reads a (DBcc (Data n) t c) (8 + n) specifier.Word v (condition_at c) (omega arith) (rw q) (omega arith, refl) (rw (q, u, condition_back c, e))
    (subst (λ (t : ℕ). Encodes a (DBcc (Data n) t c) (word_of 5 (high c) (opmode_of c) (8 + n) ∷ v ∷ [])) e (dbcc_encodes a n v c h (omega arith)))

pub dbcc_reads : (a : ℕ) (r : RegisterOperand) (t : ℕ) (c : Condition) → Accepted a (DBcc r t c) → Reads a (DBcc r t c)
unfolding dbcc_parts
dbcc_reads a r t c h =
    let (d, (g, z)) = checked a (DBcc r t c) h in
    let (n, l, q) = data_is r d in
    rw q (dbcc_at a n t c l h.0 (sym (word_branch_holds (distance t (word_address a 1))) ∙ g))

trapcc_encodes : (a : ℕ) (c : Condition) (x : TrapOperand) → TrapInTypes x
    → Encodes a (TRAPcc c x) (word_of 5 (high c) (opmode_of c) (56 + trap_opmode x) ∷ words_in (trap_items x))
unfolding trapcc_parts
trapcc_encodes a c trap.None n = ((n, refl, ordinary _ refl), refl, refl)
trapcc_encodes a c (trap.Word v) n = ((n, refl, ordinary _ refl), refl, refl)
trapcc_encodes a c (trap.Long v) n = ((n, refl, ordinary _ refl), refl, refl)

pub trapcc_reads : (a : ℕ) (c : Condition) (x : TrapOperand) → Accepted a (TRAPcc c x) → Reads a (TRAPcc c x)
trapcc_reads a c trap.None (n, e, l) =
    alone-reads a (TRAPcc c trap.None) 60 specifier.Nothing 0 (condition_at c) (omega arith) refl refl (rw (condition_back c)) (trapcc_encodes a c trap.None n)
trapcc_reads a c (trap.Word v) (n, e, l) =
    let w : v % 65536 ≡ v = omega arith in
    alone-reads a (TRAPcc c (trap.Word v)) 58 specifier.Word v (condition_at c) (omega arith) refl (n, refl) (rw (condition_back c, w))
    (trapcc_encodes a c (trap.Word v) n)
trapcc_reads a c (trap.Long v) (n, e, l) =
    alone-reads a (TRAPcc c (trap.Long v)) 59 specifier.Long v (condition_at c) (omega arith) refl (n, refl, refl) (rw (condition_back c))
    (trapcc_encodes a c (trap.Long v) n)

trap_encodes : (a v : ℕ) (c : Condition) (ea : ℕ) → ea < 64 → leb 58 ea && leb ea 60 ≡ true → SpecifierStands (trap_specifier ea) v
    → Encodes a (TRAPcc c (trap_at ea v)) (word_of 5 (high c) (opmode_of c) ea ∷ specifier_words (trap_specifier ea) v)
trap_encodes a v c ea h t =
    each (λ ea. SpecifierStands (trap_specifier ea) v → Encodes a (TRAPcc c (trap_at ea v))
    (word_of 5 (high c) (opmode_of c) ea ∷ specifier_words (trap_specifier ea) v))
    (58 ∷ 59 ∷ 60 ∷ []) (
      λ s. let w : v % 65536 ≡ v = omega (arith, s.0) in rw w (trapcc_encodes a c (trap.Word v) s.0),
      (λ s. trapcc_encodes a c (trap.Long v) s.0, (λ s. trapcc_encodes a c trap.None tt, tt)),
    )
    ea (rw t at (facts_below 64 (λ ea. yes (implies (leb 58 ea && leb ea 60) (among (58 ∷ 59 ∷ 60 ∷ []) ea)) ∷ []) refl ea h).0)

pub conditional_sound : Sound group.Conditional
unfolding map
conditional_sound a line x opmode ea hl hx ho he e f h p i r =
    let (l, (m, u)) = in_group group.Conditional (λ l x o. equal l 5 ∷ equal (o % 4) 3 ∷ []) refl line x opmode e in
    let k = x * 2 + opmode / 4 in
    let c = condition_of k in
    let q : condition_code c ≡ k % 16 = code_of k in
    let w : word_of 5 (high c) (opmode_of c) 0 ≡ word_of line x opmode 0 = omega arith in
    let v = f.value in
    let j = DBcc (Data (ea % 8)) (reach (word_address a 1) (signed16 (v % 65536))) c in
    let t = TRAPcc c (trap_at ea v) in
    let s = Scc f.source c in
    let b = leb 58 ea && leb ea 60 in
    either_encodes a i j (cond b t s) (word_of line x opmode ea) (eqb (ea / 8) 1) (alone specifier.Word)
    (cond b (alone (trap_specifier ea)) (one specifier.Nothing Byte ea (bits data_alterable))) f h r
    (λ q g. word_as a j _ _ _ (omega (arith, w, eqb_eq (ea / 8) 1 q)) (alone_encodes a j _ specifier.Word f g
    (dbcc_encodes a (ea % 8) v c (omega arith) g.1.0)))
    (λ m g. either_encodes a (cond b t s) t s (word_of line x opmode ea) b (alone (trap_specifier ea)) (one specifier.Nothing Byte ea (bits data_alterable)) f g refl
    (λ q g. word_as a t _ _ _ (omega (arith, w)) (alone_encodes a t _ (trap_specifier ea) f g (trap_encodes a v c ea he q g.1)))
    (λ q g. word_as a s _ _ _ (omega (arith, w)) (laying_encodes ea f (scc_laying a f.source c v) tt g (rw (m, q) at p) (λ n. n) refl (λ e. rw e))))

-- ---- Bcc BRA BSR
-- what a branch of a size holds: its specifier, the value of that, and the byte of its operation word; p is the word after that
abbrev kind_of : BranchSize → Specifier
kind_of branch.Short = specifier.Nothing
kind_of branch.Word = specifier.Word
kind_of branch.Long = specifier.Long

abbrev value_of : ℕ → ℕ → BranchSize → ℕ
value_of t p branch.Short = 0
value_of t p branch.Word = bits_of (distance t p) % 65536
value_of t p branch.Long = difference t p

abbrev byte_of : ℕ → ℕ → BranchSize → ℕ
byte_of t p branch.Short = bits_of (distance t p) % 256
byte_of t p branch.Word = 0
byte_of t p branch.Long = 255

byte_lt : (t p : ℕ) (s : BranchSize) → byte_of t p s < 256
byte_lt t p branch.Short = omega arith
byte_lt t p branch.Word = omega arith
byte_lt t p branch.Long = omega arith

-- its operation word
abbrev branch_word : ℕ → ℕ → BranchSize → ℕ → ℕ
branch_word k t s a = word_of 6 (k / 2) (4 * (k % 2) + byte_of t (word_address a 1) s / 64) (byte_of t (word_address a 1) s % 64)

words_as : (a : ℕ) (c : Condition) (t : ℕ) (s : BranchSize)
    → words_in (laid (branch_parts c t s) a)
    ≡ branch_word (condition_code c) t s a ∷ specifier_words (kind_of s) (value_of t (word_address a 1) s)
unfolding branch_parts
words_as a c t branch.Short = ap (λ (w : ℕ). w ∷ []) (omega arith)
words_as a c t branch.Word = refl
words_as a c t branch.Long = refl

-- the byte of a short distance calls for no word or long branch
short-byte : (z : ℤ) → holds field.ShortBranch z ≡ true
    → (fits (2 ^ 7) z ≡ true) × (eqb (bits_of z % 256) 0 ≡ false) × (eqb (bits_of z % 256) 255 ≡ false)
short-byte z e =
    let p = and-true (fits (2 ^ 7) z) _ (sym (short_branch-holds z) ∙ e) in
    let q = go z (ltb_is (mag z) (2 ^ 7) p.0) (not-true (excludes field.ShortBranch z) p.1) in
    rw (low8 z p.0) (p.0, q.0, q.1)
  where
    go : (z : ℤ) → mag z < 2 ^ 7 → excludes field.ShortBranch z ≡ false → (eqb (low (2 ^ 7) z) 0 ≡ false) × (eqb (low (2 ^ 7) z) 255 ≡ false)
    go (pos n) l k = (sym (or_no (eqb n 0)) ∙ k, eqb_not n 255 (omega arith))
    go (negsuc n) l k = (eqb_not (255 - n) 0 (omega arith), eqb_not (255 - n) 255 (λ e. true_not_false (eqb_is n 0 (omega (arith, e, l))) k))

-- a distance that a branch of a size holds
abbrev Held : BranchSize → ℤ → Type 0
Held branch.Short z = holds field.ShortBranch z ≡ true
Held branch.Word z = fits (2 ^ 15) z ≡ true
Held branch.Long z = Unit {0}

held_back : (a : ℕ) (c : Condition) (t : ℕ) (s : BranchSize) → Passing (laid (branch_parts c t s) a) → Held s (distance t (word_address a 1))
unfolding branch_parts
held_back a c t branch.Short p = p.0
held_back a c t branch.Word p = sym (word_branch_holds (distance t (word_address a 1))) ∙ p.0
held_back a c t branch.Long p = tt

held_there : (a : ℕ) (c : Condition) (t : ℕ) (s : BranchSize) → Held s (distance t (word_address a 1)) → Passing (laid (branch_parts c t s) a)
unfolding branch_parts
held_there a c t branch.Short h = (h, tt)
held_there a c t branch.Word h = (word_branch_holds (distance t (word_address a 1)) ∙ h, tt)
held_there a c t branch.Long h = tt

layout_as : (a t : ℕ) (s : BranchSize) → t < 2 ^ 32 → Held s (distance t (word_address a 1))
    → (branch_layout (byte_of t (word_address a 1) s) ≡ alone (kind_of s)) × SpecifierStands (kind_of s) (value_of t (word_address a 1) s)
    × ((k : ℕ) → branch_decoded a k (byte_of t (word_address a 1) s) (value_of t (word_address a 1) s) ≡ branch_to k t s)
layout_as a t branch.Short l h =
    let b = short-byte (distance t (word_address a 1)) h in
    let r : reach (word_address a 1) (signed8 (bits_of (distance t (word_address a 1)) % 256)) ≡ t = ap (reach (word_address a 1)) (signed8-low (distance t (word_address a 1)) b.0)
    ∙ reach-distance t (word_address a 1) l (address_lt a 1) in
    rw (b.1, b.2, r) (refl, refl, λ k. refl)
layout_as a t branch.Word l h = (refl, (omega arith, refl), λ k. rw (reach-word a t l h))
layout_as a t branch.Long l h = (refl, (omega arith, refl, refl), λ k. rw (reach-distance t (word_address a 1) l (address_lt a 1)))

-- a part before a branch that lays down no words does not move it
from_there : (a : ℕ) (c : Condition) (t : ℕ) (s : BranchSize) → laid (branch_parts c t s) (word_address a 0) ≡ laid (branch_parts c t s) a
unfolding branch_parts
from_there a c t branch.Short = rw (address_address a 0 1)
from_there a c t branch.Word = rw (address_address a 0 1)
from_there a c t branch.Long = rw (address_address a 0 1)

bcc_to : (k t : ℕ) (s : BranchSize) → 2 ≤ k → branch_to k t s ≡ Bcc t (condition_of k) s
bcc_to k t s h = rw (eqb_not k 0 (omega arith), eqb_not k 1 (omega arith))

abbrev branch_words : Condition → ℕ → BranchSize → ℕ → List ℕ
branch_words c t s a = words_in (laid (branch_parts c t s) a)

bcc_encodes : (a t : ℕ) (c : Condition) (s : BranchSize) → 2 ≤ condition_code c → t < 2 ^ 32 → Held s (distance t (word_address a 1))
    → Encodes a (Bcc t c s) (branch_words c t s a)
unfolding bcc_parts
bcc_encodes a t c s g l h =
    let k = condition_code c in
    let e = passed (items_of (Bcc t c s) a) (true_unless (leb 2 k) (no_encoding 36) (leb-true 2 k g), rw (from_there a c t s) (held_there a c t s h)) in
    ((l, e, ordinary _ refl), refl, ap words_in (from_there a c t s))

branch_encodes : (a k t : ℕ) (s : BranchSize) → k < 16 → t < 2 ^ 32 → Held s (distance t (word_address a 1))
    → Encodes a (branch_to k t s) (branch_word k t s a ∷ specifier_words (kind_of s) (value_of t (word_address a 1) s))
unfolding branches_parts
branch_encodes a k t s hk l h =
    subst (Encodes a (branch_to k t s)) (words_as a (condition_of k) t s ∙ ap (λ (n : ℕ). branch_word n t s a ∷ specifier_words (kind_of s) (value_of t (word_address a 1) s)) c)
    (go (eq? k 0) (eq? k 1))
  where
    c : condition_code (condition_of k) ≡ k
    c = code_of k ∙ omega arith

    go : Eq k 0 → Eq k 1 → Encodes a (branch_to k t s) (branch_words (condition_of k) t s a)
    go (Eq.same z g) y =
        subst (λ (k : ℕ). Encodes a (branch_to k t s) (branch_words (condition_of k) t s a)) (sym z)
        ((l, passed (items_of (Branch BRA t s) a) (held_there a True t s h), ordinary _ refl), refl, refl)
    go (Eq.other n g) (Eq.same z f) =
        subst (λ (k : ℕ). Encodes a (branch_to k t s) (branch_words (condition_of k) t s a)) (sym z)
        ((l, passed (items_of (Branch BSR t s) a) (held_there a False t s h), ordinary _ refl), refl, refl)
    go (Eq.other n g) (Eq.other x f) =
        rw (bcc_to k t s (omega (arith, n, x))) (bcc_encodes a t (condition_of k) s (rw c (omega (arith, n, x))) l h)

branch_at_lem : (x opmode : ℕ) → x < 8 → opmode < 8 → At group.Branch 6 x opmode
unfolding group_at map
branch_at_lem x opmode hx ho = at_line group.Branch 6 (λ o. true) refl x opmode hx ho refl

reads_as : (a c t : ℕ) (s : BranchSize) → c < 16 → t < 2 ^ 32 → Held s (distance t (word_address a 1)) → Reads a (branch_to c t s)
reads_as a c t s hc l h =
    let b = byte_of t (word_address a 1) s in
    let v = value_of t (word_address a 1) s in
    let n : b < 256 = byte_lt t (word_address a 1) s in
    let y = layout_as a t s l h in
    let k : c / 2 * 2 + (4 * (c % 2) + b / 64) / 4 ≡ c = omega arith in
    let q : (4 * (c % 2) + b / 64) % 4 * 64 + b % 64 ≡ b = omega arith in
    alone-reads a (branch_to c t s) (b % 64) (kind_of s) v (branch_at_lem (c / 2) (4 * (c % 2) + b / 64) (omega arith) (omega arith)) (omega arith)
    (ap branch_layout q ∙ y.0) y.1
    (ap ret (ap (λ (n : ℕ). branch_decoded a n ((4 * (c % 2) + b / 64) % 4 * 64 + b % 64) v) k ∙ ap (λ (n : ℕ). branch_decoded a c n v) q ∙ y.2 c))
    (branch_encodes a c t s hc l h)

pub branch_reads : (a : ℕ) (op : BranchOperation) (t : ℕ) (s : BranchSize) → Accepted a (Branch op t s) → Reads a (Branch op t s)
unfolding branches_parts
branch_reads a BRA t s h = reads_as a 0 t s (omega arith) h.0 (held_back a True t s (checked a (Branch BRA t s) h))
branch_reads a BSR t s h = reads_as a 1 t s (omega arith) h.0 (held_back a False t s (checked a (Branch BSR t s) h))

pub bcc_reads : (a t : ℕ) (c : Condition) (s : BranchSize) → Accepted a (Bcc t c s) → Reads a (Bcc t c s)
unfolding bcc_parts
bcc_reads a t c s h =
    let k = condition_code c in
    let (p, q) = checked a (Bcc t c s) h in
    let e = bcc_to k t s (leb_is 2 k (unless_reason (leb 2 k) 36 p)) ∙ ap (λ (c : Condition). Bcc t c s) (of_code c) in
    subst (Reads a) e (reads_as a k t s (condition_lt c) h.0 (held_back a c t s (rw (from_there a c t s) at q)))

-- what a byte and a value name
abbrev Jump : ℕ → ℕ → ℕ → ℕ → BranchSize → Type 0
Jump a byte v t s =
    (t < 2 ^ 32) × Held s (distance t (word_address a 1)) × (byte_of t (word_address a 1) s ≡ byte) × (value_of t (word_address a 1) s ≡ v)

jump_word : (a v : ℕ) → v < 65536 → Jump a 0 v (reach (word_address a 1) (signed16 (v % 65536))) branch.Word
jump_word a v h =
    rw (word-reach a v h) (reach_lt (word_address a 1) (signed16 (v % 65536)), signed16-fits v h, refl, low-signed16 v h)

jump_long : (a v : ℕ) → v < 2 ^ 32 → Jump a 255 v (reach (word_address a 1) (signed32 v)) branch.Long
jump_long a v h =
    let z = bits_of (signed32 v) in
    let d : difference (reach (word_address a 1) (signed32 v)) (word_address a 1) ≡ z % 2 ^ 32 = omega arith in
    (reach_lt (word_address a 1) (signed32 v), tt, refl, d ∙ low-signed32 v h)

short-holds : (byte : ℕ) → byte < 256 → (byte ≡ 0 → ⊥) → (byte ≡ 255 → ⊥) → holds field.ShortBranch (signed8 byte) ≡ true
short-holds byte h n m =
    short_branch-holds (signed8 byte) ∙ true_and (fits (2 ^ 7) (signed8 byte)) (not (excludes field.ShortBranch (signed8 byte))) (signed8-fits byte h) (go (lt? byte (2 ^ 7)))
  where
    go : Lt byte (2 ^ 7) → not (excludes field.ShortBranch (signed8 byte)) ≡ true
    go (Lt.less l e) = rw (e, eqb_not byte 0 n)
    go (Lt.past l e) = rw (e, eqb_not (255 - byte) 0 (λ q. m (omega (arith, q, h))))

jump_short : (a byte : ℕ) → byte < 256 → (byte ≡ 0 → ⊥) → (byte ≡ 255 → ⊥) → Jump a byte 0 (reach (word_address a 1) (signed8 byte)) branch.Short
jump_short a byte h n m =
    let d = near a (2 ^ 7) (signed8 byte) (omega arith) (signed8-fits byte h) in
    rw d (reach_lt (word_address a 1) (signed8 byte), short-holds byte h n m, low-signed8 byte h, refl)

jump_encodes : (a k byte t : ℕ) (s : BranchSize) (f : Tail) → k < 16 → TailStands a (alone (kind_of s)) f → Jump a byte f.value t s
    → Encodes a (branch_to k t s) (word_of 6 (k / 2) (4 * (k % 2) + byte / 64) (byte % 64) ∷ tail_words a (alone (kind_of s)) f)
jump_encodes a k byte t s f hk h (l, g, p, q) = alone_encodes a (branch_to k t s) _ (kind_of s) f h (rw (← p, ← q) (branch_encodes a k t s hk l g))

pub branch_sound : Sound group.Branch
unfolding map
branch_sound a line x opmode ea hl hx ho he e f h p i r =
    let (l, u) = in_group group.Branch (λ l x o. equal l 6 ∷ []) refl line x opmode e in
    let k = x * 2 + opmode / 4 in
    let byte = opmode % 4 * 64 + ea in
    let w : word_of 6 (k / 2) (4 * (k % 2) + byte / 64) (byte % 64) ≡ word_of line x opmode ea = omega arith in
    decoded_as a i (branch_decoded a k byte f.value) _ _ _ r w (go (eq? byte 0) (eq? byte 255))
  where
    go : Eq (opmode % 4 * 64 + ea) 0 → Eq (opmode % 4 * 64 + ea) 255 →
        let k = x * 2 + opmode / 4 in
        let byte = opmode % 4 * 64 + ea in
        Encodes a (branch_decoded a k byte f.value) (word_of 6 (k / 2) (4 * (k % 2) + byte / 64) (byte % 64) ∷ tail_words a (branch_layout byte) f)
    go (Eq.same p g) y =
        let h' = rw g at h in
        rw (g, p) (jump_encodes a (x * 2 + opmode / 4) 0 _ branch.Word f (omega arith) h' (jump_word a f.value h'.1.0))
    go (Eq.other p g) (Eq.same q y) =
        let h' = rw (g, y) at h in
        rw (g, y, q) (jump_encodes a (x * 2 + opmode / 4) 255 _ branch.Long f (omega arith) h' (jump_long a f.value h'.1.0))
    go (Eq.other p g) (Eq.other q y) =
        let h' = rw (g, y) at h in
        rw (g, y) (jump_encodes a (x * 2 + opmode / 4) (opmode % 4 * 64 + ea) _ branch.Short f (omega arith) h'
        (rw h'.1 (jump_short a (opmode % 4 * 64 + ea) (omega arith) p q)))

-- ---- MOVEQ
moveq_encodes : (a v n : ℕ) → v < 256 → n < 8 → Encodes a (MOVEQ v (Data n)) (word_of 7 n (v / 64) (v % 64) ∷ [])
unfolding moveq_parts
moveq_encodes a v n l h =
    let w : n % 8 ≡ n = omega arith in
    ((l, passed (items_of (MOVEQ v (Data n)) a) (lt_number n h, tt), ordinary _ refl), refl, rw w)

pub moveq_reads : (a v : ℕ) (r : RegisterOperand) → Accepted a (MOVEQ v r) → Reads a (MOVEQ v r)
unfolding group_at map moveq_parts
moveq_reads a v r h =
    let (n, l, q) = data_is r (checked a (MOVEQ v r) h).0 in
    let t : v < 256 = h.0 in
    let b : v / 64 % 4 * 64 + v % 64 ≡ v = omega arith in
    rw q (alone-reads a (MOVEQ v (Data n)) (v % 64) specifier.Nothing 0
    (at_line group.MOVEQ 7 (λ o. ltb o 4) refl n (v / 64) l (omega arith) (ltb-true (v / 64) 4 (omega arith))) (omega arith) refl refl (rw b)
    (moveq_encodes a v n t l))

pub moveq_sound : Sound group.MOVEQ
unfolding map
moveq_sound a line x opmode ea hl hx ho he e f h p i r =
    let (l, (m, u)) = in_group group.MOVEQ (λ l x o. equal l 7 ∷ equal (o % 4) o ∷ []) refl line x opmode e in
    let v = opmode % 4 * 64 + ea in
    decoded_as a i (MOVEQ v (Data x)) _ _ _ r (omega arith) (alone_encodes a (MOVEQ v (Data x)) (word_of 7 x (v / 64) (v % 64)) specifier.Nothing f h
    (moveq_encodes a v x (omega arith) hx))
