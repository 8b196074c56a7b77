-- Instructions with an extension word: CHK2 CMP2, MOVES, MULS.L MULU.L DIVS.L DIVU.L, CAS CAS2.
use Rattle.std.specs.Prelude.{ℕ, ◌/◌, ◌%◌, ◌<◌, ◌+◌, ◌*◌, ◌-◌, ◌^◌, ◌≡◌, Bool, true, ◌&&◌, false, ◌||◌, not, cond, ◌++◌, [], ◌∷◌, eqb, leb}
use Rattle.std.proofs.Math.Path.{refl}
use Rattle.std.proofs.Common.{ap, sym, ◌∙◌, arith}
use Rattle.isa.specs.declared.Size.{Size}
use Rattle.isa.specs.declared.RegisterOperand.{RegisterOperand}
use Rattle.isa.specs.declared.RegisterOperation.{RegisterOperation}
use Rattle.isa.specs.declared.RegisterOperation.TheVariants.{CHK2, CMP2}
use Rattle.isa.specs.declared.Operand.{Operand}
use Rattle.isa.specs.declared.Instruction.TheVariants.{IntoRegister, Transfer, MULL, DIVL, CAS, CAS2}
use Rattle.encode_spec.specs.Item.{number_verdict, fine, word, register, no_encoding, allow}
use Rattle.isa_spec.specs.Code.{size_code, number_of_register, to_memory, bit, long_bit, is_byte, general}
use Rattle.isa_spec.specs.Mode.{control_column, data_column, bits}
use Rattle.encode_spec.specs.Ea.{memory_alterable, ea_field}
use Rattle.encode_spec.specs.Arithmetic.{bounds_parts, signed_bit, high_number, high_bits, mull_parts, divl_parts}
use Rattle.encode_spec.specs.Instruction.{register_parts, transfer_parts}
use Rattle.encode_spec.specs.Encode.{items_of}
use Rattle.read_spec.specs.declared.Group.TheVariants as group
use Rattle.read_spec.specs.declared.Specifier.TheVariants as specifier
use Rattle.read_spec.specs.Operand.{general_of}
use Rattle.read_spec.specs.Operation.{size_at, to_memory_at, sign_at}
use Rattle.read_spec.specs.Map.{group_at, map}
use Rattle.read_spec.specs.Layout.{one, valid, alone}
use Rattle.read_spec.specs.Decoded.{bounds_decoded, word_of, moves_decoded, high_at, mull_decoded, divl_decoded, cas2_decoded}
use Rattle.encode_facts.specs.Items.{unless_reason, number_lt, lt_number, true_unless}
use Rattle.base_facts.specs.Tests.{Eq, eq?, and-true, eqb_eq, below, true_and, true_not_false, eqb_is}
use Rattle.read_laws.specs.Statements.{Reads, Sound, Encodes}
use Rattle.read_spec.specs.Accepted.{Accepted}
use Rattle.isa_facts.specs.Code.{general_lt}
use Rattle.read_laws.specs.Operands.{general_of_lem, of_general, general_word, word_fields, fields-word}
use Rattle.isa.specs.declared.TargetDirection.{TargetDirection}
use Rattle.isa.specs.declared.TargetDirection.TheVariants.{ToMemory, FromMemory}
use Rattle.isa.specs.declared.TransferOperation.TheVariants.{MOVES}
use Rattle.encode_spec.specs.System.{cas2_items, moves_parts, cas_parts, cas2_parts}
use Rattle.isa.specs.declared.Size.TheVariants.{Long, Byte, Word}
use Rattle.isa.specs.declared.Sign.{Sign}
use Rattle.isa.specs.declared.Sign.TheVariants.{Signed, Unsigned}
use Rattle.std.specs.declared.option.Option.{Option}
use Rattle.std.specs.declared.option.Option.TheVariants.{None, Some}
use Rattle.read_operand_laws.specs.TailStands.{SpecifierStands}
use Rattle.isa.specs.declared.Instruction.{Instruction}
use Rattle.read_laws.specs.Tests.{equal, yes, no, known, says, implies, facts_below, modes_say}
use Rattle.read_laws.specs.MapLaws.{At, at_code, at_sizes, in_group, size_code_lem, each-size}
use Rattle.read_laws.specs.LayingLaws.{Passing, passed, checked, Laying, laying_reads, laying_encodes, decoded_as, word_as, alone-reads, alone_encodes, either_encodes, form_word}
use Rattle.isa_facts.specs.Ordinary.{ordinary}

-- ---- CHK2 CMP2: bit 11 of the extension word tells them apart
abbrev bounds_at : ℕ → RegisterOperation
bounds_at trap = cond (eqb trap 1) CHK2 CMP2

bounds-laying : (a trap : ℕ) → trap < 2 → (o : Operand) (r : RegisterOperand) (s : Size) (v : ℕ) → general_word r trap ≡ v
    → Laying a (IntoRegister (bounds_at trap) o r s) 0 (size_code s) 3 specifier.General s (bits control_column) v o (Passing (register (number_of_register r) ∷ []))
unfolding register_parts bounds_parts
bounds-laying a trap h o r s v e = go (eq? trap 1)
  where
    go : Eq trap 1 → Laying a (IntoRegister (bounds_at trap) o r s) 0 (size_code s) 3 specifier.General s (bits control_column) v o (Passing (register (number_of_register r) ∷ []))
    go (Eq.same p g) =
        rw g (form_word (register (number_of_register r) ∷ word (general_word r 1) ∷ []) 49 refl refl (ap (λ (w : ℕ). w ∷ []) (rw p at e)))
    go (Eq.other p g) =
        let z : trap ≡ 0 = omega arith in
        rw g (form_word (register (number_of_register r) ∷ word (general_word r 0) ∷ []) 49 refl refl (ap (λ (w : ℕ). w ∷ []) (rw z at e)))

bounds-at : (s : Size) → At group.Bounds 0 (size_code s) 3
unfolding group_at map
bounds-at =
    each-size (λ s. At group.Bounds 0 (size_code s) 3) (at_code group.Bounds 0 0 3 refl) (at_code group.Bounds 0 1 3 refl) (at_code group.Bounds 0 2 3 refl)

bounds-reads : (a trap : ℕ) → trap < 2 → (o : Operand) (r : RegisterOperand) (s : Size) → Accepted a (IntoRegister (bounds_at trap) o r s)
    → Reads a (IntoRegister (bounds_at trap) o r s)
bounds-reads a trap h o r s (n, e, l) =
    let w = word_fields r trap h in
    laying_reads (bounds-laying a trap h o r s (general_word r trap) refl) (bounds-at s) e n
    (λ c m. (rw (size_code_lem s), w.2, rw (w.0, w.1, size_code_lem s, general_of_lem r (number_lt (number_of_register r) c.0))))

pub chk2_reads : (a : ℕ) (o : Operand) (r : RegisterOperand) (s : Size) → Accepted a (IntoRegister CHK2 o r s) → Reads a (IntoRegister CHK2 o r s)
chk2_reads a = bounds-reads a 1 (omega arith)

pub cmp2_reads : (a : ℕ) (o : Operand) (r : RegisterOperand) (s : Size) → Accepted a (IntoRegister CMP2 o r s) → Reads a (IntoRegister CMP2 o r s)
cmp2_reads a = bounds-reads a 0 (omega arith)

pub bounds-sound : Sound group.Bounds
unfolding map
bounds-sound a line x opmode ea hl hx ho he e f h p i r =
    let (w, u) = in_group group.Bounds (λ l x o. equal (word_of 0 (size_code (size_at x)) 3 0) (word_of l x o 0) ∷ []) refl line x opmode e in
    let v = f.value in
    let (g, k) = of_general (v / 4096 % 16) (omega arith) in
    decoded_as a i (bounds_decoded x v f.source) _ _ _ r (omega (arith, w))
    (laying_encodes ea f (bounds-laying a (v / 2048 % 2) (omega arith) f.source (general_of (v / 4096 % 16)) (size_at x) v (fields-word v h.1))
    (lt_number (number_of_register (general_of (v / 4096 % 16))) k, tt) h p (λ n. n) refl (λ e. rw e))

-- ---- MOVES
moves_laying : (a : ℕ) (direction : TargetDirection) (s : Size) (r : RegisterOperand) (o : Operand) (v : ℕ) → general_word r (to_memory direction) ≡ v
    → Laying a (Transfer MOVES direction s r o) 0 7 (size_code s) specifier.General s (bits memory_alterable) v o (Passing (register (number_of_register r) ∷ []))
unfolding transfer_parts moves_parts
moves_laying a direction s r o v e =
    form_word (register (number_of_register r) ∷ word (general_word r (to_memory direction)) ∷ []) 24 refl refl (ap (λ (w : ℕ). w ∷ []) e)

to_memory_lem : (direction : TargetDirection) → (to_memory_at (to_memory direction) ≡ direction) × (to_memory direction < 2)
to_memory_lem ToMemory = (refl, omega arith)
to_memory_lem FromMemory = (refl, omega arith)

pub moves_reads : (a : ℕ) (direction : TargetDirection) (s : Size) (r : RegisterOperand) (o : Operand) → Accepted a (Transfer MOVES direction s r o)
    → Reads a (Transfer MOVES direction s r o)
unfolding group_at map
moves_reads a direction s r o (n, e, l) =
    let d = to_memory_lem direction in
    let w = word_fields r (to_memory direction) d.1 in
    laying_reads (moves_laying a direction s r o (general_word r (to_memory direction)) refl) (at_sizes group.MOVES 0 7 refl s) e n
    (λ c m. (rw (size_code_lem s), w.2, rw (w.0, w.1, d.0, size_code_lem s, general_of_lem r (number_lt (number_of_register r) c.0))))

pub moves_sound : Sound group.MOVES
unfolding map
moves_sound a line x opmode ea hl hx ho he e f h p i r =
    let (w, u) = in_group group.MOVES (λ l x o. equal (word_of 0 7 (size_code (size_at o)) 0) (word_of l x o 0) ∷ []) refl line x opmode e in
    let v = f.value in
    let (g, k) = of_general (v / 4096 % 16) (omega arith) in
    let d = (facts_below 2 (λ k. equal (to_memory (to_memory_at k)) k ∷ []) refl (v / 2048 % 2) (omega arith)).0 in
    decoded_as a i (moves_decoded opmode v f.source) _ _ _ r (omega (arith, w))
    (laying_encodes ea f (moves_laying a (to_memory_at (v / 2048 % 2)) (size_at opmode) (general_of (v / 4096 % 16)) f.source v (rw d (fields-word v h.1)))
    (lt_number (number_of_register (general_of (v / 4096 % 16))) k, tt) h p (λ n. n) refl (λ e. rw e))

-- ---- MULS.L MULU.L DIVS.L DIVU.L
-- the extension word: a register in bits 14 to 12, two bits, and a register in bits 2 to 0
abbrev long_word : ℕ → ℕ → ℕ → ℕ → ℕ
long_word l s h n = l * 4096 + s * 2048 + h * 1024 + n

-- its fields
abbrev Fields4 : ℕ → ℕ → ℕ → ℕ → ℕ → Type 0
Fields4 v l s h n = (v / 4096 % 8 ≡ l) × (v / 2048 % 2 ≡ s) × (v / 1024 % 2 ≡ h) × (v % 8 ≡ n) × SpecifierStands specifier.Divide v

long-fields : (l s h n : ℕ) → l < 8 → s < 2 → h < 2 → n < 8 → Fields4 (long_word l s h n) l s h n
long-fields l s h n hl hs hh hn =
    let v = long_word l s h n in
    let x : v / 4096 ≡ l = omega arith in
    let y : v / 2048 ≡ l * 2 + s = omega arith in
    let q : v / 32768 ≡ 0 = omega arith in
    let r : v / 8 % 128 ≡ 0 = omega arith in
    (rw x (omega arith), rw y (omega arith), omega arith, omega arith, (omega arith, rw (q, r)))

fields-long : (v : ℕ) → SpecifierStands specifier.Divide v → long_word (v / 4096 % 8) (v / 2048 % 2) (v / 1024 % 2) (v % 8) ≡ v
fields-long v (l, e) =
    let t = and-true (eqb (v / 32768) 0) _ e in
    let p = eqb_eq (v / 32768) 0 t.0 in
    let q = eqb_eq (v / 8 % 128) 0 t.1 in
    let x : v / 4096 * 2 + v / 2048 % 2 ≡ v / 2048 = omega arith in
    let y : v / 2048 * 2 + v / 1024 % 2 ≡ v / 1024 = omega arith in
    let z : v / 1024 * 128 + v / 8 % 128 ≡ v / 8 = omega arith in
    let w : v / 4096 % 8 ≡ v / 4096 = omega arith in
    omega (arith, x, y, z, w, q)

sign_bit : (sign : Sign) → (sign_at (signed_bit sign) ≡ sign) × (signed_bit sign < 2)
sign_bit Signed = (refl, omega arith)
sign_bit Unsigned = (refl, omega arith)

bit-sign : (k : ℕ) → k < 2 → signed_bit (sign_at k) ≡ k
bit-sign k h = eqb_eq (signed_bit (sign_at k)) k (below (λ k. eqb (signed_bit (sign_at k)) k) 2 refl k h)

wide_bit : (wide : Bool) → (eqb (bit wide) 1 ≡ wide) × (bit wide < 2)
wide_bit true = (refl, omega arith)
wide_bit false = (refl, omega arith)

bit_wide : (k : ℕ) → k < 2 → bit (eqb k 1) ≡ k
bit_wide k h = eqb_eq (bit (eqb k 1)) k (below (λ k. eqb (bit (eqb k 1)) k) 2 refl k h)

again : (n : ℕ) → n < 8 → n % 8 ≡ n
again n h = omega arith

-- DIVL
abbrev divl_word : ℕ → ℕ → Bool → Sign → ℕ
divl_word q r wide sign = long_word (q % 8) (signed_bit sign) (bit wide) (r % 8)

divl_laying : (a : ℕ) (o : Operand) (q r : ℕ) (wide : Bool) (sign : Sign) (v : ℕ) → divl_word q r wide sign ≡ v
    → Laying a (DIVL o q r wide sign) 4 6 1 specifier.Divide Long (bits data_column) v o (Passing (register q ∷ register r ∷ []))
unfolding divl_parts
divl_laying a o q r wide sign v e =
    form_word (register q ∷ register r ∷ word (divl_word q r wide sign) ∷ []) 29 refl refl (ap (λ (w : ℕ). w ∷ []) e)

pub divl_reads : (a : ℕ) (o : Operand) (q r : ℕ) (wide : Bool) (sign : Sign) → Accepted a (DIVL o q r wide sign) → Reads a (DIVL o q r wide sign)
unfolding group_at map
divl_reads a o q r wide sign (n, e, l) =
    let s = sign_bit sign in
    let b = wide_bit wide in
    let w = long-fields (q % 8) (signed_bit sign) (bit wide) (r % 8) (omega arith) s.1 b.1 (omega arith) in
    laying_reads (divl_laying a o q r wide sign (divl_word q r wide sign) refl) (at_code group.DIVL 4 6 1 refl) e n
    (λ c m. (refl, w.4, rw (w.0, w.1, w.2, w.3, s.0, b.0, again q (number_lt q c.0), again r (number_lt r c.1.0))))

pub divl_sound : Sound group.DIVL
unfolding map
divl_sound a line x opmode ea hl hx ho he e f h p i r =
    let (u, t) = in_group group.DIVL (λ l x o. equal (word_of 4 6 1 0) (word_of l x o 0) ∷ []) refl line x opmode e in
    let v = f.value in
    let s = sign_at (v / 2048 % 2) in
    let wide = eqb (v / 1024 % 2) 1 in
    let c : divl_word (v / 4096 % 8) (v % 8) wide s ≡ v =
    rw (bit-sign (v / 2048 % 2) (omega arith), bit_wide (v / 1024 % 2) (omega arith), again (v / 4096 % 8) (omega arith), again (v % 8) (omega arith))
    (fields-long v h.1) in
    decoded_as a i (divl_decoded v f.source) _ _ _ r (omega (arith, u))
    (laying_encodes ea f (divl_laying a f.source (v / 4096 % 8) (v % 8) wide s v c)
    (lt_number (v / 4096 % 8) (omega arith), (lt_number (v % 8) (omega arith), tt))
    h p (λ n. n) refl (λ e. rw e))

-- MULL
abbrev high_bit : Option ℕ → ℕ
high_bit None = 0
high_bit (Some n) = 1

abbrev mull_word : ℕ → Option ℕ → Sign → ℕ
mull_word low high sign = low % 8 * 4096 + signed_bit sign * 2048 + high_bits high

mull_as : (low : ℕ) (high : Option ℕ) (sign : Sign) → mull_word low high sign ≡ long_word (low % 8) (signed_bit sign) (high_bit high) (high_number high % 8)
mull_as low None sign = omega arith
mull_as low (Some n) sign = omega arith

-- the choice by its bit and its number, and back
high_is : (high : Option ℕ) → high_number high < 8
    → (high_bit high < 2) × (cond (eqb (high_bit high) 1) (Some (high_number high % 8)) None ≡ high)
    × ((eqb (high_bit high) 1 || eqb (high_number high % 8) 0) ≡ true)
high_is None h = (omega arith, refl, refl)
high_is (Some n) h = (omega arith, ap Some (omega arith), refl)

is-high : (v : ℕ) → (eqb (v / 1024 % 2) 1 || eqb (v % 8) 0) ≡ true
    → (high_bit (high_at v) ≡ v / 1024 % 2) × (high_number (high_at v) % 8 ≡ v % 8) × (high_number (high_at v) < 8)
is-high v e = go (eq? (v / 1024 % 2) 1)
  where
    go : Eq (v / 1024 % 2) 1 → (high_bit (high_at v) ≡ v / 1024 % 2) × (high_number (high_at v) % 8 ≡ v % 8) × (high_number (high_at v) < 8)
    go (Eq.same p g) = rw g (sym p, omega arith, omega arith)
    go (Eq.other p g) = let z = eqb_eq (v % 8) 0 (rw g at e) in rw g (omega (arith, p), sym z, omega arith)

mull_laying : (a : ℕ) (o : Operand) (low : ℕ) (high : Option ℕ) (sign : Sign) (v : ℕ) → mull_word low high sign ≡ v
    → Laying a (MULL o low high sign) 4 6 0 specifier.Multiply Long (bits data_column) v o (Passing (register (high_number high) ∷ register low ∷ []))
unfolding mull_parts
mull_laying a o low high sign v e =
    form_word (register (high_number high) ∷ register low ∷ word (mull_word low high sign) ∷ []) 28 refl refl (ap (λ (w : ℕ). w ∷ []) e)

pub mull_reads : (a : ℕ) (o : Operand) (low : ℕ) (high : Option ℕ) (sign : Sign) → Accepted a (MULL o low high sign) → Reads a (MULL o low high sign)
unfolding group_at map
mull_reads a o low high sign (n, e, l) =
    let s = sign_bit sign in
    let v = long_word (low % 8) (signed_bit sign) (high_bit high) (high_number high % 8) in
    laying_reads (mull_laying a o low high sign v (mull_as low high sign)) (at_code group.MULL 4 6 0 refl) e n (λ c m.
    let b = high_is high (number_lt (high_number high) c.0) in
    let w = long-fields (low % 8) (signed_bit sign) (high_bit high) (high_number high % 8) (omega arith) s.1 b.0 (omega arith) in
    let y : valid specifier.Multiply v ≡ true = true_and (valid specifier.Divide v) (eqb (v / 1024 % 2) 1 || eqb (v % 8) 0) w.4.1
    (rw (w.2, w.3) b.2) in
    (refl, (w.4.0, y), rw (w.0, w.1, w.2, w.3, s.0, b.1, again low (number_lt low c.1.0))))

pub mull_sound : Sound group.MULL
unfolding map
mull_sound a line x opmode ea hl hx ho he e f h p i r =
    let (u, z) = in_group group.MULL (λ l x o. equal (word_of 4 6 0 0) (word_of l x o 0) ∷ []) refl line x opmode e in
    let v = f.value in
    let s = sign_at (v / 2048 % 2) in
    let l = v / 4096 % 8 in
    let t = and-true (valid specifier.Divide v) _ h.1.1 in
    let n = is-high v t.1 in
    let c : mull_word l (high_at v) s ≡ v =
    mull_as l (high_at v) s ∙ rw (bit-sign (v / 2048 % 2) (omega arith), n.0, n.1, again l (omega arith)) (fields-long v (h.1.0, t.0)) in
    decoded_as a i (mull_decoded v f.source) _ _ _ r (omega (arith, u))
    (laying_encodes ea f (mull_laying a f.source l (high_at v) s v c) (lt_number (high_number (high_at v)) n.2, (lt_number l (omega arith), tt))
    h p (λ n. n) refl (λ e. rw e))

-- ---- CAS
abbrev cas_word : ℕ → ℕ → ℕ
cas_word compare update = update % 8 * 64 + compare % 8

cas_laying : (a compare update : ℕ) (o : Operand) (s : Size) (v : ℕ) → cas_word compare update ≡ v
    → Laying a (CAS compare update o s) 0 (5 + size_code s) 3 specifier.Compare s (bits memory_alterable) v o (Passing (register update ∷ register compare ∷ []))
unfolding cas_parts
cas_laying a compare update o s v e =
    form_word (register update ∷ register compare ∷ word (cas_word compare update) ∷ []) 30 refl refl (ap (λ (w : ℕ). w ∷ []) e)

cas_fields : (compare update : ℕ) → compare < 8 → update < 8
    → (cas_word compare update % 8 ≡ compare) × (cas_word compare update / 64 % 8 ≡ update) × SpecifierStands specifier.Compare (cas_word compare update)
cas_fields compare update c u =
    let w = cas_word compare update in (
      omega arith,
      omega arith,
      (
        omega arith,
        true_and (eqb (w / 512) 0) (eqb (w / 8 % 8) 0) (eqb_is (w / 512) 0 (omega arith))
            (eqb_is (w / 8 % 8) 0 (omega arith)),
      ),
    )

fields_cas : (v : ℕ) → SpecifierStands specifier.Compare v → cas_word (v % 8) (v / 64 % 8) ≡ v
fields_cas v (l, e) =
    let p = and-true (eqb (v / 512) 0) (eqb (v / 8 % 8) 0) e in
    let h = eqb_eq (v / 512) 0 p.0 in
    let m = eqb_eq (v / 8 % 8) 0 p.1 in
    omega arith

-- ---- CAS2
abbrev cas2_word : ℕ → ℕ → RegisterOperand → ℕ
cas2_word compare update pointer = general pointer * 4096 + update % 8 * 64 + compare % 8

cas2_fields : (compare update : ℕ) (pointer : RegisterOperand) → compare < 8 → update < 8 →
    let w = cas2_word compare update pointer in (w < 65536) × (valid specifier.CompareTwo w ≡ true) × (w % 8 ≡ compare) × (w / 64 % 8 ≡ update)
    × (w / 4096 % 16 ≡ general pointer)
cas2_fields compare update pointer c u =
    let g = general_lt pointer in
    let w = cas2_word compare update pointer in (
      omega arith,
      true_and (eqb (w / 512 % 8) 0) (eqb (w / 8 % 8) 0) (eqb_is (w / 512 % 8) 0 (omega arith)) (eqb_is (w / 8 % 8) 0 (omega arith)),
      omega arith,
      omega arith,
      omega arith,
    )

-- a number of which three bits are 0
sparse : (n : ℕ) → n / 8 % 8 ≡ 0 → n ≡ n / 64 * 64 + n % 8
sparse n e = omega arith

joined : (w q k s r : ℕ) → w ≡ q * 64 + r → q ≡ k * 64 + s → k < 16 → s < 8 → r < 8 → k % 16 * 4096 + s % 8 * 64 + r % 8 ≡ w
joined w q k s r e f a b c = omega arith

fields_cas2 : (w : ℕ) → w < 65536 → valid specifier.CompareTwo w ≡ true → cas2_word (w % 8) (w / 64 % 8) (general_of (w / 4096 % 16)) ≡ w
fields_cas2 w l e =
    let p = and-true (eqb (w / 512 % 8) 0) (eqb (w / 8 % 8) 0) e in
    let d : w / 64 / 8 ≡ w / 512 = omega arith in
    let f : w / 64 / 64 ≡ w / 4096 = omega arith in
    let h = sparse w (eqb_eq (w / 8 % 8) 0 p.1) in
    let m = sparse (w / 64) (rw d (eqb_eq (w / 512 % 8) 0 p.0)) in
    rw (of_general (w / 4096 % 16) (omega arith)).0 (joined w (w / 64) (w / 4096) (w / 64 % 8) (w % 8) h (rw f at m) (omega arith) (omega arith) (omega arith))

-- two words in a number
halves : (h l : ℕ) → h < 65536 → l < 65536 → ((h * 65536 + l) / 65536 ≡ h) × ((h * 65536 + l) % 65536 ≡ l) × (h * 65536 + l < 2 ^ 32)
halves h l a b = (omega arith, omega arith, omega arith)

cas_at : (s : Size) → At group.CAS 0 (5 + size_code s) 3
unfolding group_at map
cas_at = each-size (λ s. At group.CAS 0 (5 + size_code s) 3) (at_code group.CAS 0 5 3 refl) (at_code group.CAS 0 6 3 refl) (at_code group.CAS 0 7 3 refl)

pub cas_reads : (a compare update : ℕ) (o : Operand) (s : Size) → Accepted a (CAS compare update o s) → Reads a (CAS compare update o s)
cas_reads a compare update o s (n, e, l) =
    let k : 5 + size_code s - 5 ≡ size_code s = omega arith in
    laying_reads (cas_laying a compare update o s (cas_word compare update) refl) (cas_at s) e n (λ c m.
    let f = cas_fields compare update (number_lt compare c.1.0) (number_lt update c.0) in
    let t = (modes_say (bits memory_alterable) (λ ea. no (eqb ea 60) ∷ []) refl (ea_field o) m).0 in
    (rw (t, k, size_code_lem s), f.2, rw (t, k, size_code_lem s, f.0, f.1)))

-- the code of a word or a long
wide : (s : Size) → not (is_byte s) ≡ true → At group.CAS 0 (6 + long_bit s) 3 × (size_at (6 + long_bit s - 5) ≡ s) × (leb 6 (6 + long_bit s) ≡ true)
unfolding group_at map
wide Byte e = true_not_false e refl
wide Word e = (at_code group.CAS 0 6 3 refl, refl, refl)
wide Long e = (at_code group.CAS 0 7 3 refl, refl, refl)

module _ (a compare1 compare2 update1 update2 : ℕ) (pointer1 pointer2 : RegisterOperand) (s : Size) where
  -- the instruction, and its two extension words
  abbrev two_cas : Instruction
  two_cas = CAS2 compare1 compare2 update1 update2 pointer1 pointer2 s

  abbrev high : ℕ
  high = cas2_word compare1 update1 pointer1

  abbrev low : ℕ
  low = cas2_word compare2 update2 pointer2

  cas2_encodes : Passing (allow (not (is_byte s)) 31 ∷ (cas2_items compare1 update1 pointer1 ++ cas2_items compare2 update2 pointer2))
      → Encodes a two_cas (word_of 0 (6 + long_bit s) 3 60 ∷ high ∷ low ∷ [])
  unfolding cas2_parts
  cas2_encodes c = ((tt, passed (items_of two_cas a) c, ordinary _ refl), refl, refl)

  pub cas2_reads : Accepted a (CAS2 compare1 compare2 update1 update2 pointer1 pointer2 s)
      → Reads a (CAS2 compare1 compare2 update1 update2 pointer1 pointer2 s)
  unfolding cas2_parts
  cas2_reads h =
      let (b, (p1, (u1, (c1, (p2, (u2, (c2, z))))))) = checked a two_cas h in
      let (t, y, l6) = wide s (unless_reason (not (is_byte s)) 31 b) in
      let f = cas2_fields compare1 update1 pointer1 (number_lt compare1 c1) (number_lt update1 u1) in
      let g = cas2_fields compare2 update2 pointer2 (number_lt compare2 c2) (number_lt update2 u2) in
      let m = halves high low f.0 g.0 in
      alone-reads a two_cas 60 specifier.CompareTwo (high * 65536 + low) t (omega arith) (rw l6) (m.2, rw m.0 f.1, rw m.1 g.1)
      (rw (
        l6,
        m.0,
        m.1,
        f.2,
        f.3,
        f.4,
        g.2,
        g.3,
        g.4,
        general_of_lem pointer1 (number_lt (number_of_register pointer1) p1),
        general_of_lem pointer2
            (number_lt (number_of_register pointer2) p2),
        y,
      ))
      (rw (m.0, m.1) (cas2_encodes (checked a two_cas h)))

-- an extension word that stands passes the checks of what it names
cas2_passes : (w : ℕ) → (number_verdict (number_of_register (general_of (w / 4096 % 16))) ≡ fine) × (number_verdict (w / 64 % 8) ≡ fine) × (number_verdict (w % 8) ≡ fine)
cas2_passes w = (lt_number _ (of_general (w / 4096 % 16) (omega arith)).1, lt_number (w / 64 % 8) (omega arith), lt_number (w % 8) (omega arith))

pub cas_sound : Sound group.CAS
unfolding map
cas_sound a line x opmode ea hl hx ho he e f h p i r =
    let (w, (t, u)) = in_group group.CAS (λ l x o. equal (word_of 0 (5 + size_code (size_at (x - 5))) 3 0) (word_of l x o 0)
    ∷ yes (implies (leb 6 x) (known (equal (6 + long_bit (size_at (x - 5))) x ∷ yes (not (is_byte (size_at (x - 5)))) ∷ equal (word_of l x o 0) (word_of 0 x 3 0)
    ∷ []))) ∷ []) refl line x opmode e in
    let s = size_at (x - 5) in
    let v = f.value in
    let high = v / 65536 in
    let low = v % 65536 in
    let j = cas2_decoded x high low in
    let k = CAS (v % 8) (v / 64 % 8) f.source s in
    either_encodes a i j k (word_of line x opmode ea) (eqb ea 60 && leb 6 x) (alone specifier.CompareTwo) (one specifier.Compare s ea (bits memory_alterable)) f h r
    (λ q g.
    let (y, z) = and-true (eqb ea 60) _ q in
    let (n, (b, (o, c))) = says (equal (6 + long_bit s) x ∷ yes (not (is_byte s)) ∷ equal (word_of line x opmode 0) (word_of 0 x 3 0) ∷ []) (rw z at t) in
    let (d, d2, d3) = cas2_passes high in
    let (c1, c2, c3) = cas2_passes low in
    let m = cas2_encodes a (high % 8) (low % 8) (high / 64 % 8) (low / 64 % 8) (general_of (high / 4096 % 16)) (general_of (low / 4096 % 16)) s
    (true_unless (not (is_byte s)) (no_encoding 31) b, (d, (d2, (d3, (c1, (c2, (c3, tt))))))) in
    word_as a j _ _ _ (omega (arith, n, o, eqb_eq ea 60 y))
    (alone_encodes a j _ specifier.CompareTwo f g (rw (fields_cas2 high (omega (arith, g.1.0)) g.1.1, fields_cas2 low (omega arith) g.1.2) at m)))
    (λ q g.
    word_as a k _ _ _ (omega (arith, w))
    (laying_encodes ea f (cas_laying a (v % 8) (v / 64 % 8) f.source s v (fields_cas v g.1))
    (lt_number (v / 64 % 8) (omega arith), (lt_number (v % 8) (omega arith), tt))
    g (rw q at p) (λ n. n) refl (λ e. rw e)))
