-- Registers in three bits and in four, and which operand a mode and a register number name.
use Rattle.std.specs.Prelude.{ℕ, ◌<◌, ◌+◌, ◌*◌, ◌/◌, ◌%◌, ◌≡◌, refl, Bool, true, false, cond, [], ◌∷◌, ltb, eqb, get_or}
use Rattle.std.proofs.Common.{ap, arith}
use Rattle.isa.specs.declared.RegisterOperand.{RegisterOperand}
use Rattle.isa.specs.declared.RegisterOperand.TheVariants.{Address, Data}
use Rattle.isa.specs.declared.Operand.{Operand}
use Rattle.isa.specs.declared.Operand.TheVariants.{Immediate, Register, Indirect, PostIndirect, PreIndirect, IndirectDisplacement, IndirectIndex, PcDisplacement, PcIndex, Extended, Absolute}
use Rattle.isa.specs.declared.AddressWidth.TheVariants as width
use Rattle.encode_spec.specs.Item.{fine, data_verdict, address_verdict}
use Rattle.isa_spec.specs.Code.{register_bits, number_of_register, general}
use Rattle.isa_spec.specs.IndexBase.{is_pc}
use Rattle.encode_spec.specs.Ea.{is_register, is_immediate, mode_of, register_number}
use Rattle.encode_facts.specs.Items.{number_lt, reason_not}
use Rattle.read_spec.specs.Operand.{general_of}
use Rattle.read_spec.specs.declared.Specifier.TheVariants as specifier
use Rattle.isa_facts.specs.Code.{general_lt}
use Rattle.read_operand_laws.specs.TailStands.{SpecifierStands}
use Rattle.base_facts.specs.Tests.{Lt, lt?, eqb_eq, ltb-true, ltb_not, eqb_is}

-- a data register, or an address register, in three bits
pub data_bits : (r : RegisterOperand) → data_verdict r ≡ fine → Data (register_bits r) ≡ r
data_bits (Address n) e = reason_not 1 e
data_bits (Data n) e = ap Data (omega (arith, number_lt n e))

pub address_bits : (r : RegisterOperand) → address_verdict r ≡ fine → Address (register_bits r) ≡ r
address_bits (Address n) e = let l = number_lt n e in ap Address (omega arith)
address_bits (Data n) e = reason_not 2 e

pub data_is : (r : RegisterOperand) → data_verdict r ≡ fine → (n : ℕ) × (n < 8) × (r ≡ Data n)
data_is (Address n) e = reason_not 1 e
data_is (Data n) e = (n, number_lt n e, refl)

pub address_is : (r : RegisterOperand) → address_verdict r ≡ fine → (n : ℕ) × (n < 8) × (r ≡ Address n)
address_is (Address n) e = (n, number_lt n e, refl)
address_is (Data n) e = reason_not 2 e

-- the modes of registers
pub is_register_lem : (r : RegisterOperand) → is_register (Register r) ≡ true
is_register_lem (Address n) = refl
is_register_lem (Data n) = refl

pub not_immediate : (r : RegisterOperand) → is_immediate (Register r) ≡ false
not_immediate (Address n) = refl
not_immediate (Data n) = refl

not_extended_lem : (b : Bool) → (ltb (cond b 10 6) 2 ≡ false) × (eqb (cond b 10 6) 11 ≡ false)
not_extended_lem true = (refl, refl)
not_extended_lem false = (refl, refl)

-- a Register operand, an Immediate or another
pub by_kind : (P : Operand → Type 0) → ((r : RegisterOperand) → P (Register r)) → ((v : ℕ) → P (Immediate v))
    → ((o : Operand) → is_register o ≡ false → is_immediate o ≡ false → P o) → (o : Operand) → P o
by_kind P r i h (Immediate v) = i v
by_kind P r i h (Register x) = r x
by_kind P r i h (Indirect n) = h (Indirect n) refl refl
by_kind P r i h (PostIndirect n) = h (PostIndirect n) refl refl
by_kind P r i h (PreIndirect n) = h (PreIndirect n) refl refl
by_kind P r i h (IndirectDisplacement z base) = h (IndirectDisplacement z base) refl refl
by_kind P r i h (IndirectIndex base z x) = h (IndirectIndex base z x) refl refl
by_kind P r i h (PcDisplacement t) = h (PcDisplacement t) refl refl
by_kind P r i h (PcIndex t x) = h (PcIndex t x) refl refl
by_kind P r i h (Extended base w z outer) = let n = not_extended_lem (is_pc base) in h (Extended base w z outer) n.0 n.1
by_kind P r i h (Absolute a width.Word) = h (Absolute a width.Word) refl refl
by_kind P r i h (Absolute a width.Long) = h (Absolute a width.Long) refl refl

pub by_register : (P : Operand → Type 0) → ((r : RegisterOperand) → P (Register r)) → ((o : Operand) → is_register o ≡ false → P o) → (o : Operand) → P o
by_register P r h = by_kind P r (λ v. h (Immediate v) refl) (λ o e i. h o e)

-- the operands of a mode and a register number
abbrev pub simple_of : ℕ → ℕ → Operand
simple_of m n = get_or (Register (Data n) ∷ Register (Address n) ∷ Indirect n ∷ PostIndirect n ∷ PreIndirect n ∷ []) m (Register (Data n))

simple : (o : Operand) → mode_of o < 5 → o ≡ simple_of (mode_of o) (register_number o)
simple (Immediate v) h = absurd (omega arith)
simple (Register (Address n)) h = refl
simple (Register (Data n)) h = refl
simple (Indirect n) h = refl
simple (PostIndirect n) h = refl
simple (PreIndirect n) h = refl
simple (IndirectDisplacement z base) h = absurd (omega arith)
simple (IndirectIndex base z x) h = absurd (omega arith)
simple (PcDisplacement t) h = absurd (omega arith)
simple (PcIndex t x) h = absurd (omega arith)
simple (Extended base w z outer) h = absurd (go (eqb base 8) h)
  where
    go : (b : Bool) → cond b 10 6 < 5 → ⊥
    go true l = omega arith
    go false l = omega arith
simple (Absolute a width.Word) h = absurd (omega arith)
simple (Absolute a width.Long) h = absurd (omega arith)

pub simple_is : (m : ℕ) → m < 5 → (o : Operand) → eqb (mode_of o) m ≡ true → o ≡ simple_of m (register_number o)
simple_is m h o e =
    let q = eqb_eq (mode_of o) m e in
    rw q at (simple o (omega arith))

-- ---- a register in four bits
pub general_of_lem : (r : RegisterOperand) → number_of_register r < 8 → general_of (general r) ≡ r
general_of_lem (Address n) h = rw (ltb_not (8 + n % 8) 8 (omega arith)) (ap Address (omega arith))
general_of_lem (Data n) h = rw (ltb-true (n % 8) 8 (omega arith)) (ap Data (omega arith))

-- the code of the register that four bits name, and its number
pub of_general : (k : ℕ) → k < 16 → (general (general_of k) ≡ k) × (number_of_register (general_of k) < 8)
of_general k h = go (lt? k 8)
  where
    go : Lt k 8 → (general (general_of k) ≡ k) × (number_of_register (general_of k) < 8)
    go (Lt.less l e) = rw e (omega arith, l)
    go (Lt.past l e) = rw e (omega arith, omega arith)

-- a register and bit 11 in a word
abbrev pub general_word : RegisterOperand → ℕ → ℕ
general_word r b = general r * 4096 + b * 2048

pub word_fields : (r : RegisterOperand) (b : ℕ) → b < 2
    → (general_word r b / 4096 % 16 ≡ general r) × (general_word r b / 2048 % 2 ≡ b) × SpecifierStands specifier.General (general_word r b)
word_fields r b h =
    let g = general_lt r in
    (omega arith, omega arith, (omega arith, eqb_is (general_word r b % 2048) 0 (omega arith)))

pub fields-word : (v : ℕ) → SpecifierStands specifier.General v → general_word (general_of (v / 4096 % 16)) (v / 2048 % 2) ≡ v
fields-word v (l, e) =
    let g = (of_general (v / 4096 % 16) (omega arith)).0 in
    let z = eqb_eq (v % 2048) 0 e in
    omega arith
