-- Into a register: ADDA SUBA CMPA; DIVS DIVU MULS MULU of a word; <ea>,Dn of OR, SUB, CMP, AND and ADD.
use Rattle.std.specs.Prelude.{ℕ, ◌+◌, ◌*◌, ◌<◌, ◌/◌, ◌≡◌, true, not, ◌||◌, cond, eqb}
use Rattle.std.proofs.Math.Path.{refl}
use Rattle.std.proofs.Common.{ap, ◌∙◌, arith}
use Rattle.std.proofs.lemmas.Bool.{false≢true}
use mathlib.Core.List.{List, ◌∷◌, []}
use Rattle.isa.specs.declared.Size.{Size}
use Rattle.isa.specs.declared.Size.TheVariants.{Byte, Word, Long}
use Rattle.isa.specs.declared.RegisterOperand.{RegisterOperand}
use Rattle.isa.specs.declared.RegisterOperand.TheVariants.{Address, Data}
use Rattle.isa.specs.declared.Operand.{Operand}
use Rattle.isa.specs.declared.RegisterOperation.TheVariants.{ADDA, SUBA, CMPA, CMP}
use Rattle.isa.specs.declared.Instruction.TheVariants.{IntoRegister, WordIntoData, Pair}
use Rattle.encode_spec.specs.Item.{fine, no_encoding, word_address, data_verdict, allow, address_register, data_register}
use Rattle.isa_spec.specs.Code.{is_byte, long_bit, register_bits, size_code}
use Rattle.isa_spec.specs.Mode.{every_column, data_column, bits}
use Rattle.encode_spec.specs.Ea.{with_data, byte_of_address, typed, with_address}
use Rattle.encode_spec.specs.Arithmetic.{into_address_parts, signed_bit, into_data_parts, arithmetic_parts}
use Rattle.encode_spec.specs.Instruction.{register_parts, word_parts, pair_parts}
use Rattle.read_spec.specs.declared.Group.TheVariants as group
use Rattle.read_spec.specs.declared.Specifier.TheVariants as specifier
use Rattle.read_spec.specs.Plain.{plain, plain_operand}
use Rattle.read_spec.specs.Map.{group_at, map}
use Rattle.read_spec.specs.Operation.{address_at, sign_at, size_at, pair_at, long_at, word_at}
use Rattle.read_spec.specs.Decoded.{word_of}
use Rattle.encode_facts.specs.Items.{lt_number, unless_reason, true_unless}
use Rattle.isa.specs.declared.Sign.{Sign}
use Rattle.isa.specs.declared.Sign.TheVariants.{Signed, Unsigned}
use Rattle.isa.specs.declared.WordOperation.{WordOperation}
use Rattle.isa.specs.declared.WordOperation.TheVariants.{DIVx, MULx}
use Rattle.isa.specs.declared.Operand.TheVariants.{Register}
use Rattle.isa.specs.declared.Instruction.{Instruction}
use Rattle.encode_spec.specs.Logic.{logical_parts}
use Rattle.isa_facts.specs.Ordinary.{is_ordinary}
use Rattle.read_spec.specs.Modes.{readable_modes}
use Rattle.read_spec.specs.Accepted.{InTypes, InstructionInTypes, Accepted}
use Rattle.read_laws.specs.Statements.{Reads, Sound}
use Rattle.read_laws.specs.Tests.{equal, yes, among, each}
use Rattle.read_laws.specs.MapLaws.{At, at_registers, at_among, in_group, each-size, size_code_lem}
use Rattle.encode_spec.specs.Encode.{items_of}
use Rattle.read_laws.specs.LayingLaws.{form_items, Passing, Laying, form_is, form_as, form_byte, laying_reads, laying_encodes, decoded_as, form_behind, form_bare}
use Rattle.read_laws.specs.Operands.{is_register_lem, data_bits, address_bits}

-- ---- ADDA SUBA CMPA, by their line; there is no byte
abbrev address_lines : List ℕ
address_lines = 9 ∷ 11 ∷ 13 ∷ []

abbrev address_opmode : Size → ℕ
address_opmode s = 3 + 4 * long_bit s

abbrev AddressLaying : ℕ → Operand → RegisterOperand → Size → ℕ → ℕ → Type 0
AddressLaying a o r s v line =
    Laying a (IntoRegister (address_at line) o r s) line (register_bits r) (address_opmode s) specifier.Nothing s (bits every_column) v o
    (Passing (allow (not (is_byte s)) 61 ∷ address_register r ∷ []))

address_laying : (a : ℕ) (o : Operand) (r : RegisterOperand) (s : Size) (v line : ℕ) → among address_lines line ≡ true → AddressLaying a o r s v line
unfolding register_parts into_address_parts with_address
address_laying a o r s v =
    let pre = allow (not (is_byte s)) 61 ∷ [] in
    each (AddressLaying a o r s v) address_lines (
      form_behind [] pre (address_register r ∷ []) 37 refl refl refl,
      (form_behind [] pre (address_register r ∷ []) 40 refl refl refl, (form_behind [] pre (address_register r ∷ []) 44 refl refl refl, tt)),
    )

address_code : (s : Size) → not (is_byte s) ≡ true → (among (3 ∷ 7 ∷ []) (address_opmode s) ≡ true) × (long_at (address_opmode s) ≡ s)
address_code Byte z = absurd (false≢true z)
address_code Word z = (refl, refl)
address_code Long z = (refl, refl)

into_address_reads : (line : ℕ) → among address_lines line ≡ true → (a : ℕ) (o : Operand) (r : RegisterOperand) (s : Size)
    → Accepted a (IntoRegister (address_at line) o r s) → Reads a (IntoRegister (address_at line) o r s)
unfolding group_at map
into_address_reads line t a o r s (n, e, l) =
    let form = address_laying a o r s 0 line t in
    let (k, z) = address_code s (unless_reason (not (is_byte s)) 61 (form.back e).0.0) in
    laying_reads form (at_among group.IntoAddress address_lines (3 ∷ 7 ∷ []) refl line (address_opmode s) (register_bits r) t k (omega arith)) e n
    (λ c m. (rw z, refl, rw (z, address_bits r c.1.0)))

pub adda_reads : (a : ℕ) (o : Operand) (r : RegisterOperand) (s : Size) → Accepted a (IntoRegister ADDA o r s) → Reads a (IntoRegister ADDA o r s)
adda_reads = into_address_reads 13 refl

pub suba_reads : (a : ℕ) (o : Operand) (r : RegisterOperand) (s : Size) → Accepted a (IntoRegister SUBA o r s) → Reads a (IntoRegister SUBA o r s)
suba_reads = into_address_reads 9 refl

pub cmpa_reads : (a : ℕ) (o : Operand) (r : RegisterOperand) (s : Size) → Accepted a (IntoRegister CMPA o r s) → Reads a (IntoRegister CMPA o r s)
cmpa_reads = into_address_reads 11 refl

pub into_address_sound : Sound group.IntoAddress
unfolding map
into_address_sound a line x opmode ea hl hx ho he e f h p i r =
    let (t, (k, (z, u))) = in_group group.IntoAddress (λ l x o. yes (among address_lines l) ∷ equal (address_opmode (long_at o)) o ∷ yes (not (is_byte (long_at o)))
    ∷ []) refl line x opmode e in
    let s = long_at opmode in
    decoded_as a i (IntoRegister (address_at line) f.source (Address x) s) _ _ _ r (omega (arith, k))
    (laying_encodes ea f (address_laying a f.source (Address x) s f.value line t) (true_unless (not (is_byte s)) (no_encoding 61) z, (lt_number x hx, tt))
    h p (λ n. n) refl (λ e. rw e))

-- ---- DIVS DIVU MULS MULU of a word: the line, and bits 8 to 6
abbrev line_of : WordOperation → ℕ
line_of DIVx = 8
line_of MULx = 12

abbrev sign_opmode : Sign → ℕ
sign_opmode sign = 3 + 4 * signed_bit sign

word_laying : (a : ℕ) (op : WordOperation) (o : Operand) (r : RegisterOperand) (sign : Sign) (v : ℕ)
    → Laying a (WordIntoData op o r sign) (line_of op) (register_bits r) (sign_opmode sign) specifier.Nothing Word (bits data_column) v o (Passing (data_register r ∷ []))
unfolding word_parts with_data
word_laying a DIVx o r sign v = form_bare (data_register r ∷ []) 29 refl refl
word_laying a MULx o r sign v = form_bare (data_register r ∷ []) 28 refl refl

abbrev WordCode : WordOperation → Sign → Type 0
WordCode op sign =
    (word_at (line_of op) ≡ op) × (sign_at (sign_opmode sign / 4) ≡ sign) × ((n : ℕ) → n < 8 → At group.WordIntoData (line_of op) n (sign_opmode sign))

word_code : (op : WordOperation) (sign : Sign) → WordCode op sign
unfolding group_at map
word_code DIVx Signed = (refl, refl, at_registers group.WordIntoData 8 7 refl)
word_code DIVx Unsigned = (refl, refl, at_registers group.WordIntoData 8 3 refl)
word_code MULx Signed = (refl, refl, at_registers group.WordIntoData 12 7 refl)
word_code MULx Unsigned = (refl, refl, at_registers group.WordIntoData 12 3 refl)

pub word_into_data_reads : (a : ℕ) (op : WordOperation) (o : Operand) (r : RegisterOperand) (sign : Sign)
    → Accepted a (WordIntoData op o r sign) → Reads a (WordIntoData op o r sign)
word_into_data_reads a op o r sign (n, e, l) =
    let (t, u, k) = word_code op sign in
    laying_reads (word_laying a op o r sign 0) (k (register_bits r) (omega arith)) e n (λ c m. (refl, refl, rw (t, u, data_bits r c.0)))

pub word_into_data_sound : Sound group.WordIntoData
unfolding map
word_into_data_sound a line x opmode ea hl hx ho he e f h p i r =
    let (w, u) = in_group group.WordIntoData (λ l x o. equal (word_of (line_of (word_at l)) x (sign_opmode (sign_at (o / 4))) 0) (word_of l x o 0) ∷ []) refl
    line x opmode e in
    decoded_as a i (WordIntoData (word_at line) f.source (Data x) (sign_at (opmode / 4))) _ _ _ r (omega (arith, w))
    (laying_encodes ea f (word_laying a (word_at line) f.source (Data x) (sign_at (opmode / 4)) f.value) (lt_number x hx, tt)
    h p (λ n. n) refl (λ e. rw e))

-- ---- <ea>,Dn of OR, SUB, CMP, AND and ADD, by their line
abbrev lines : List ℕ
lines = 8 ∷ 9 ∷ 11 ∷ 12 ∷ 13 ∷ []

abbrev into_of : ℕ → Operand → RegisterOperand → Size → Instruction
into_of line o r s = cond (eqb line 11) (IntoRegister CMP o r s) (Pair (pair_at line) o (Register r) s)

abbrev into_modes : ℕ → Size → ℕ
into_modes line s = cond (eqb line 8 || eqb line 12) (bits data_column) (readable_modes s)

abbrev IntoLaying : ℕ → Operand → RegisterOperand → Size → ℕ → ℕ → ℕ → Type 0
IntoLaying a o r s v modes line = Laying a (into_of line o r s) line (register_bits r) (size_code s) specifier.Nothing s modes v o (data_verdict r ≡ fine)

-- what holds of each line
abbrev Into : ℕ → Operand → RegisterOperand → Size → ℕ → ℕ → Type 0
Into a o r s v line =
    IntoLaying a o r s v (into_modes line s) line
    × (InstructionInTypes (into_of line o r s) → InTypes o)
    × (InTypes o → InstructionInTypes (into_of line o r s))
    × (is_ordinary (into_of line o r s) ≡ true)
    × (plain (into_of line o r s) ≡ into_of line (plain_operand s o) r s)

module _ (a : ℕ) (o : Operand) (r : RegisterOperand) (s : Size) (v : ℕ) where
  -- an address register is not read as a byte
  into : (line : ℕ) → among lines line ≡ true → Into a o r s v line
  unfolding pair_parts register_parts arithmetic_parts logical_parts into_data_parts with_data
  into =
      let second = typed (Register r) in
      let byte = allow (not (byte_of_address s o)) 7 in
      let xs = data_register r ∷ [] in
      let near = word_address (word_address a 0) 1 in
      let far = word_address (word_address (word_address a 0) 0) 1 in
      let logical : (line : ℕ) → items_of (into_of line o r s) a ≡ form_items [] (second ∷ []) line (register_bits r) (size_code s) xs o s (bits data_column) 57 near
      → IntoLaying a o r s v (bits data_column) line = λ line q.
      form_as (form_is [] (second ∷ []) xs 57 near q (omega arith) refl (λ c. refl)) (λ c. c.1.0) (λ d. (refl, (d, tt))) in
      let arithmetic : (line : ℕ) → items_of (into_of line o r s) a ≡ form_items [] (second ∷ byte ∷ []) line (register_bits r) (size_code s) xs o s (bits every_column) 59 far
      → IntoLaying a o r s v (readable_modes s) line = λ line q.
      form_byte (bits every_column) (bits data_column) 7 refl
      (form_as (form_behind [] (second ∷ byte ∷ []) xs 59 q refl refl) (λ c. (c.1.0, c.1.1.0)) (λ d. (refl, (d.0, (d.1, tt))))) in
      let compare : IntoLaying a o r s v (readable_modes s) 11 = form_byte (bits every_column) (bits data_column) 7 refl
      (form_as (form_behind [] (byte ∷ []) xs 39 refl refl refl) (λ c. (c.0, c.1.0)) (λ d. (d.0, (d.1, tt)))) in
      each (Into a o r s v) lines (
        (logical 8 (rw (is_register_lem r)), (λ n. n.0), (λ n. (n, tt)), refl, refl),
        (
          (arithmetic 9 (rw (is_register_lem r)), (λ n. n.0), (λ n. (n, tt)), refl, refl),
          (
            (compare, (λ n. n), (λ n. n), refl, refl),
            ((logical 12 (rw (is_register_lem r)), (λ n. n.0), (λ n. (n, tt)), refl, refl), ((arithmetic 13 (rw (is_register_lem r)), (λ n. n.0), (λ n. (n, tt)), refl, refl), tt)),
          ),
        ),
      )

pub into_reads : (line : ℕ) → among lines line ≡ true → (a : ℕ) (o : Operand) (r : RegisterOperand) (s : Size)
    → Accepted a (into_of line o r s) → Reads a (into_of line o r s)
unfolding group_at map
into_reads line t a o r s (n, e, l) =
    let c = into a o r s 0 line t in
    let k = each-size (λ s. among (0 ∷ 1 ∷ 2 ∷ []) (size_code s) ≡ true) refl refl refl s in
    laying_reads c.0 (at_among group.IntoData lines (0 ∷ 1 ∷ 2 ∷ []) refl line (size_code s) (register_bits r) t k (omega arith)) e (c.1 n)
    (λ d m. (rw (size_code_lem s), refl, rw (size_code_lem s, data_bits r d, c.4)))

pub cmp_reads : (a : ℕ) (o : Operand) (r : RegisterOperand) (s : Size) → Accepted a (IntoRegister CMP o r s) → Reads a (IntoRegister CMP o r s)
cmp_reads = into_reads 11 refl

pub into_data_sound : Sound group.IntoData
unfolding map
into_data_sound a line x opmode ea hl hx ho he e f h p i r =
    let (t, (k, u)) = in_group group.IntoData (λ l x o. yes (among lines l) ∷ equal (size_code (size_at o)) o ∷ []) refl line x opmode e in
    let s = size_at opmode in
    let c = into a f.source (Data x) s f.value line t in
    decoded_as a i (into_of line f.source (Data x) s) _ _ _ r (omega (arith, k))
    (laying_encodes ea f c.0 (lt_number x hx) h p c.2 c.3 (λ e. c.4 ∙ ap (λ o. into_of line o (Data x) s) e))
