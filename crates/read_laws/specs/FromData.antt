-- Dn,<ea> of OR, SUB, EOR, AND and ADD, and what stands beside them: ADDX SUBX, ABCD SBCD, PACK UNPK, EXG, CMPM.
use Rattle.std.specs.Prelude.{ℕ, ◌+◌, ◌-◌, ◌%◌, ◌<◌, ◌*◌, ◌/◌, ◌≡◌, refl, Bool, true, false, not, ◌||◌, cond, List, [], ◌∷◌, ltb, eqb}
use Rattle.std.proofs.Common.{ap, sym, ◌∙◌, subst₂, arith}
use Rattle.std.proofs.lemmas.Bool.{false≢true}
use Rattle.isa.specs.declared.Size.{Size}
use Rattle.isa.specs.declared.Size.TheVariants.{Byte, Word, Long}
use Rattle.isa.specs.declared.RegisterOperand.{RegisterOperand}
use Rattle.isa.specs.declared.RegisterOperand.TheVariants.{Address, Data}
use Rattle.isa.specs.declared.PairOperation.{PairOperation}
use Rattle.isa.specs.declared.Operand.{Operand}
use Rattle.isa.specs.declared.Operand.TheVariants.{Register, PreIndirect, PostIndirect}
use Rattle.isa.specs.declared.Instruction.{Instruction}
use Rattle.isa.specs.declared.Instruction.TheVariants.{Pair, UnsizedPair, Pack, EXG}
use Rattle.encode_spec.specs.Item.{fine, number_verdict, Item, allow, register, data_register, failure, no_encoding}
use Rattle.isa_spec.specs.Code.{size_code, register_bits, number_of_register, general}
use Rattle.isa_spec.specs.Mode.{bits}
use Rattle.encode_spec.specs.Ea.{memory_alterable, permits, is_register, register_in, ea_field, from_data, register_field, register_number, both_of, paired, memory_bit, data_alterable, mode_of, typed, with_data}
use Rattle.encode_spec.specs.Arithmetic.{arithmetic_parts, extended_parts, cmpm_parts}
use Rattle.encode_spec.specs.Logic.{logical_parts}
use Rattle.encode_spec.specs.Instruction.{pair_parts, unsized_pair_parts, packs_parts}
use Rattle.read_spec.specs.declared.Group.{Group}
use Rattle.read_spec.specs.declared.Specifier.{Specifier}
use Rattle.read_spec.specs.declared.Specifier.TheVariants as specifier
use Rattle.read_spec.specs.declared.Tail.{Tail}
use Rattle.read_spec.specs.Tree.{Tree, ret}
use Rattle.read_spec.specs.Plain.{plain_operand, plain}
use Rattle.read_spec.specs.Map.{group_at, map}
use Rattle.read_spec.specs.Operand.{permitted, mode_at}
use Rattle.read_spec.specs.Operation.{size_at, pair_at, either_at, extend_at, decimal_at, pack_at}
use Rattle.read_spec.specs.Layout.{one, alone, two}
use Rattle.read_spec.specs.Layouts.{layout_of, is_exchange}
use Rattle.read_spec.specs.Decoded.{data_operand, decoded, word_of, exchanged, cmpm_decoded}
use Rattle.read_operand_laws.specs.Stands.{Stands}
use Rattle.read_spec.specs.Accepted.{InTypes, InstructionInTypes, Accepted}
use Rattle.read_operand_laws.specs.TailStands.{specifier_words, SpecifierStands, TailStands, tail_words, plain_tail}
use Rattle.encode_facts.specs.Items.{lt_number, number_lt, fine_both, both_fine, unless_reason, true_unless}
use Rattle.encode_spec.specs.Encode.{refusal_of, items_of, words_of}
use Rattle.isa_facts.specs.Ordinary.{is_ordinary, ordinary}
use Rattle.isa.specs.declared.PairOperation.TheVariants.{ADDX, SUBX, OR, AND, ADD, SUB, CMPM, EOR}
use Rattle.read_spec.specs.declared.Group.TheVariants as group
use Rattle.isa.specs.declared.UnsizedPairOperation.TheVariants.{ABCD, SBCD}
use Rattle.isa.specs.declared.PackOperation.{PackOperation}
use Rattle.isa.specs.declared.PackOperation.TheVariants.{PACK, UNPK}
use Rattle.encode_spec.specs.Bits.{pack_parts}
use Rattle.encode_spec.specs.Movement.{is_address, exg_opmode, exg_parts}
use Rattle.read_laws.specs.IntoRegister.{into_reads}
use Rattle.read_spec.specs.declared.Layout.{Layout}
use Rattle.read_laws.specs.Statements.{Reads, reads, Encodes, Sound}
use Rattle.read_laws.specs.Tests.{equal, yes, no, among, each, facts_below, modes_say}
use Rattle.read_laws.specs.MapLaws.{At, at_among, in_group, each-size, upper_size}
use Rattle.read_laws.specs.DecodedLaws.{mode_is}
use Rattle.read_laws.specs.LayingLaws.{Passing, passing, passed, checked, missing, one_back, Laying, laying_reads, laying_encodes, decoded_as, word_as, alone-reads, alone_encodes, either_encodes, form_behind}
use Rattle.read_laws.specs.Operands.{by_register, simple_is, data_bits}
use Rattle.base_facts.specs.Tests.{Lt, lt?, true_not_false, ltb-true, ltb_not, and-true, true_and, ltb_is, leb-true, eqb_eq, leb_not, eqb_is}

-- ---- the encoder's `from_data`: the source is a data register
abbrev source_checks : Operand → List Item
source_checks o = typed o ∷ allow (is_register o) 3 ∷ data_register (register_in o) ∷ []

abbrev number_from : Operand → ℕ
number_from o = register_bits (register_in o)

from_is : (s : Size) (o : Operand) → Passing (source_checks o) → data_operand (number_from o) ≡ plain_operand s o
from_is s =
    by_register (λ o. Passing (source_checks o) → data_operand (number_from o) ≡ plain_operand s o)
    (λ r c. ap Register (data_bits r c.1.1.0))
    (λ o e c. true_not_false (unless_reason (is_register o) 3 c.1.0) e)

abbrev FromLaying : ℕ → ℕ → ℕ → Operand → Operand → Size → PairOperation → ℕ → Type 0
FromLaying a v modes o d s op line = Laying a (Pair op o d s) line (number_from o) (4 + size_code s) specifier.Nothing s modes v d (Passing (source_checks o))

-- to memory, of the four that have another form into a register
abbrev memory_lines : List ℕ
memory_lines = 8 ∷ 9 ∷ 12 ∷ 13 ∷ []

pair_laying : (a v : ℕ) (o d : Operand) (s : Size) → is_register d ≡ false → (line : ℕ) → among memory_lines line ≡ true
    → FromLaying a v (bits memory_alterable) o d s (pair_at line) line
unfolding pair_parts arithmetic_parts logical_parts from_data with_data
pair_laying a v o d s e =
    let pre = allow (is_register o) 3 ∷ [] in
    let xs = data_register (register_in o) ∷ [] in
    each (λ line. FromLaying a v (bits memory_alterable) o d s (pair_at line) line) memory_lines (
      form_behind (typed o ∷ []) pre xs 58 (rw e) refl refl,
      (
        form_behind (typed o ∷ []) pre xs 60 (rw e) refl refl,
        (form_behind (typed o ∷ []) pre xs 58 (rw e) refl refl, (form_behind (typed o ∷ []) pre xs 60 (rw e) refl refl, tt)),
      ),
    )

pub memory_not : (d : Operand) → permits memory_alterable d ≡ true → is_register d ≡ false
unfolding permits
memory_not = by_register (λ d. permits memory_alterable d ≡ true → is_register d ≡ false) register_not (λ d e h. e)
  where
    register_not : (r : RegisterOperand) → permits memory_alterable (Register r) ≡ true → is_register (Register r) ≡ false
    register_not (Address n) h = sym h
    register_not (Data n) h = sym h

-- below 16 are the registers
memory_ea : (ea : ℕ) → permitted (bits memory_alterable) ea ≡ true → ltb ea 16 ≡ false
memory_ea ea m = (modes_say (bits memory_alterable) (λ ea. no (ltb ea 16) ∷ []) refl ea m).0

-- where a group has the form
abbrev Slot : Group → PairOperation → ℕ → ℕ → Size → Type 0
Slot sh op line modes s =
    ((x : ℕ) → x < 8 → At sh line x (4 + size_code s))
    × ((x ea : ℕ) → permitted modes ea ≡ true → layout_of sh line x (4 + size_code s) ea ≡ one specifier.Nothing s ea modes)
    × ((a x ea v : ℕ) (o d : Operand) → permitted modes ea ≡ true → decoded a sh line x (4 + size_code s) ea v o d ≡ ret (Pair op (data_operand x) o s))

from-reads : (a : ℕ) (sh : Group) (op : PairOperation) (line modes : ℕ) (o d : Operand) (s : Size)
    → Slot sh op line modes s → FromLaying a 0 modes o d s op line → Accepted a (Pair op o d s) → Reads a (Pair op o d s)
from-reads a sh op line modes o d s (t, l, p) form (n, e, y) =
    laying_reads form (t (number_from o) (omega arith)) e n.1 (λ c m. (
      l (number_from o) (ea_field d) m,
      refl,
      p a (number_from o) (ea_field d) 0 (plain_operand s d) missing m ∙ ap
          (λ (o : Operand). ret (Pair op o (plain_operand s d) s)) (from_is s o c),
    ))

from_encodes : (a x ea : ℕ) (op : PairOperation) (line modes : ℕ) (s : Size) (f : Tail) → x < 8
    → FromLaying a f.value modes (data_operand x) f.source s op line
    → TailStands a (one specifier.Nothing s ea modes) f → plain_tail s f ≡ f
    → Encodes a (Pair op (data_operand x) f.source s) (word_of line x (4 + size_code s) ea ∷ tail_words a (one specifier.Nothing s ea modes) f)
from_encodes a x ea op line modes s f hx form h p =
    let m : x % 8 ≡ x = omega arith in
    rw m at (laying_encodes ea f form (refl, (refl, (lt_number x hx, tt))) h p (λ n. (tt, n)) refl (λ e. rw e))

-- beside another form, which a test says
beside_encodes : (a line x ea : ℕ) (s : Size) (k : Specifier) (f : Tail) (i j : Instruction) (b : Bool) → among memory_lines line ≡ true → x < 8
    → (b ≡ true → SpecifierStands k f.value → Encodes a j (word_of line x (4 + size_code s) ea ∷ specifier_words k f.value))
    → TailStands a (cond b (alone k) (one specifier.Nothing s ea (bits memory_alterable))) f
    → plain_tail (cond b (alone k) (one specifier.Nothing s ea (bits memory_alterable))).size f ≡ f
    → ◌≡◌ {A = Tree Instruction} (ret (cond b j (Pair (pair_at line) (data_operand x) f.source s))) (ret i)
    → Encodes a i (word_of line x (4 + size_code s) ea ∷ tail_words a (cond b (alone k) (one specifier.Nothing s ea (bits memory_alterable))) f)
beside_encodes a line x ea s k f i j b t hx g h p r =
    either_encodes a i j (Pair (pair_at line) (data_operand x) f.source s) (word_of line x (4 + size_code s) ea) b (alone k)
    (one specifier.Nothing s ea (bits memory_alterable)) f h r
    (λ q h. alone_encodes a j _ k f h (g q h.1))
    (λ q h.
    let e = memory_not f.source (one_back a specifier.Nothing s ea (bits memory_alterable) f h).0.0 in
    from_encodes a x ea (pair_at line) line (bits memory_alterable) s f hx (pair_laying a f.value (data_operand x) f.source s e line t) h (rw q at p))

-- ---- the forms Dy,Dx and -(Ay),-(Ax): x in bits 11 to 9, y in bits 2 to 0, and bit 3 says which; what the encoder checks of them
abbrev pairing_checks : ℕ → Operand → Operand → List Item
pairing_checks reason o d = typed o ∷ typed d ∷ allow (paired o d) reason ∷ register (register_number d) ∷ register (register_number o) ∷ []

-- two such operands stand as some bits say
paired_are : (P : Operand → Operand → Type 0) → ((ea x : ℕ) → ea < 16 → x < 8 → P (either_at ea (ea % 8)) (either_at ea x))
    → (reason : ℕ) (o d : Operand) → Passing (pairing_checks reason o d) → P o d
paired_are P h reason o d (u, (v, (t, (n, (m, z))))) = go (both_of 0 o d) refl
  where
    y : ℕ
    y = register_number o

    x : ℕ
    x = register_number d

    hx : x < 8
    hx = number_lt (register_number d) n

    hy : y < 8
    hy = number_lt (register_number o) m

    go : (b : Bool) → both_of 0 o d ≡ b → P o d
    go true e =
        let p = and-true _ _ e in
        let m : y % 8 ≡ y = omega (arith, hy) in
        let q : P (either_at y (y % 8)) (either_at y x) = h y x (omega (arith, hy)) hx in
        subst₂ P (sym (simple_is 0 (omega arith) o p.0)) (sym (simple_is 0 (omega arith) d p.1)) (rw (m, ltb-true y 8 hy) at q)
    go false e =
        let p = and-true _ _ (rw e at (unless_reason (paired o d) reason t)) in
        let m : (8 + y) % 8 ≡ y = omega (arith, hy) in
        let q : P (either_at (8 + y) ((8 + y) % 8)) (either_at (8 + y) x) = h (8 + y) x (omega (arith, hy)) hx in
        subst₂ P (sym (simple_is 4 (omega arith) o p.0)) (sym (simple_is 4 (omega arith) d p.1)) (rw (m, ltb_not (8 + y) 8 (omega arith)) at q)

-- an instruction of two such operands, and words behind its operation word
abbrev Joins : ℕ → (Operand → Operand → Instruction) → ℕ → ℕ → ℕ → List ℕ → Type 0
Joins a J reason line opmode ws =
    (o d : Operand)
    → (refusal_of true (J o d) a ≡ failure true (pairing_checks reason o d))
    × (words_of (J o d) a ≡ word_of line (register_field d) opmode (8 * memory_bit o + register_field o) ∷ ws)
    × (InTypes o × InTypes d → InstructionInTypes (J o d))
    × (is_ordinary (J o d) ≡ true)
    × ((s : Size) × (t : Size) × (plain (J o d) ≡ J (plain_operand s o) (plain_operand t d)))

joined_encodes : (a : ℕ) (J : Operand → Operand → Instruction) (reason line opmode : ℕ) (ws : List ℕ) → Joins a J reason line opmode ws
    → (ea x : ℕ) → ea < 16 → x < 8 → Encodes a (J (either_at ea (ea % 8)) (either_at ea x)) (word_of line x opmode ea ∷ ws)
joined_encodes a J reason line opmode ws j ea x he hx = go (lt? ea 8)
  where
    go : Lt ea 8 → Encodes a (J (either_at ea (ea % 8)) (either_at ea x)) (word_of line x opmode ea ∷ ws)
    go (Lt.less l e) =
        let (c, w, n, u, (_, _, p)) = j (Register (Data (ea % 8))) (Register (Data x)) in
        let t = passed (pairing_checks reason (Register (Data (ea % 8))) (Register (Data x)))
        (refl, (refl, (refl, (lt_number x hx, (lt_number (ea % 8) (omega arith), tt))))) in
        rw e (word_as a _ _ _ _ (omega arith) ((n (tt, tt), c ∙ t, ordinary _ u), p, w))
    go (Lt.past l e) =
        let (c, w, n, u, (_, _, p)) = j (PreIndirect (ea % 8)) (PreIndirect x) in
        let t = passed (pairing_checks reason (PreIndirect (ea % 8)) (PreIndirect x))
        (refl, (refl, (refl, (lt_number x hx, (lt_number (ea % 8) (omega arith), tt))))) in
        rw e (word_as a _ _ _ _ (omega arith) ((n (tt, tt), c ∙ t, ordinary _ u), p, w))

joined-reads : (a : ℕ) (J : Operand → Operand → Instruction) (sh : Group) (reason line opmode : ℕ) (k : Specifier) (v : ℕ)
    → Joins a J reason line opmode (specifier_words k v)
    → ((x : ℕ) → x < 8 → At sh line x opmode) → SpecifierStands k v
    → ((ea x : ℕ) → ltb ea 16 ≡ true
    → (layout_of sh line x opmode ea ≡ alone k) × (decoded a sh line x opmode ea v missing missing ≡ ret (J (either_at ea (ea % 8)) (either_at ea x))))
    → (o d : Operand) → refusal_of true (J o d) a ≡ fine → Reads a (J o d)
joined-reads a J sh reason line opmode k v j e sp l o d r =
    paired_are (λ o d. Reads a (J o d))
    (λ ea x he hx.
    let y = l ea x (ltb-true ea 16 he) in
    alone-reads a (J (either_at ea (ea % 8)) (either_at ea x)) ea k v (e x hx) (omega arith) y.0 sp y.1
    (joined_encodes a J reason line opmode (specifier_words k v) j ea x he hx))
    reason o d (passing (pairing_checks reason o d) (sym (j o d).0 ∙ r))

-- ---- ADD SUB; ADDX SUBX
abbrev arithmetic_lines : List ℕ
arithmetic_lines = 9 ∷ 13 ∷ []

arithmetic_at : (line : ℕ) → among arithmetic_lines line ≡ true → (s : Size) (x : ℕ) → x < 8 → At group.ArithmeticExtended line x (4 + size_code s)
unfolding group_at map
arithmetic_at line t s x =
    at_among group.ArithmeticExtended arithmetic_lines (4 ∷ 5 ∷ 6 ∷ []) refl line (4 + size_code s) x t
    (each-size (λ s. among (4 ∷ 5 ∷ 6 ∷ []) (4 + size_code s) ≡ true) refl refl refl s)

arithmetic_slot : (line : ℕ) → among arithmetic_lines line ≡ true → (s : Size) → Slot group.ArithmeticExtended (pair_at line) line (bits memory_alterable) s
arithmetic_slot line t s =
    (arithmetic_at line t s, (λ x ea m. rw (upper_size s, memory_ea ea m)), (λ a x ea v o d m. rw (upper_size s, memory_ea ea m)))

extend_joins : (a : ℕ) (s : Size) (line : ℕ) → among arithmetic_lines line ≡ true → Joins a (λ o d. Pair (extend_at line) o d s) 62 line (4 + size_code s) []
unfolding pair_parts extended_parts
extend_joins a s =
    each (λ line. Joins a (λ o d. Pair (extend_at line) o d s) 62 line (4 + size_code s) []) arithmetic_lines
    (λ o d. (refl, refl, (λ n. n), refl, (s, s, refl)), (λ o d. (refl, refl, (λ n. n), refl, (s, s, refl)), tt))

extend_reads : (line : ℕ) → among arithmetic_lines line ≡ true → (a : ℕ) (o d : Operand) (s : Size) → Accepted a (Pair (extend_at line) o d s)
    → Reads a (Pair (extend_at line) o d s)
extend_reads line t a o d s (n, e, l) =
    joined-reads a (λ o d. Pair (extend_at line) o d s) group.ArithmeticExtended 62 line (4 + size_code s) specifier.Nothing 0 (extend_joins a s line t)
    (arithmetic_at line t s) refl
    (λ ea x h. (rw h, rw (upper_size s, h))) o d e

pub addx_reads : (a : ℕ) (o d : Operand) (s : Size) → Accepted a (Pair ADDX o d s) → Reads a (Pair ADDX o d s)
addx_reads = extend_reads 13 refl

pub subx_reads : (a : ℕ) (o d : Operand) (s : Size) → Accepted a (Pair SUBX o d s) → Reads a (Pair SUBX o d s)
subx_reads = extend_reads 9 refl

pub arithmetic_extended_sound : Sound group.ArithmeticExtended
unfolding map
arithmetic_extended_sound a line x opmode ea hl hx ho he e f h p i r =
    let (t, (u, (k, z))) = in_group group.ArithmeticExtended (λ l x o. yes (among arithmetic_lines l) ∷ yes (among memory_lines l) ∷ equal (4 + size_code (size_at (o - 4)))
    o ∷ []) refl line x opmode e in
    let s = size_at (opmode - 4) in
    word_as a i _ _ _ (omega (arith, k))
    (beside_encodes a line x ea s specifier.Nothing f i (Pair (extend_at line) (either_at ea (ea % 8)) (either_at ea x) s) (ltb ea 16) u hx
    (λ l v. joined_encodes a (λ o d. Pair (extend_at line) o d s) 62 line (4 + size_code s) [] (extend_joins a s line t) ea x (ltb_is ea 16 l) hx) h p r)

-- ---- OR and AND of a byte; SBCD and ABCD
abbrev decimal_lines : List ℕ
decimal_lines = 8 ∷ 12 ∷ []

decimal_at_lem : (line : ℕ) → among decimal_lines line ≡ true → (x : ℕ) → x < 8 → At group.LogicDecimal line x 4
unfolding group_at map
decimal_at_lem line t x = at_among group.LogicDecimal decimal_lines (4 ∷ []) refl line 4 x t refl

decimal_slot : (line : ℕ) → among decimal_lines line ≡ true → Slot group.LogicDecimal (pair_at line) line (bits memory_alterable) Byte
decimal_slot line t = (decimal_at_lem line t, (λ x ea m. rw (memory_ea ea m)), (λ a x ea v o d m. rw (memory_ea ea m)))

decimal_joins : (a : ℕ) (line : ℕ) → among decimal_lines line ≡ true → Joins a (UnsizedPair (decimal_at line)) 62 line 4 []
unfolding unsized_pair_parts extended_parts
decimal_joins a =
    each (λ line. Joins a (UnsizedPair (decimal_at line)) 62 line 4 []) decimal_lines
    (λ o d. (refl, refl, (λ n. n), refl, (Long, Byte, refl)), (λ o d. (refl, refl, (λ n. n), refl, (Long, Byte, refl)), tt))

decimal_reads : (line : ℕ) → among decimal_lines line ≡ true → (a : ℕ) (o d : Operand) → Accepted a (UnsizedPair (decimal_at line) o d)
    → Reads a (UnsizedPair (decimal_at line) o d)
decimal_reads line t a o d (n, e, l) =
    joined-reads a (UnsizedPair (decimal_at line)) group.LogicDecimal 62 line 4 specifier.Nothing 0 (decimal_joins a line t) (decimal_at_lem line t) refl
    (λ ea x h. (rw h, rw h)) o d e

pub sbcd_reads : (a : ℕ) (o d : Operand) → Accepted a (UnsizedPair SBCD o d) → Reads a (UnsizedPair SBCD o d)
sbcd_reads = decimal_reads 8 refl

pub abcd_reads : (a : ℕ) (o d : Operand) → Accepted a (UnsizedPair ABCD o d) → Reads a (UnsizedPair ABCD o d)
abcd_reads = decimal_reads 12 refl

pub logic_decimal_sound : Sound group.LogicDecimal
unfolding map
logic_decimal_sound a line x opmode ea hl hx ho he e f h p i r =
    let (t, (u, (k, z))) = in_group group.LogicDecimal (λ l x o. yes (among decimal_lines l) ∷ yes (among memory_lines l) ∷ equal 4 o ∷ []) refl line x opmode e in
    word_as a i _ _ _ (omega (arith, k))
    (beside_encodes a line x ea Byte specifier.Nothing f i (UnsizedPair (decimal_at line) (either_at ea (ea % 8)) (either_at ea x)) (ltb ea 16) u hx
    (λ l v. joined_encodes a (UnsizedPair (decimal_at line)) 62 line 4 [] (decimal_joins a line t) ea x (ltb_is ea 16 l) hx) h p r)

-- ---- OR of a word or a long; PACK and UNPK
abbrev opmodes : List ℕ
opmodes = 5 ∷ 6 ∷ []

pack_at_lem : (opmode : ℕ) → among opmodes opmode ≡ true → (x : ℕ) → x < 8 → At group.LogicPack 8 x opmode
unfolding group_at map
pack_at_lem opmode t x = at_among group.LogicPack (8 ∷ []) opmodes refl 8 opmode x refl t

pack_slot : (s : Size) → among opmodes (4 + size_code s) ≡ true → Slot group.LogicPack OR 8 (bits memory_alterable) s
pack_slot s t = (pack_at_lem (4 + size_code s) t, (λ x ea m. rw (upper_size s, memory_ea ea m)), (λ a x ea v o d m. rw (upper_size s, memory_ea ea m)))

pack_joins : (a adjustment : ℕ) → adjustment < 65536 → (opmode : ℕ) → among opmodes opmode ≡ true
    → Joins a (λ o d. Pack (pack_at opmode) o d adjustment) 48 8 opmode (adjustment ∷ [])
unfolding packs_parts pack_parts
pack_joins a adjustment h =
    each (λ opmode. Joins a (λ o d. Pack (pack_at opmode) o d adjustment) 48 8 opmode (adjustment ∷ [])) opmodes
    (λ o d. (refl, refl, (λ n. (n.0, n.1, h)), refl, (Long, Long, refl)), (λ o d. (refl, refl, (λ n. (n.0, n.1, h)), refl, (Long, Long, refl)), tt))

packed-reads : (opmode : ℕ) → among opmodes opmode ≡ true → (a : ℕ) (o d : Operand) (adjustment : ℕ)
    → Accepted a (Pack (pack_at opmode) o d adjustment) → Reads a (Pack (pack_at opmode) o d adjustment)
packed-reads opmode t a o d adjustment (n, e, l) =
    let m : adjustment % 65536 ≡ adjustment = omega (arith, n.2) in
    joined-reads a (λ o d. Pack (pack_at opmode) o d adjustment) group.LogicPack 48 8 opmode specifier.Word adjustment (pack_joins a adjustment n.2 opmode t)
    (pack_at_lem opmode t)
    (n.2, refl) (λ ea x h. (rw h, rw (h, m))) o d e

pub pack_reads : (a : ℕ) (op : PackOperation) (o d : Operand) (adjustment : ℕ) → Accepted a (Pack op o d adjustment) → Reads a (Pack op o d adjustment)
pack_reads a PACK = packed-reads 5 refl a
pack_reads a UNPK = packed-reads 6 refl a

pub logic_pack_sound : Sound group.LogicPack
unfolding map
logic_pack_sound a line x opmode ea hl hx ho he e f h p i r =
    let (l, (t, (k, z))) = in_group group.LogicPack (λ l x o. equal l 8 ∷ yes (among opmodes o) ∷ equal (4 + size_code (size_at (o - 4))) o ∷ []) refl line
    x opmode e in
    let s = size_at (opmode - 4) in
    word_as a i _ _ _ (omega (arith, k))
    (beside_encodes a 8 x ea s specifier.Word f i (Pack (pack_at opmode) (either_at ea (ea % 8)) (either_at ea x) (f.value % 65536)) (ltb ea 16) refl hx
    (λ l v.
    let m : f.value % 65536 ≡ f.value = omega (arith, v.0) in
    rw (k, m) (joined_encodes a (λ o d. Pack (pack_at opmode) o d f.value) 48 8 opmode (f.value ∷ []) (pack_joins a f.value v.0 opmode t) ea x
    (ltb_is ea 16 l) hx))
    h p r)

-- ---- AND of a word or a long; EXG
exchange_at : (opmode : ℕ) → among opmodes opmode ≡ true → (x : ℕ) → x < 8 → At group.LogicExchange 12 x opmode
unfolding group_at map
exchange_at opmode t x = at_among group.LogicExchange (12 ∷ []) opmodes refl 12 opmode x refl t

exchange_slot : (s : Size) → among opmodes (4 + size_code s) ≡ true → Slot group.LogicExchange AND 12 (bits memory_alterable) s
exchange_slot s t = (exchange_at (4 + size_code s) t, (λ x ea m. rw (upper_size s, memory_ea ea m)), (λ a x ea v o d m. rw (upper_size s, memory_ea ea m)))

abbrev Exchanging : RegisterOperand → RegisterOperand → Type 0
Exchanging x y = ((not (is_address x) || is_address y) ≡ true) × (number_of_register x < 8) × (number_of_register y < 8)

exg_encodes : (a : ℕ) (x y : RegisterOperand) → Exchanging x y → Encodes a (EXG x y) (word_of 12 (register_bits x) (exg_opmode x y) (general y) ∷ [])
unfolding exg_parts
exg_encodes a x y (t, h, l) = (
  (
    tt,
    passed (items_of (EXG x y) a) (
      true_unless (not (is_address x) || is_address y) (no_encoding 43) t,
      (lt_number (number_of_register x) h, (lt_number (number_of_register y) l, tt)),
    ),
    ordinary _ refl,
  ),
  refl,
  refl,
)

-- the registers that some bits name, and back
exchanged_encodes : (a x opmode ea : ℕ) → among opmodes opmode ≡ true → x < 8 → is_exchange opmode ea ≡ true
    → Encodes a (exchanged x opmode ea) (word_of 12 x opmode ea ∷ [])
exchanged_encodes a x opmode ea t hx e =
    each (λ k. is_exchange k ea ≡ true → Encodes a (exchanged x k ea) (word_of 12 x k ea ∷ [])) opmodes (five (lt? ea 8), (six (lt? ea 8), tt)) opmode t e
  where
    five : Lt ea 8 → is_exchange 5 ea ≡ true → Encodes a (exchanged x 5 ea) (word_of 12 x 5 ea ∷ [])
    five (Lt.less l g) y = rw g (word_as a _ _ _ [] (omega arith) (exg_encodes a (Data x) (Data (ea % 8)) (refl, hx, omega arith)))
    five (Lt.past l g) y =
        let b = ltb_is ea 16 (and-true (ltb ea 16) _ y).0 in
        rw g (word_as a _ _ _ [] (omega arith) (exg_encodes a (Address x) (Address (ea % 8)) (refl, hx, omega arith)))

    six : Lt ea 8 → is_exchange 6 ea ≡ true → Encodes a (exchanged x 6 ea) (word_of 12 x 6 ea ∷ [])
    six (Lt.less l g) y = true_not_false (and-true (ltb ea 16) _ y).1 (leb_not 8 ea l)
    six (Lt.past l g) y =
        let b = ltb_is ea 16 (and-true (ltb ea 16) _ y).0 in
        rw g (word_as a _ _ _ [] (omega arith) (exg_encodes a (Data x) (Address (ea % 8)) (refl, hx, omega arith)))

exchanged_are : (P : Instruction → Type 0) → ((x opmode ea : ℕ) → among opmodes opmode ≡ true → x < 8 → is_exchange opmode ea ≡ true → P (exchanged x opmode ea))
    → (x y : RegisterOperand) → Exchanging x y → P (EXG x y)
exchanged_are P h (Address m) (Address n) (t, hm, hn) =
    let q : (8 + n) % 8 ≡ n = omega arith in
    rw (q, ltb_not (8 + n) 8 (omega arith)) at (h m 5 (8 + n) refl hm (rw (ltb-true (8 + n) 16 (omega arith))))
exchanged_are P h (Address m) (Data n) (t, hm, hn) = absurd (false≢true t)
exchanged_are P h (Data m) (Address n) (t, hm, hn) =
    let q : (8 + n) % 8 ≡ n = omega arith in
    rw (q, ltb_not (8 + n) 8 (omega arith)) at (h m 6 (8 + n) refl hm (rw (ltb-true (8 + n) 16 (omega arith), leb-true 8 (8 + n) (omega arith))))
exchanged_are P h (Data m) (Data n) (t, hm, hn) =
    let q : n % 8 ≡ n = omega arith in
    rw (q, ltb-true n 8 hn) at (h m 5 n refl hm (rw (ltb-true n 16 (omega arith))))

pub exg_reads : (a : ℕ) (x y : RegisterOperand) → Accepted a (EXG x y) → Reads a (EXG x y)
unfolding exg_parts
exg_reads a x y h =
    let (t, (m, (n, z))) = checked a (EXG x y) h in
    exchanged_are (λ i. Reads a i)
    (λ x opmode ea t hx y.
    alone-reads a (exchanged x opmode ea) ea specifier.Nothing 0 (exchange_at opmode t x hx) (omega (arith, ltb_is ea 16 (and-true (ltb ea 16) _ y).0))
    (rw y) refl (rw y)
    (exchanged_encodes a x opmode ea t hx y))
    x y (unless_reason (not (is_address x) || is_address y) 43 t, number_lt (number_of_register x) m, number_lt (number_of_register y) n)

pub logic_exchange_sound : Sound group.LogicExchange
unfolding map
logic_exchange_sound a line x opmode ea hl hx ho he e f h p i r =
    let (l, (t, (k, z))) = in_group group.LogicExchange (λ l x o. equal l 12 ∷ yes (among opmodes o) ∷ equal (4 + size_code (size_at (o - 4))) o ∷ []) refl line
    x opmode e in
    word_as a i _ _ _ (omega (arith, k))
    (beside_encodes a 12 x ea (size_at (opmode - 4)) specifier.Nothing f i (exchanged x opmode ea) (is_exchange opmode ea) refl hx
    (λ y v. rw k (exchanged_encodes a x opmode ea t hx y)) h p r)

-- ---- OR SUB AND ADD: a group for each size
abbrev Slots : ℕ → Size → Type 0
Slots line s = (sh : Group) × Slot sh (pair_at line) line (bits memory_alterable) s

pair_as : (line : ℕ) → among memory_lines line ≡ true → ((s : Size) → Slots line s)
    → ((a : ℕ) (o : Operand) (r : RegisterOperand) (s : Size) → Accepted a (Pair (pair_at line) o (Register r) s) → Reads a
    (Pair (pair_at line) o (Register r) s))
    → (a : ℕ) (o d : Operand) (s : Size) → Accepted a (Pair (pair_at line) o d s) → Reads a (Pair (pair_at line) o d s)
pair_as line t slots into a o d s =
    by_register (λ d. Accepted a (Pair (pair_at line) o d s) → Reads a (Pair (pair_at line) o d s)) (λ r. into a o r s)
    (λ d e. from-reads a (slots s).0 (pair_at line) line (bits memory_alterable) o d s (slots s).1 (pair_laying a 0 o d s e line t)) d

pub add_reads : (a : ℕ) (o d : Operand) (s : Size) → Accepted a (Pair ADD o d s) → Reads a (Pair ADD o d s)
add_reads = pair_as 13 refl (λ s. (group.ArithmeticExtended, arithmetic_slot 13 refl s)) (into_reads 13 refl)

pub sub-reads : (a : ℕ) (o d : Operand) (s : Size) → Accepted a (Pair SUB o d s) → Reads a (Pair SUB o d s)
sub-reads = pair_as 9 refl (λ s. (group.ArithmeticExtended, arithmetic_slot 9 refl s)) (into_reads 9 refl)

pub or_reads : (a : ℕ) (o d : Operand) (s : Size) → Accepted a (Pair OR o d s) → Reads a (Pair OR o d s)
or_reads =
    pair_as 8 refl
    (each-size (Slots 8) (group.LogicDecimal, decimal_slot 8 refl) (group.LogicPack, pack_slot Word refl) (group.LogicPack, pack_slot Long refl))
    (into_reads 8 refl)

pub and_reads : (a : ℕ) (o d : Operand) (s : Size) → Accepted a (Pair AND o d s) → Reads a (Pair AND o d s)
and_reads =
    pair_as 12 refl
    (each-size (Slots 12) (group.LogicDecimal, decimal_slot 12 refl) (group.LogicExchange, exchange_slot Word refl) (group.LogicExchange, exchange_slot Long refl))
    (into_reads 12 refl)

-- ---- EOR; CMPM
compare_at : (x : ℕ) (s : Size) → x < 8 → At group.LogicCompare 11 x (4 + size_code s)
unfolding group_at map
compare_at x s =
    at_among group.LogicCompare (11 ∷ []) (4 ∷ 5 ∷ 6 ∷ []) refl 11 (4 + size_code s) x refl
    (each-size (λ s. among (4 ∷ 5 ∷ 6 ∷ []) (4 + size_code s) ≡ true) refl refl refl s)

not_address : (ea : ℕ) → permitted (bits data_alterable) ea ≡ true → eqb (ea / 8) 1 ≡ false
not_address ea m = (modes_say (bits data_alterable) (λ ea. no (eqb (ea / 8) 1) ∷ []) refl ea m).0

eor_slot : (s : Size) → Slot group.LogicCompare EOR 11 (bits data_alterable) s
eor_slot s = ((λ x. compare_at x s), (λ x ea m. rw (upper_size s, not_address ea m)), (λ a x ea v o d m. rw (upper_size s, not_address ea m)))

eor_laying : (a v : ℕ) (o d : Operand) (s : Size) → FromLaying a v (bits data_alterable) o d s EOR 11
unfolding pair_parts from_data with_data
eor_laying a v o d s =
    form_behind (typed o ∷ []) (allow (is_register o) 3 ∷ []) (data_register (register_in o) ∷ []) 42 refl refl refl

pub eor_reads : (a : ℕ) (o d : Operand) (s : Size) → Accepted a (Pair EOR o d s) → Reads a (Pair EOR o d s)
eor_reads a o d s = from-reads a group.LogicCompare EOR 11 (bits data_alterable) o d s (eor_slot s) (eor_laying a 0 o d s)

abbrev cmpm_of : Size → ℕ → ℕ → Instruction
cmpm_of s x y = Pair CMPM (PostIndirect y) (PostIndirect x) s

cmpm_encodes : (a x y : ℕ) (s : Size) → x < 8 → y < 8 → Encodes a (cmpm_of s x y) (word_of 11 x (4 + size_code s) (8 + y) ∷ [])
unfolding pair_parts cmpm_parts
cmpm_encodes a x y s hx hy =
    let m : x % 8 ≡ x = omega arith in
    let n : y % 8 ≡ y = omega arith in
    (((tt, tt), passed (items_of (cmpm_of s x y) a) (refl, (refl, (refl, (lt_number x hx, (lt_number y hy, tt))))), ordinary _ refl), refl, rw (m, n))

cmpm_at : (a x y : ℕ) (s : Size) → x < 8 → y < 8 → Reads a (cmpm_of s x y)
cmpm_at a x y s hx hy =
    let c = cmpm_encodes a x y s hx hy in
    let f : Tail = record { value = 0; source = PostIndirect y; destination = PostIndirect x } in
    let m : (8 + y) % 8 ≡ y = omega arith in
    let g = eqb_is ((8 + y) / 8) 1 (omega arith) in
    let l : layout_of group.LogicCompare 11 x (4 + size_code s) (8 + y) ≡ two specifier.Nothing Byte (24 + y) 8 (24 + x) 8 = rw (g, m) in
    let (hl, h, ho, e) = compare_at x s hx in
    let modes : (k : ℕ) → k < 8 → permitted 8 (24 + k) ≡ true = λ k h. (facts_below 8 (λ k. yes (permitted 8 (24 + k)) ∷ []) refl k h).0 in
    let stands : (at k : ℕ) → k < 8 → Stands Byte at (24 + k) (PostIndirect k) = λ at k h.
    (both_fine (number_verdict k) fine (lt_number k h) refl, refl, tt, omega arith) in
    reads group.LogicCompare 11 x (4 + size_code s) (8 + y) f hl hx ho (omega arith) e
    (rw l (true_and _ _ (modes y hy) (modes x hx), refl, stands a y hy, stands a x hx))
    (rw (g, upper_size s)) (rw l c.2)

pub cmpm_reads : (a : ℕ) (o d : Operand) (s : Size) → Accepted a (Pair CMPM o d s) → Reads a (Pair CMPM o d s)
unfolding pair_parts cmpm_parts
cmpm_reads a o d s h =
    let (u, (v, (b, (m, (n, z))))) = checked a (Pair CMPM o d s) h in
    let t = and-true (eqb (mode_of o) 3) _ (unless_reason (both_of 3 o d) 41 b) in
    subst₂ (λ o d. Reads a (Pair CMPM o d s)) (sym (simple_is 3 (omega arith) o t.0)) (sym (simple_is 3 (omega arith) d t.1))
    (cmpm_at a (register_number d) (register_number o) s (number_lt (register_number d) m) (number_lt (register_number o) n))

-- (An)+ by its six bits
post_is : (s : Size) (at y : ℕ) (o : Operand) → y < 8 → Stands s at (24 + y) o → o ≡ PostIndirect y
post_is s at y o hy h =
    let m = mode_is s at (24 + y) o h ∙ (facts_below 8 (λ k. equal (mode_at (24 + k)) 3 ∷ []) refl y hy).0 in
    go (register_number o) (simple_is 3 (omega arith) o (eqb_is (mode_of o) 3 m))
  where
    go : (n : ℕ) → o ≡ PostIndirect n → o ≡ PostIndirect y
    go n e =
        let g : Stands s at (24 + y) (PostIndirect n) = rw e at h in
        let l = number_lt n (fine_both (number_verdict n) _ g.0).0 in
        e ∙ ap PostIndirect (omega (arith, g.3))

pub logic_compare_sound : Sound group.LogicCompare
unfolding map
logic_compare_sound a line x opmode ea hl hx ho he e f h p i r =
    let (l, (k, u)) = in_group group.LogicCompare (λ l x o. equal l 11 ∷ equal (4 + size_code (size_at (o - 4))) o ∷ []) refl line x opmode e in
    word_as a i _ _ _ (omega (arith, k)) (go (eqb (ea / 8) 1) refl h r)
  where
    s : Size
    s = size_at (opmode - 4)

    both : Layout
    both = two specifier.Nothing Byte (24 + ea % 8) 8 (24 + x) 8

    go : (b : Bool) → eqb (ea / 8) 1 ≡ b → TailStands a (cond b both (one specifier.Nothing s ea (bits data_alterable))) f
        → cond b (cmpm_decoded s f.source f.destination) (ret (Pair EOR (data_operand x) f.source s)) ≡ ret i
        → Encodes a i (word_of 11 x (4 + size_code s) ea ∷ tail_words a (cond b both (one specifier.Nothing s ea (bits data_alterable))) f)
    go true g h r =
        let y = post_is Byte _ (ea % 8) f.source (omega arith) h.2 in
        let d = post_is Byte _ x f.destination hx h.3 in
        rw (y, d) (decoded_as a i (cmpm_of s x (ea % 8)) _ _ _ (rw (y, d) at r) (omega (arith, eqb_eq (ea / 8) 1 g))
        (cmpm_encodes a x (ea % 8) s hx (omega arith)))
    go false g h r =
        decoded_as a i (Pair EOR (data_operand x) f.source s) _ _ _ r refl (from_encodes a x ea EOR 11 (bits data_alterable) s f hx
        (eor_laying a f.value (data_operand x) f.source s) h (rw g at p))
