-- TRAP LINK UNLK MOVE USP RESET NOP STOP RTE RTD RTS TRAPV RTR MOVEC; LINEA LINEF.
use Rattle.std.specs.Prelude.{ℕ, ◌+◌, ◌*◌, ◌/◌, ◌%◌, ◌^◌, ◌<◌, ◌≡◌, refl, Bool, true, false, ◌||◌, cond, [], ◌∷◌, List, ltb, eqb, leb}
use Rattle.std.proofs.Common.{ap, sym, ◌∙◌, subst, arith}
use Rattle.std.proofs.lemmas.Bool.{false≢true}
use Rattle.isa.specs.declared.RegisterOperand.{RegisterOperand}
use Rattle.isa.specs.declared.RegisterOperand.TheVariants.{Address}
use Rattle.isa.specs.declared.LinkOperation.TheVariants.{LINK}
use Rattle.isa.specs.declared.StatusOperation.TheVariants.{STOP}
use Rattle.isa.specs.declared.VectorOperation.TheVariants.{TRAP}
use Rattle.isa.specs.declared.NoOperandOperation.{NoOperandOperation}
use Rattle.isa.specs.declared.NoOperandOperation.TheVariants.{RTE, RESET, RTR, TRAPV, ILLEGAL, RTS, NOP, SIMHALT}
use Rattle.isa.specs.declared.Instruction.{Instruction}
use Rattle.isa.specs.declared.Instruction.TheVariants.{Link, UNLK, Vector, Status, MOVEUSP, NoOperand, RTD, MOVEC, Raw}
use Rattle.base_spec.specs.Signed.{signed32, bits_of}
use Rattle.encode_spec.specs.Item.{fine, malformed, unless}
use Rattle.isa_spec.specs.Code.{bit, number_of_register, general}
use Rattle.encode_spec.specs.Movement.{link_parts, unlk_parts}
use Rattle.encode_spec.specs.Control.{rtd_parts}
use Rattle.encode_spec.specs.System.{vector_parts, status_parts, moveusp_parts, movec_parts, no_operand_parts, raw_parts}
use Rattle.encode_spec.specs.Instruction.{links_parts}
use Rattle.encode_spec.specs.Encode.{words_of, items_of}
use Rattle.read_spec.specs.declared.Group.TheVariants as group
use Rattle.read_spec.specs.declared.Specifier.{Specifier}
use Rattle.read_spec.specs.declared.Specifier.TheVariants as specifier
use Rattle.read_spec.specs.declared.Tail.{Tail}
use Rattle.read_spec.specs.declared.Layout.{Layout}
use Rattle.read_spec.specs.Number.{signed16}
use Rattle.read_spec.specs.Tree.{Tree, ret}
use Rattle.read_spec.specs.Plain.{plain}
use Rattle.read_spec.specs.Operand.{general_of}
use Rattle.read_spec.specs.Map.{group_at, map}
use Rattle.read_spec.specs.Layout.{alone, no_layout, bare}
use Rattle.read_spec.specs.Layouts.{system_layout, layout_of}
use Rattle.read_spec.specs.Decoded.{extended, system_decoded, word_of, decoded}
use Rattle.read_operand_laws.specs.TailStands.{TailStands, tail_words, specifier_words, SpecifierStands}
use Rattle.read_operand_laws.specs.Facts.{trap_vector_holds, link_displacement_holds, rtd_displacement_holds, signed16-fits, low-signed16}
use Rattle.encode_facts.specs.Items.{number_lt, lt_number, unless_malformed, true_unless}
use Rattle.read_laws.specs.Statements.{Reads, Encodes, Sound, reads}
use Rattle.read_spec.specs.Accepted.{Accepted}
use Rattle.read_laws.specs.Control.{word-extended, extended-word}
use Rattle.isa_facts.specs.Code.{general_lt}
use Rattle.read_laws.specs.Operands.{general_of_lem, of_general, address_is}
use Rattle.isa.specs.declared.RawOperation.{RawOperation}
use Rattle.isa.specs.declared.RawOperation.TheVariants.{LINEA, LINEF, IllegalWord}
use Rattle.read_spec.specs.declared.Group.{Group}
use Rattle.isa_spec.specs.Ordinary.{Ordinary}
use Rattle.isa_facts.specs.Ordinary.{is_ordinary, ordinary}
use Rattle.read_laws.specs.Tests.{Fact, Known, yes, no, equal, known, facts_below, each_eight}
use Rattle.read_laws.specs.MapLaws.{At, at_code, at_line, in_group}
use Rattle.read_laws.specs.LayingLaws.{missing, passed, checked, decoded_as, alone-reads, alone_encodes}
use Rattle.base_facts.specs.Tests.{Lt, lt?, all, ltb_is, ltb-true, eqb_eq, true_not_false, eqb_is}

-- ---- what the low six bits name: a specifier, and an instruction by its value, which encodes so
data Named (a ea : ℕ) (k : Specifier) (j : ℕ → Instruction) : Type 0 where
  named : system_layout ea ≡ alone k → ((v : ℕ) → system_decoded ea v ≡ j v)
      → ((v : ℕ) → SpecifierStands k v → Encodes a (j v) (word_of 4 7 1 ea ∷ specifier_words k v)) → Named a ea k j

-- a layout without a specifier, and with one
abbrev layout_facts : Bool → ℕ → List Fact
layout_facts b ea =
    yes (ltb ea 56 || eqb (ea / 2) 29) ∷ cond b (no (eqb (ea / 8) 2 || eqb ea 50 || eqb ea 52 || leb 56 ea))
    (yes (eqb (ea / 8) 2 || eqb ea 50 || eqb ea 52 || leb 56 ea)) ∷ []

layout_is : (b : Bool) (ea : ℕ) → Known (layout_facts b ea) → system_layout ea ≡ alone (cond b specifier.Nothing specifier.Word)
layout_is true ea (p, (q, t)) = rw (p, q)
layout_is false ea (p, (q, t)) = rw (p, q)

-- eight words in a row
eight : (b : Bool) (m : ℕ) → all (λ n. known (layout_facts b (m + n))) 8 ≡ true → (n : ℕ) → n < 8
    → system_layout (m + n) ≡ alone (cond b specifier.Nothing specifier.Word)
eight b m t n h = layout_is b (m + n) (facts_below 8 (λ n. layout_facts b (m + n)) t n h)

trap_named : (a n : ℕ) → n < 16 → Named a n specifier.Nothing (λ v. Vector TRAP n)
unfolding vector_parts
trap_named a n h =
    let w : n % 16 ≡ n = omega arith in
    named (layout_is true n (facts_below 16 (layout_facts true) refl n h)) (go (lt? n 8))
    (λ v s. ((tt, passed (items_of (Vector TRAP n) a) (trap_vector_holds n ∙ ltb-true n 16 h, tt), ordinary _ refl), refl, rw w))
  where
    go : Lt n 8 → (v : ℕ) → system_decoded n v ≡ Vector TRAP n
    go (Lt.less l e) v = let q : n / 8 ≡ 0 = omega arith in rw q
    go (Lt.past l e) v = let q : n / 8 ≡ 1 = omega arith in rw q

extended_lt : (v : ℕ) → extended v < 2 ^ 32
extended_lt v = omega arith

link_named : (a n : ℕ) → n < 8 → Named a (16 + n) specifier.Word (λ v. Link LINK (Address n) (extended (v % 65536)))
unfolding links_parts link_parts
link_named a n h =
    let q : (16 + n) / 8 ≡ 2 = omega arith in
    let u : (16 + n) % 8 ≡ n = omega arith in
    let w : n % 8 ≡ n = omega arith in
    named (eight false 16 refl n h) (λ v. rw (q, u)) (λ v s.
    let i = Link LINK (Address n) (extended (v % 65536)) in
    let e = word-extended v s.0 in (
      (extended_lt (v % 65536), passed (items_of i a) (lt_number n h, (rw e (link_displacement_holds (signed16 v) ∙ signed16-fits v s.0), tt)), ordinary _ refl),
      refl,
      rw (e, w, low-signed16 v s.0),
    ))

unlk_named : (a n : ℕ) → n < 8 → Named a (24 + n) specifier.Nothing (λ v. UNLK (Address n))
unfolding unlk_parts
unlk_named a n h =
    let q : (24 + n) / 8 ≡ 3 = omega arith in
    let u : (24 + n) % 8 ≡ n = omega arith in
    let w : n % 8 ≡ n = omega arith in
    named (eight true 24 refl n h) (λ v. rw (q, u)) (λ v s. ((tt, passed (items_of (UNLK (Address n)) a) (lt_number n h, tt), ordinary _ refl), refl, rw w))

moveusp_encodes : (a : ℕ) (to : Bool) (n : ℕ) → n < 8 → Encodes a (MOVEUSP to (Address n)) (word_of 4 7 1 (cond to 32 40 + n) ∷ [])
unfolding moveusp_parts
moveusp_encodes a to n h = let w : n % 8 ≡ n = omega arith in ((tt, passed (items_of (MOVEUSP to (Address n)) a) (lt_number n h, tt), ordinary _ refl), refl, rw w)

moveusp_named : (a : ℕ) (to : Bool) (n : ℕ) → n < 8 → Named a (cond to 32 40 + n) specifier.Nothing (λ v. MOVEUSP to (Address n))
moveusp_named a true n h =
    let q : (32 + n) / 8 ≡ 4 = omega arith in
    let u : (32 + n) % 8 ≡ n = omega arith in
    named (eight true 32 refl n h) (λ v. rw (q, u)) (λ v s. moveusp_encodes a true n h)
moveusp_named a false n h =
    let q : (40 + n) / 8 ≡ 5 = omega arith in
    let u : (40 + n) % 8 ≡ n = omega arith in
    named (eight true 40 refl n h) (λ v. rw (q, u)) (λ v s. moveusp_encodes a false n h)

stop_named : (a : ℕ) → Named a 50 specifier.Word (λ v. Status STOP (v % 65536))
unfolding status_parts
stop_named a = named refl (λ v. refl) (λ v s. let w : v % 65536 ≡ v = omega (arith, s.0) in rw w ((s.0, refl, ordinary _ refl), refl, refl))

rtd_named : (a : ℕ) → Named a 52 specifier.Word (λ v. RTD (extended (v % 65536)))
unfolding rtd_parts
rtd_named a =
    named refl (λ v. refl) (λ v s.
    let e = word-extended v s.0 in (
      (extended_lt (v % 65536), passed (items_of (RTD (extended (v % 65536))) a) (rw e (rtd_displacement_holds (signed16 v) ∙ signed16-fits v s.0), tt), ordinary _ refl),
      refl,
      rw (e, low-signed16 v s.0),
    ))

movec_encodes : (a : ℕ) (to : Bool) (v : ℕ) → v < 65536 → Encodes a (MOVEC to (v % 4096) (general_of (v / 4096 % 16))) (word_of 4 7 1 (58 + bit to) ∷ v ∷ [])
unfolding movec_parts
movec_encodes a to v h =
    let g = of_general (v / 4096 % 16) (omega arith) in
    let m : v % 4096 % 4096 ≡ v % 4096 = omega arith in
    let w : v / 4096 % 16 * 4096 + v % 4096 ≡ v = omega arith in (
      (omega arith, passed (items_of (MOVEC to (v % 4096) (general_of (v / 4096 % 16))) a) (lt_number (number_of_register (general_of (v / 4096 % 16))) g.1, tt), ordinary _ refl),
      rw m,
      rw (m, g.0, w),
    )

movec_named : (a : ℕ) (to : Bool) → Named a (58 + bit to) specifier.Word (λ v. MOVEC to (v % 4096) (general_of (v / 4096 % 16)))
movec_named a true = named refl (λ v. refl) (λ v s. movec_encodes a true v s.0)
movec_named a false = named refl (λ v. refl) (λ v s. movec_encodes a false v s.0)

-- ILLEGAL is of another group
abbrev pub is_illegal : NoOperandOperation → Bool
is_illegal RTE = false
is_illegal RESET = false
is_illegal RTR = false
is_illegal TRAPV = false
is_illegal ILLEGAL = true
is_illegal RTS = false
is_illegal NOP = false
is_illegal SIMHALT = false

abbrev plain_code : NoOperandOperation → ℕ
plain_code RTE = 51
plain_code RESET = 48
plain_code RTR = 55
plain_code TRAPV = 54
plain_code ILLEGAL = 0
plain_code RTS = 53
plain_code NOP = 49
plain_code SIMHALT = 0

abbrev PlainNamed : ℕ → NoOperandOperation → Type 0
PlainNamed a op = (plain_code op < 64) × Named a (plain_code op) specifier.Nothing (λ v. NoOperand op)

no_operand_named : (a : ℕ) (op : NoOperandOperation) → is_illegal op ≡ false → Ordinary (NoOperand op) → PlainNamed a op
unfolding no_operand_parts
no_operand_named a RTE n l = (omega arith, named refl (λ v. refl) (λ v s. ((tt, refl, ordinary _ refl), refl, refl)))
no_operand_named a RESET n l = (omega arith, named refl (λ v. refl) (λ v s. ((tt, refl, ordinary _ refl), refl, refl)))
no_operand_named a RTR n l = (omega arith, named refl (λ v. refl) (λ v s. ((tt, refl, ordinary _ refl), refl, refl)))
no_operand_named a TRAPV n l = (omega arith, named refl (λ v. refl) (λ v s. ((tt, refl, ordinary _ refl), refl, refl)))
no_operand_named a ILLEGAL n l = true_not_false refl n
no_operand_named a RTS n l = (omega arith, named refl (λ v. refl) (λ v s. ((tt, refl, ordinary _ refl), refl, refl)))
no_operand_named a NOP n l = (omega arith, named refl (λ v. refl) (λ v s. ((tt, refl, ordinary _ refl), refl, refl)))
no_operand_named a SIMHALT n l = absurd (l.1 refl)

-- ---- T1
named_reads : {a ea : ℕ} {k : Specifier} {j : ℕ → Instruction} (i : Instruction) (v : ℕ) → ea < 64 → Named a ea k j → SpecifierStands k v → j v ≡ i → Reads a i
unfolding group_at map
named_reads {a} {ea} {k} {j} i v he (named l m n) sp e =
    subst (Reads a) e (alone-reads a (j v) ea k v (at_code group.System 4 7 1 refl) he l sp (ap ret (m v)) (n v sp))

pub trap_reads : (a n : ℕ) → Accepted a (Vector TRAP n) → Reads a (Vector TRAP n)
unfolding vector_parts
trap_reads a n h =
    let l = ltb_is n 16 (sym (trap_vector_holds n) ∙ (checked a (Vector TRAP n) h).0) in
    named_reads (Vector TRAP n) 0 (omega arith) (trap_named a n l) refl refl

pub link_reads : (a : ℕ) (r : RegisterOperand) (d : ℕ) → Accepted a (Link LINK r d) → Reads a (Link LINK r d)
unfolding links_parts link_parts
link_reads a r d h =
    let (p, (g, z)) = checked a (Link LINK r d) h in
    let (n, l, q) = address_is r p in
    rw q (named_reads (Link LINK (Address n) d) (bits_of (signed32 d) % 65536) (omega arith) (link_named a n l) (omega arith, refl)
    (rw (extended-word d h.0 (sym (link_displacement_holds (signed32 d)) ∙ g))))

pub unlk_reads : (a : ℕ) (r : RegisterOperand) → Accepted a (UNLK r) → Reads a (UNLK r)
unfolding unlk_parts
unlk_reads a r h =
    let (n, l, q) = address_is r (checked a (UNLK r) h).0 in
    rw q (named_reads (UNLK (Address n)) 0 (omega arith) (unlk_named a n l) refl refl)

pub moveusp_reads : (a : ℕ) (to : Bool) (r : RegisterOperand) → Accepted a (MOVEUSP to r) → Reads a (MOVEUSP to r)
unfolding moveusp_parts
moveusp_reads a to r h =
    let (n, l, q) = address_is r (checked a (MOVEUSP to r) h).0 in
    rw q (named_reads (MOVEUSP to (Address n)) 0 (cond_lt to n l) (moveusp_named a to n l) refl refl)
  where
    cond_lt : (b : Bool) (n : ℕ) → n < 8 → cond b 32 40 + n < 64
    cond_lt true n h = omega arith
    cond_lt false n h = omega arith

pub plain-reads : (a : ℕ) (op : NoOperandOperation) → is_illegal op ≡ false → Accepted a (NoOperand op) → Reads a (NoOperand op)
plain-reads a op n h =
    let t = no_operand_named a op n h.2 in
    named_reads (NoOperand op) 0 t.0 t.1 refl refl

pub stop_reads : (a v : ℕ) → Accepted a (Status STOP v) → Reads a (Status STOP v)
stop_reads a v (u, e, l) =
    let w : v % 65536 ≡ v = omega arith in
    named_reads (Status STOP v) v (omega arith) (stop_named a) (u, refl) (rw w)

pub rtd_reads : (a d : ℕ) → Accepted a (RTD d) → Reads a (RTD d)
unfolding rtd_parts
rtd_reads a d h =
    let g = sym (rtd_displacement_holds (signed32 d)) ∙ (checked a (RTD d) h).0 in
    named_reads (RTD d) (bits_of (signed32 d) % 65536) (omega arith) (rtd_named a) (omega arith, refl) (rw (extended-word d h.0 g))

-- an instruction of the same words and plain form; MOVEC's control number is taken modulo 4,096
reads_alike : (a : ℕ) (i j : Instruction) → plain j ≡ plain i → words_of i a ≡ words_of j a → Reads a j → Reads a i
reads_alike a i j p w (reads s line x opmode ea f hl hx ho he e h q y) =
    reads s line x opmode ea f hl hx ho he e h (q ∙ ap (λ (i : Instruction). ret i) p) (w ∙ y)

movec_fields : (g c : ℕ) → g < 16 → c < 4096 → ((g * 4096 + c) % 4096 ≡ c) × ((g * 4096 + c) / 4096 % 16 ≡ g)
movec_fields g c h l = (omega arith, omega arith)

pub movec_reads : (a : ℕ) (to : Bool) (c : ℕ) (r : RegisterOperand) → Accepted a (MOVEC to c r) → Reads a (MOVEC to c r)
unfolding movec_parts
movec_reads a to c r h =
    let m : c % 4096 % 4096 ≡ c % 4096 = omega arith in
    let g = general_lt r in
    let (p, q) = movec_fields (general r) (c % 4096) g (omega arith) in
    reads_alike a (MOVEC to c r) (MOVEC to (c % 4096) r) (rw m) (rw m)
    (named_reads (MOVEC to (c % 4096) r) (general r * 4096 + c % 4096) (bit_lt to) (movec_named a to) (omega arith, refl)
    (rw (p, q, general_of_lem r (number_lt (number_of_register r) (checked a (MOVEC to c r) h).0))))
  where
    bit_lt : (b : Bool) → 58 + bit b < 64
    bit_lt true = omega arith
    bit_lt false = omega arith

-- ---- T2
abbrev Right : ℕ → Tail → ℕ → Type 0
Right a f ea =
    (i : Instruction) → TailStands a (system_layout ea) f → ◌≡◌ {A = Tree Instruction} (ret (system_decoded ea f.value)) (ret i)
    → Encodes a i (word_of 4 7 1 ea ∷ tail_words a (system_layout ea) f)

module _ (a : ℕ) (f : Tail) where
  named_right : {ea : ℕ} {k : Specifier} {j : ℕ → Instruction} → Named a ea k j → Right a f ea
  named_right {ea} {k} {j} (named l m n) i h r =
      let g = subst (λ (y : Layout). TailStands a y f) l h in
      rw l (decoded_as a i (j f.value) _ _ _ (ap ret (sym (m f.value)) ∙ r) refl
      (alone_encodes a (j f.value) (word_of 4 7 1 ea) k f g (n f.value g.1)))

  none_right : (ea : ℕ) → system_layout ea ≡ no_layout → Right a f ea
  none_right ea e i h r = absurd (false≢true (subst (λ (m : Layout). TailStands a m f) e h).0)

  plain_right : (op : NoOperandOperation) → is_illegal op ≡ false → is_ordinary (NoOperand op) ≡ true → Right a f (plain_code op)
  plain_right op n l = named_right (no_operand_named a op n (ordinary (NoOperand op) l)).1

  return_right : (n : ℕ) → n < 8 → Right a f (48 + n)
  return_right =
      each_eight (λ n. Right a f (48 + n)) (plain_right RESET refl refl) (plain_right NOP refl refl) (named_right (stop_named a)) (plain_right RTE refl refl)
      (named_right (rtd_named a)) (plain_right RTS refl refl) (plain_right TRAPV refl refl) (plain_right RTR refl refl)

  last_right : (n : ℕ) → n < 8 → Right a f (56 + n)
  last_right =
      each_eight (λ n. Right a f (56 + n)) (none_right 56 refl) (none_right 57 refl) (named_right (movec_named a false)) (named_right (movec_named a true))
      (none_right 60 refl) (none_right 61 refl) (none_right 62 refl) (none_right 63 refl)

  row_right : (m : ℕ) → m < 8 → (n : ℕ) → n < 8 → Right a f (m * 8 + n)
  row_right =
      each_eight (λ m. (n : ℕ) → n < 8 → Right a f (m * 8 + n))
      (λ n h. named_right (trap_named a (0 + n) (omega arith)))
      (λ n h. named_right (trap_named a (8 + n) (omega arith)))
      (λ n h. named_right (link_named a n h))
      (λ n h. named_right (unlk_named a n h))
      (λ n h. named_right (moveusp_named a true n h))
      (λ n h. named_right (moveusp_named a false n h))
      return_right last_right

pub system_sound : Sound group.System
unfolding map
system_sound a line x opmode ea hl hx ho he e f h p i r =
    let (l, (k, (o, u))) = in_group group.System (λ l x o. equal l 4 ∷ equal x 7 ∷ equal o 1 ∷ []) refl line x opmode e in
    let z : ea / 8 * 8 + ea % 8 ≡ ea = omega arith in
    rw (l, k, o) (subst (Right a f) z (row_right a f (ea / 8) (omega arith) (ea % 8) (omega arith)) i h r)

-- ---- LINEA LINEF
abbrev Raws : ℕ → RawOperation → ℕ → Type 0
Raws a op line = (w : ℕ) → w < 65536 → w / 4096 ≡ line → Encodes a (Raw op w) (w ∷ [])

line_a_encodes : (a : ℕ) → Raws a LINEA 10
unfolding raw_parts
line_a_encodes a w h e = ((h, passed (items_of (Raw LINEA w) a) (true_unless (eqb (w / 4096) 10) malformed (eqb_is (w / 4096) 10 e), tt), ordinary _ refl), refl, refl)

line_f_encodes : (a : ℕ) → Raws a LINEF 15
unfolding raw_parts
line_f_encodes a w h e = ((h, passed (items_of (Raw LINEF w) a) (true_unless (eqb (w / 4096) 15) malformed (eqb_is (w / 4096) 15 e), tt), ordinary _ refl), refl, refl)

-- a word of a line
raw_at : (a : ℕ) (op : RawOperation) (sh : Group) (line w : ℕ) → w < 65536 → unless (eqb (w / 4096) line) malformed ≡ fine → Raws a op line
    → ((x opmode : ℕ) → x < 8 → opmode < 8 → At sh line x opmode)
    → ((x opmode ea : ℕ) → (layout_of sh line x opmode ea ≡ bare) × (decoded a sh line x opmode ea 0 missing missing ≡ ret (Raw op (word_of line x opmode ea))))
    → Reads a (Raw op w)
raw_at a op sh line w h e c s l =
    let n = eqb_eq (w / 4096) line (unless_malformed (eqb (w / 4096) line) e) in
    let x = w / 512 % 8 in
    let opmode = w / 64 % 8 in
    let m : word_of line x opmode (w % 64) ≡ w = omega arith in
    let y = l x opmode (w % 64) in
    alone-reads a (Raw op w) (w % 64) specifier.Nothing 0 (s x opmode (omega arith) (omega arith)) (omega arith) y.0 refl
    (y.1 ∙ ap (λ (u : ℕ). ret (Raw op u)) m) (rw m (c w h n))

pub raw_reads : (a : ℕ) (op : RawOperation) (w : ℕ) → Accepted a (Raw op w) → Reads a (Raw op w)
unfolding group_at map raw_parts
raw_reads a LINEA w h =
    raw_at a LINEA group.LineA 10 w h.0 (checked a (Raw LINEA w) h).0 (line_a_encodes a)
    (λ x o hx ho. at_line group.LineA 10 (λ o. true) refl x o hx ho refl) (λ x o ea. (refl, refl))
raw_reads a LINEF w h =
    raw_at a LINEF group.LineF 15 w h.0 (checked a (Raw LINEF w) h).0 (line_f_encodes a)
    (λ x o hx ho. at_line group.LineF 15 (λ o. true) refl x o hx ho refl) (λ x o ea. (refl, refl))
raw_reads a IllegalWord w h = absurd (h.2.0 w refl)

pub line_a_sound : Sound group.LineA
unfolding map
line_a_sound a line x opmode ea hl hx ho he e f h p i r =
    let (l, u) = in_group group.LineA (λ l x o. equal l 10 ∷ []) refl line x opmode e in
    let w = word_of line x opmode ea in
    decoded_as a i (Raw LINEA w) _ _ _ r refl (alone_encodes a (Raw LINEA w) w specifier.Nothing f h (line_a_encodes a w (omega arith) (omega arith)))

pub line_f_sound : Sound group.LineF
unfolding map
line_f_sound a line x opmode ea hl hx ho he e f h p i r =
    let (l, u) = in_group group.LineF (λ l x o. equal l 15 ∷ []) refl line x opmode e in
    let w = word_of line x opmode ea in
    decoded_as a i (Raw LINEF w) _ _ _ r refl (alone_encodes a (Raw LINEF w) w specifier.Nothing f h (line_f_encodes a w (omega arith) (omega arith)))
