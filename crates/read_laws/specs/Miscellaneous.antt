-- Line 0100: NEGX CLR NEG NOT TST; PEA NBCD JSR JMP TAS, and MOVE to and from CCR and SR; ILLEGAL, LINK with a long, SWAP, BKPT; MOVEM,
-- EXT; LEA and CHK.
use Rattle.std.specs.Prelude.{ℕ, ◌+◌, ◌*◌, ◌-◌, ◌/◌, ◌%◌, ◌^◌, ◌<◌, ◌≡◌, refl, Bool, true, false, not, ◌&&◌, cond, [], ◌∷◌, ltb, eqb}
use Rattle.std.proofs.Common.{ap, sym, ◌∙◌, arith}
use Rattle.std.proofs.lemmas.Bool.{false≢true}
use Rattle.isa.specs.declared.Size.{Size}
use Rattle.isa.specs.declared.Size.TheVariants.{Byte, Word, Long}
use Rattle.isa.specs.declared.RegisterOperand.{RegisterOperand}
use Rattle.isa.specs.declared.RegisterOperand.TheVariants.{Address, Data}
use Rattle.isa.specs.declared.TargetDirection.{TargetDirection}
use Rattle.isa.specs.declared.TargetDirection.TheVariants.{ToMemory, FromMemory}
use Rattle.isa.specs.declared.Operand.{Operand}
use Rattle.isa.specs.declared.OneOperation.{OneOperation}
use Rattle.isa.specs.declared.OneOperation.TheVariants.{CLR, NEG, NEGX, NOT, TST}
use Rattle.isa.specs.declared.UnsizedOneOperation.{UnsizedOneOperation}
use Rattle.isa.specs.declared.UnsizedOneOperation.TheVariants.{PEA, NBCD, JSR, JMP, TAS, MOVEtoCCR, MOVEfromCCR, MOVEtoSR, MOVEfromSR}
use Rattle.isa.specs.declared.UnsizedRegisterOperation.{UnsizedRegisterOperation}
use Rattle.isa.specs.declared.UnsizedRegisterOperation.TheVariants.{LEA, CHK, CHKL}
use Rattle.isa.specs.declared.NoOperandOperation.TheVariants.{ILLEGAL}
use Rattle.isa.specs.declared.VectorOperation.TheVariants.{BKPT}
use Rattle.isa.specs.declared.LinkOperation.TheVariants.{LINKL}
use Rattle.isa.specs.declared.Instruction.{Instruction}
use Rattle.isa.specs.declared.Instruction.TheVariants.{OneOperand, UnsizedOne, UnsizedIntoRegister, NoOperand, Link, SWAP, Vector, EXT, MOVEM}
use Rattle.encode_spec.specs.Item.{word, allow, no_encoding, data_register, address_register}
use Rattle.isa_spec.specs.Code.{unsized_size, unsized_register_size, size_code, is_byte, long_bit, from_memory, register_bits}
use Rattle.isa_spec.specs.Mode.{every_column, data_column, control_column, bits}
use Rattle.encode_facts.specs.Columns.{movem_column}
use Rattle.encode_spec.specs.Ea.{data_alterable, movem_to_memory, byte_of_address, ea_field, single, with_data, with_address}
use Rattle.encode_spec.specs.Movement.{movem_modes, movem_reason, movem_parts, linkl_parts}
use Rattle.encode_spec.specs.Arithmetic.{tst_parts, ext_opmode, ext_parts, swap_parts}
use Rattle.encode_spec.specs.System.{no_operand_parts, vector_parts}
use Rattle.encode_spec.specs.Instruction.{one_parts, unsized_one_parts, unsized_register_parts, links_parts}
use Rattle.encode_spec.specs.Encode.{items_of}
use Rattle.read_spec.specs.declared.Group.TheVariants as group
use Rattle.read_spec.specs.declared.Specifier.TheVariants as specifier
use Rattle.read_spec.specs.declared.Tail.{Tail}
use Rattle.read_spec.specs.Tree.{ret}
use Rattle.read_spec.specs.Layout.{one, alone, bare}
use Rattle.read_spec.specs.Modes.{readable_modes, movem_modes_at, unsized_modes}
use Rattle.read_spec.specs.Layouts.{unsized_layout}
use Rattle.read_spec.specs.Map.{group_at, map}
use Rattle.read_spec.specs.Operand.{permitted}
use Rattle.read_spec.specs.Operation.{size_at, one_at, unsized_at, to_memory_at}
use Rattle.read_spec.specs.Decoded.{word_of}
use Rattle.read_operand_laws.specs.TailStands.{TailStands, tail_words, plain_tail}
use Rattle.read_operand_laws.specs.Facts.{breakpoint_vector_holds}
use Rattle.encode_facts.specs.Items.{lt_number, true_unless, unless_reason}
use Rattle.read_laws.specs.Statements.{Reads, Encodes, Sound}
use Rattle.read_spec.specs.Accepted.{Accepted}
use Rattle.read_laws.specs.Tests.{equal, yes, no, implies, modes_say}
use Rattle.read_laws.specs.MapLaws.{At, at_code, at_registers, at_sizes, in_group, size_code_lem}
use Rattle.read_laws.specs.LayingLaws.{Passing, passed, checked, Laying, form_byte, laying_reads, laying_encodes, decoded_as, word_as, alone-reads, alone_encodes, either_encodes, form_word, form_bare, form_behind}
use Rattle.read_laws.specs.Operands.{data_is, address_is, data_bits, address_bits}
use Rattle.base_facts.specs.Tests.{Lt, less, past, lt?, and-true, ltb-true, ltb_not, ltb_is, eqb_eq, and-false}
use Rattle.isa_facts.specs.Ordinary.{ordinary}

-- ---- NEGX CLR NEG NOT TST: bits 11 to 9
abbrev one_code : OneOperation → ℕ
one_code CLR = 1
one_code NEG = 2
one_code NEGX = 0
one_code NOT = 3
one_code TST = 5

abbrev one_modes : OneOperation → Size → ℕ
one_modes op s = cond (eqb (one_code op) 5) (readable_modes s) (bits data_alterable)

one_laying : (a : ℕ) (op : OneOperation) (o : Operand) (s : Size) (v : ℕ)
    → Laying a (OneOperand op o s) 4 (one_code op) (size_code s) specifier.Nothing s (one_modes op s) v o (Unit {0})
unfolding one_parts tst_parts single
one_laying a CLR o s v = form_bare [] 54 refl refl
one_laying a NEG o s v = form_bare [] 54 refl refl
one_laying a NEGX o s v = form_bare [] 54 refl refl
one_laying a NOT o s v = form_bare [] 54 refl refl
one_laying a TST o s v =
    form_byte (bits every_column) (bits data_column) 7 refl
    (form_behind [] (allow (not (byte_of_address s o)) 7 ∷ []) [] 12 refl refl refl)

one_code_lem : (op : OneOperation) → (one_at (one_code op) ≡ op) × ((s : Size) → At group.OneOperand 4 (one_code op) (size_code s))
unfolding group_at map
one_code_lem CLR = (refl, at_sizes group.OneOperand 4 1 refl)
one_code_lem NEG = (refl, at_sizes group.OneOperand 4 2 refl)
one_code_lem NEGX = (refl, at_sizes group.OneOperand 4 0 refl)
one_code_lem NOT = (refl, at_sizes group.OneOperand 4 3 refl)
one_code_lem TST = (refl, at_sizes group.OneOperand 4 5 refl)

pub one-operand-reads : (a : ℕ) (op : OneOperation) (o : Operand) (s : Size) → Accepted a (OneOperand op o s) → Reads a (OneOperand op o s)
one-operand-reads a op o s (n, e, l) =
    let c = one_code_lem op in
    laying_reads (one_laying a op o s 0) (c.1 s) e n (λ d m. (rw (size_code_lem s), refl, rw (c.0, size_code_lem s)))

pub one-operand_sound : Sound group.OneOperand
unfolding map
one-operand_sound a line x opmode ea hl hx ho he e f h p i r =
    let (c, (k, (l, u))) = in_group group.OneOperand (λ l x o. equal (one_code (one_at x)) x ∷ equal (size_code (size_at o)) o ∷ equal l 4 ∷ []) refl line
    x opmode e in
    let op = one_at x in
    let s = size_at opmode in
    decoded_as a i (OneOperand op f.source s) _ _ _ r (rw (c, k, l))
    (laying_encodes ea f (one_laying a op f.source s f.value) tt (rw c h) p (λ n. n) refl (λ e. rw e))

-- ---- PEA NBCD JSR JMP TAS, and MOVE to and from CCR and SR: bits 11 to 9, and bits 8 to 6
abbrev code_of : UnsizedOneOperation → ℕ
code_of PEA = 4
code_of NBCD = 4
code_of JSR = 7
code_of JMP = 7
code_of TAS = 5
code_of MOVEtoCCR = 2
code_of MOVEfromCCR = 1
code_of MOVEtoSR = 3
code_of MOVEfromSR = 0

abbrev opmode_of : UnsizedOneOperation → ℕ
opmode_of PEA = 1
opmode_of NBCD = 0
opmode_of JSR = 2
opmode_of JMP = 3
opmode_of TAS = 3
opmode_of MOVEtoCCR = 3
opmode_of MOVEfromCCR = 3
opmode_of MOVEtoSR = 3
opmode_of MOVEfromSR = 3

unsized_laying : (a : ℕ) (op : UnsizedOneOperation) (o : Operand) (v : ℕ)
    → Laying a (UnsizedOne op o) 4 (code_of op) (opmode_of op) specifier.Nothing (unsized_size op) (unsized_modes op) v o (Unit {0})
unfolding unsized_one_parts single
unsized_laying a PEA o v = form_bare [] 18 refl refl
unsized_laying a NBCD o v = form_bare [] 17 refl refl
unsized_laying a JSR o v = form_bare [] 25 refl refl
unsized_laying a JMP o v = form_bare [] 26 refl refl
unsized_laying a TAS o v = form_bare [] 23 refl refl
unsized_laying a MOVEtoCCR o v = form_bare [] 15 refl refl
unsized_laying a MOVEfromCCR o v = form_bare [] 14 refl refl
unsized_laying a MOVEtoSR o v = form_bare [] 16 refl refl
unsized_laying a MOVEfromSR o v = form_bare [] 13 refl refl

-- SWAP, BKPT, LINK and ILLEGAL stand where these have no mode
pub unsized-one-reads : (a : ℕ) (op : UnsizedOneOperation) (o : Operand) → Accepted a (UnsizedOne op o) → Reads a (UnsizedOne op o)
unfolding group_at map
unsized-one-reads a PEA o (n, e, l) =
    laying_reads (unsized_laying a PEA o 0) (at_code group.PeaSwapBkpt 4 4 1 refl) e n (λ c m.
    let (t, (u, z)) = modes_say (bits control_column) (λ ea. no (ltb ea 16) ∷ no (ltb ea 8) ∷ []) refl (ea_field o) m in
    (rw t, refl, rw (t, u)))
unsized-one-reads a NBCD o (n, e, l) =
    laying_reads (unsized_laying a NBCD o 0) (at_code group.NbcdLink 4 4 0 refl) e n (λ c m.
    let t = (modes_say (bits data_alterable) (λ ea. no (eqb (ea / 8) 1) ∷ []) refl (ea_field o) m).0 in
    (rw t, refl, rw t))
unsized-one-reads a JSR o (n, e, l) = laying_reads (unsized_laying a JSR o 0) (at_code group.UnsizedOneIllegal 4 7 2 refl) e n (λ c m. (refl, refl, refl))
unsized-one-reads a JMP o (n, e, l) = laying_reads (unsized_laying a JMP o 0) (at_code group.UnsizedOneIllegal 4 7 3 refl) e n (λ c m. (refl, refl, refl))
unsized-one-reads a TAS o (n, e, l) =
    laying_reads (unsized_laying a TAS o 0) (at_code group.UnsizedOneIllegal 4 5 3 refl) e n (λ c m.
    let t = (modes_say (bits data_alterable) (λ ea. no (eqb ea 60) ∷ []) refl (ea_field o) m).0 in
    (rw t, refl, rw t))
unsized-one-reads a MOVEtoCCR o (n, e, l) = laying_reads (unsized_laying a MOVEtoCCR o 0) (at_code group.UnsizedOneIllegal 4 2 3 refl) e n (λ c m. (refl, refl, refl))
unsized-one-reads a MOVEfromCCR o (n, e, l) = laying_reads (unsized_laying a MOVEfromCCR o 0) (at_code group.UnsizedOneIllegal 4 1 3 refl) e n (λ c m. (refl, refl, refl))
unsized-one-reads a MOVEtoSR o (n, e, l) = laying_reads (unsized_laying a MOVEtoSR o 0) (at_code group.UnsizedOneIllegal 4 3 3 refl) e n (λ c m. (refl, refl, refl))
unsized-one-reads a MOVEfromSR o (n, e, l) = laying_reads (unsized_laying a MOVEfromSR o 0) (at_code group.UnsizedOneIllegal 4 0 3 refl) e n (λ c m. (refl, refl, refl))

unsized_encodes : (a ea : ℕ) (op : UnsizedOneOperation) (f : Tail) → TailStands a (unsized_layout op ea) f → plain_tail (unsized_layout op ea).size f ≡ f
    → Encodes a (UnsizedOne op f.source) (word_of 4 (code_of op) (opmode_of op) ea ∷ tail_words a (unsized_layout op ea) f)
unsized_encodes a ea op f h p = laying_encodes ea f (unsized_laying a op f.source f.value) tt h p (λ n. n) refl (λ e. rw e)

-- ---- ILLEGAL
illegal_encodes : (a : ℕ) → Encodes a (NoOperand ILLEGAL) (word_of 4 5 3 60 ∷ [])
unfolding no_operand_parts
illegal_encodes a = ((tt, refl, ordinary _ refl), refl, refl)

pub illegal_reads : (a : ℕ) → Accepted a (NoOperand ILLEGAL) → Reads a (NoOperand ILLEGAL)
unfolding group_at map
illegal_reads a h = alone-reads a (NoOperand ILLEGAL) 60 specifier.Nothing 0 (at_code group.UnsizedOneIllegal 4 5 3 refl) (omega arith) refl refl refl (illegal_encodes a)

pub unsized-one_illegal_sound : Sound group.UnsizedOneIllegal
unfolding map
unsized-one_illegal_sound a line x opmode ea hl hx ho he e f h p i r =
    let (w, (t, u)) = in_group group.UnsizedOneIllegal (λ l x o. equal (word_of 4 (code_of (unsized_at x o)) (opmode_of (unsized_at x o)) 0) (word_of l x o 0)
    ∷ yes (implies (eqb x 5) (eqb (word_of l x o 0) (word_of 4 5 3 0))) ∷ []) refl line x opmode e in
    let op = unsized_at x opmode in
    either_encodes a i (NoOperand ILLEGAL) (UnsizedOne op f.source) (word_of line x opmode ea) (eqb x 5 && eqb ea 60) bare (unsized_layout op ea) f h r
    (λ q g.
    let (y, z) = and-true (eqb x 5) _ q in
    let v = eqb_eq (word_of line x opmode 0) (word_of 4 5 3 0) (rw y at t) in
    word_as a (NoOperand ILLEGAL) _ (word_of 4 5 3 60) _ (omega (arith, v, eqb_eq ea 60 z))
    (alone_encodes a (NoOperand ILLEGAL) _ specifier.Nothing f g (illegal_encodes a)))
    (λ q g. word_as a (UnsizedOne op f.source) _ _ _ (omega (arith, w)) (unsized_encodes a ea op f g (rw q at p)))

-- ---- LINK with a long, which stands where NBCD has no mode
linkl_encodes : (a n d : ℕ) → n < 8 → d < 2 ^ 32 → Encodes a (Link LINKL (Address n) d) (word_of 4 4 0 (8 + n) ∷ d / 65536 ∷ d % 65536 ∷ [])
unfolding links_parts linkl_parts
linkl_encodes a n d h l =
    let e : n % 8 ≡ n = omega arith in
    ((l, passed (items_of (Link LINKL (Address n) d) a) (lt_number n h, tt), ordinary _ refl), refl, rw e)

pub linkl_reads : (a : ℕ) (r : RegisterOperand) (d : ℕ) → Accepted a (Link LINKL r d) → Reads a (Link LINKL r d)
unfolding group_at map links_parts linkl_parts
linkl_reads a r d h =
    let (n, l, q) = address_is r (checked a (Link LINKL r d) h).0 in
    let e : (8 + n) / 8 ≡ 1 = omega arith in
    let k : (8 + n) % 8 ≡ n = omega arith in
    rw q (alone-reads a (Link LINKL (Address n) d) (8 + n) specifier.Long d (at_code group.NbcdLink 4 4 0 refl) (omega arith) (rw e) (h.0, refl, refl) (rw (e, k))
    (linkl_encodes a n d l h.0))

pub nbcd_link_sound : Sound group.NbcdLink
unfolding map
nbcd_link_sound a line x opmode ea hl hx ho he e f h p i r =
    let (w, u) = in_group group.NbcdLink (λ l x o. equal (word_of l x o 0) (word_of 4 4 0 0) ∷ []) refl line x opmode e in
    let j = Link LINKL (Address (ea % 8)) f.value in
    either_encodes a i j (UnsizedOne NBCD f.source) (word_of line x opmode ea) (eqb (ea / 8) 1) (alone specifier.Long) (unsized_layout NBCD ea) f h r
    (λ q g. word_as a j _ _ _ (omega (arith, w, eqb_eq (ea / 8) 1 q)) (alone_encodes a j _ specifier.Long f g
    (linkl_encodes a (ea % 8) f.value (omega arith) g.1.0)))
    (λ q g. word_as a (UnsizedOne NBCD f.source) _ _ _ (omega (arith, w)) (unsized_encodes a ea NBCD f g (rw q at p)))

-- ---- SWAP and BKPT, which stand where PEA has no mode
swap_encodes : (a n : ℕ) → n < 8 → Encodes a (SWAP (Data n)) (word_of 4 4 1 n ∷ [])
unfolding swap_parts
swap_encodes a n h = let e : n % 8 ≡ n = omega arith in ((tt, passed (items_of (SWAP (Data n)) a) (lt_number n h, tt), ordinary _ refl), refl, rw e)

pub swap_reads : (a : ℕ) (r : RegisterOperand) → Accepted a (SWAP r) → Reads a (SWAP r)
unfolding group_at map swap_parts
swap_reads a r h =
    let (n, l, q) = data_is r (checked a (SWAP r) h).0 in
    rw q (alone-reads a (SWAP (Data n)) n specifier.Nothing 0 (at_code group.PeaSwapBkpt 4 4 1 refl) (omega arith)
    (rw (ltb-true n 16 (omega arith))) refl (rw (ltb-true n 8 l)) (swap_encodes a n l))

bkpt_encodes : (a v : ℕ) → v < 8 → Encodes a (Vector BKPT v) (word_of 4 4 1 (8 + v) ∷ [])
unfolding vector_parts
bkpt_encodes a v h =
    let e : v % 8 ≡ v = omega arith in
    ((tt, passed (items_of (Vector BKPT v) a) (breakpoint_vector_holds v ∙ ltb-true v 8 h, tt), ordinary _ refl), refl, rw e)

pub bkpt_reads : (a v : ℕ) → Accepted a (Vector BKPT v) → Reads a (Vector BKPT v)
unfolding group_at map vector_parts
bkpt_reads a v h =
    let l = ltb_is v 8 (sym (breakpoint_vector_holds v) ∙ (checked a (Vector BKPT v) h).0) in
    let k : (8 + v) % 8 ≡ v = omega arith in
    let m = ltb-true (8 + v) 16 (omega arith) in
    alone-reads a (Vector BKPT v) (8 + v) specifier.Nothing 0 (at_code group.PeaSwapBkpt 4 4 1 refl) (omega arith) (rw m) refl
    (rw (ltb_not (8 + v) 8 (omega arith), m, k)) (bkpt_encodes a v l)

-- below 16 are SWAP and BKPT
abbrev swap_or : ℕ → Instruction
swap_or ea = cond (ltb ea 8) (SWAP (Data ea)) (Vector BKPT (ea % 8))

swap_or_encodes : (a ea : ℕ) → ea < 16 → Encodes a (swap_or ea) (word_of 4 4 1 ea ∷ [])
swap_or_encodes a ea h = go (lt? ea 8)
  where
    go : Lt ea 8 → Encodes a (swap_or ea) (word_of 4 4 1 ea ∷ [])
    go (less l e) = rw e (swap_encodes a ea l)
    go (past l e) = let m : 8 + ea % 8 ≡ ea = omega arith in rw e (rw m at (bkpt_encodes a (ea % 8) (omega arith)))

nested : {A : Type 0} (b c : Bool) (x y z : A) → (b ≡ true → c ≡ true) → cond b x (cond c y z) ≡ cond c (cond b x y) z
nested true true x y z h = refl
nested true false x y z h = absurd (false≢true (h refl))
nested false true x y z h = refl
nested false false x y z h = refl

pub pea_swap_bkpt_sound : Sound group.PeaSwapBkpt
unfolding map
pea_swap_bkpt_sound a line x opmode ea hl hx ho he e f h p i r =
    let (w, u) = in_group group.PeaSwapBkpt (λ l x o. equal (word_of l x o 0) (word_of 4 4 1 0) ∷ []) refl line x opmode e in
    let n = nested (ltb ea 8) (ltb ea 16) (SWAP (Data ea)) (Vector BKPT (ea % 8)) (UnsizedOne PEA f.source)
    (λ q. ltb-true ea 16 (omega (arith, ltb_is ea 8 q))) in
    either_encodes a i (swap_or ea) (UnsizedOne PEA f.source) (word_of line x opmode ea) (ltb ea 16) bare (unsized_layout PEA ea) f h
    (ap (λ (j : Instruction). ret j) (sym n) ∙ r)
    (λ q g. word_as a (swap_or ea) _ _ _ (omega (arith, w)) (alone_encodes a (swap_or ea) _ specifier.Nothing f g (swap_or_encodes a ea (ltb_is ea 16 q))))
    (λ q g. word_as a (UnsizedOne PEA f.source) _ _ _ (omega (arith, w)) (unsized_encodes a ea PEA f g (rw q at p)))

-- ---- EXT: the three extensions there are
abbrev Extends : Size → Size → Type 0
Extends from to = not (eqb (ext_opmode from to) 0) ≡ true

ext_encodes : (a n : ℕ) (from to : Size) → n < 8 → Extends from to → Encodes a (EXT (Data n) from to) (word_of 4 4 (ext_opmode from to) n ∷ [])
unfolding ext_parts
ext_encodes a n from to h e =
    let m : n % 8 ≡ n = omega arith in
    ((tt, passed (items_of (EXT (Data n) from to) a) (true_unless (not (eqb (ext_opmode from to) 0)) (no_encoding 19) e, (lt_number n h, tt)), ordinary _ refl), refl, rw m)

ext_at : (a n : ℕ) (from to : Size) → n < 8 → Extends from to → Reads a (EXT (Data n) from to)
unfolding group_at map
ext_at a n Byte Byte h e = absurd (false≢true e)
ext_at a n Byte Word h e =
    let l = ltb-true n 8 h in
    alone-reads a (EXT (Data n) Byte Word) n specifier.Nothing 0 (at_code group.MovemExt 4 4 2 refl) (omega arith) (rw l) refl (rw l)
    (ext_encodes a n Byte Word h e)
ext_at a n Byte Long h e =
    let l = ltb-true n 8 h in
    alone-reads a (EXT (Data n) Byte Long) n specifier.Nothing 0 (at_code group.LeaExtb 4 4 7 refl) (omega arith) (rw l) refl (rw l) (ext_encodes a n Byte Long h e)
ext_at a n Word Byte h e = absurd (false≢true e)
ext_at a n Word Word h e = absurd (false≢true e)
ext_at a n Word Long h e =
    let l = ltb-true n 8 h in
    alone-reads a (EXT (Data n) Word Long) n specifier.Nothing 0 (at_code group.MovemExt 4 4 3 refl) (omega arith) (rw l) refl (rw l)
    (ext_encodes a n Word Long h e)
ext_at a n Long Byte h e = absurd (false≢true e)
ext_at a n Long Word h e = absurd (false≢true e)
ext_at a n Long Long h e = absurd (false≢true e)

pub ext_reads : (a : ℕ) (r : RegisterOperand) (from to : Size) → Accepted a (EXT r from to) → Reads a (EXT r from to)
unfolding ext_parts
ext_reads a r from to h =
    let c = checked a (EXT r from to) h in
    let (n, l, q) = data_is r c.1.0 in
    rw q (ext_at a n from to l (unless_reason (not (eqb (ext_opmode from to) 0)) 19 c.0))

-- ---- MOVEM: bits 11 to 9, and bits 8 to 6
abbrev movem_code : TargetDirection → ℕ
movem_code direction = 4 + 2 * from_memory direction

abbrev movem_opmode : Size → ℕ
movem_opmode s = 2 + long_bit s

movem_laying : (a : ℕ) (direction : TargetDirection) (s : Size) (mask : ℕ) (o : Operand)
    → Laying a (MOVEM direction s mask o) 4 (movem_code direction) (movem_opmode s) specifier.Word s (bits (movem_modes direction)) mask o
    (Passing (allow (not (is_byte s)) 20 ∷ []))
unfolding movem_parts
movem_laying a direction s mask o =
    form_word (allow (not (is_byte s)) 20 ∷ word mask ∷ []) (movem_reason direction) (rw (movem_column direction)) refl refl

movem_code_lem : (direction : TargetDirection) (s : Size) → not (is_byte s) ≡ true
    → At group.MovemExt 4 (movem_code direction) (movem_opmode s) × (to_memory_at (5 - movem_code direction) ≡ direction) × (size_at (movem_opmode s - 1) ≡ s)
    × (movem_modes_at (movem_code direction) ≡ bits (movem_modes direction))
unfolding group_at map
movem_code_lem direction Byte z = absurd (false≢true z)
movem_code_lem ToMemory Word z = (at_code group.MovemExt 4 4 2 refl, refl, refl, refl)
movem_code_lem ToMemory Long z = (at_code group.MovemExt 4 4 3 refl, refl, refl, refl)
movem_code_lem FromMemory Word z = (at_code group.MovemExt 4 6 2 refl, refl, refl, refl)
movem_code_lem FromMemory Long z = (at_code group.MovemExt 4 6 3 refl, refl, refl, refl)

-- EXT stands where MOVEM to memory has no mode
not_ext : (direction : TargetDirection) (ea : ℕ) → permitted (bits (movem_modes direction)) ea ≡ true → eqb (movem_code direction) 4 && ltb ea 8 ≡ false
not_ext ToMemory ea m = (modes_say (bits movem_to_memory) (λ ea. no (ltb ea 8) ∷ []) refl ea m).0
not_ext FromMemory ea m = refl

pub movem_reads : (a : ℕ) (direction : TargetDirection) (s : Size) (mask : ℕ) (o : Operand) → Accepted a (MOVEM direction s mask o)
    → Reads a (MOVEM direction s mask o)
movem_reads a direction s mask o ((h, n), e, l) =
    let form = movem_laying a direction s mask o in
    let (c, y, z, v) = movem_code_lem direction s (unless_reason (not (is_byte s)) 20 (form.back e).0.0) in
    let k : mask % 65536 ≡ mask = omega arith in
    laying_reads form c e n (λ d m. let q = not_ext direction (ea_field o) m in (rw (q, v, z), (h, refl), rw (q, y, z, k)))

pub movem_ext_sound : Sound group.MovemExt
unfolding map
movem_ext_sound a line x opmode ea hl hx ho he e f h p i r =
    let (w, (z, (k, u))) = in_group group.MovemExt (λ l x o. equal (word_of 4 (movem_code (to_memory_at (5 - x))) (movem_opmode (size_at (o - 1))) 0) (word_of l x o 0)
    ∷ yes (not (is_byte (size_at (o - 1)))) ∷ equal (ext_opmode (size_at (o - 2)) (size_at (o - 1))) o ∷ yes (not (eqb o 0)) ∷ equal l 4
    ∷ equal (movem_modes_at x) (bits (movem_modes (to_memory_at (5 - x)))) ∷ []) refl line
    x opmode e in
    let s = size_at (opmode - 1) in
    let direction = to_memory_at (5 - x) in
    let j = EXT (Data ea) (size_at (opmode - 2)) s in
    either_encodes a i j (MOVEM direction s (f.value % 65536) f.source) (word_of line x opmode ea) (eqb x 4 && ltb ea 8) bare
    (one specifier.Word s ea (movem_modes_at x)) f h r
    (λ q g.
    let (b, d) = and-true (eqb x 4) _ q in
    word_as a j _ _ _ (omega (arith, k, u.1.0, eqb_eq x 4 b)) (alone_encodes a j _ specifier.Nothing f g
    (ext_encodes a ea (size_at (opmode - 2)) s (ltb_is ea 8 d) (rw k u.0))))
    (λ q g.
    let m : f.value % 65536 ≡ f.value = omega (arith, g.1.0) in
    rw m (word_as a (MOVEM direction s f.value f.source) _ _ _ (omega (arith, w))
    (laying_encodes ea f (movem_laying a direction s f.value f.source) (true_unless (not (is_byte s)) (no_encoding 20) z, tt) (rw u.1.1.0 at g) (rw q at p) (λ n. (g.1.0, n)) refl
    (λ e. rw e))))

-- ---- LEA, and CHK of a word or of a long
lea_laying : (a : ℕ) (o : Operand) (r : RegisterOperand) (v : ℕ)
    → Laying a (UnsizedIntoRegister LEA o r) 4 (register_bits r) 7 specifier.Nothing Long (bits control_column) v o (Passing (address_register r ∷ []))
unfolding unsized_register_parts with_address
lea_laying a o r v = form_bare (address_register r ∷ []) 34 refl refl

-- EXTB.L stands where LEA has no mode
lea-reads : (a : ℕ) (o : Operand) (r : RegisterOperand) → Accepted a (UnsizedIntoRegister LEA o r) → Reads a (UnsizedIntoRegister LEA o r)
unfolding group_at map
lea-reads a o r (n, e, l) =
    laying_reads (lea_laying a o r 0) (at_registers group.LeaExtb 4 7 refl (register_bits r) (omega arith)) e n (λ c m.
    let t = (modes_say (bits control_column) (λ ea. no (ltb ea 8) ∷ []) refl (ea_field o) m).0 in
    let u = and-false (eqb (register_bits r) 4) in
    (rw (t, u), refl, rw (t, u, address_bits r c.0)))

pub lea_extb_sound : Sound group.LeaExtb
unfolding map
lea_extb_sound a line x opmode ea hl hx ho he e f h p i r =
    let (l, (k, u)) = in_group group.LeaExtb (λ l x o. equal l 4 ∷ equal o 7 ∷ []) refl line x opmode e in
    let j = EXT (Data ea) Byte Long in
    either_encodes a i j (UnsizedIntoRegister LEA f.source (Address x)) (word_of line x opmode ea) (eqb x 4 && ltb ea 8) bare
    (one specifier.Nothing Long ea (bits control_column)) f h r
    (λ q g.
    let (b, d) = and-true (eqb x 4) _ q in
    word_as a j _ _ _ (omega (arith, eqb_eq x 4 b)) (alone_encodes a j _ specifier.Nothing f g (ext_encodes a ea Byte Long (ltb_is ea 8 d) refl)))
    (λ q g.
    word_as a (UnsizedIntoRegister LEA f.source (Address x)) _ _ _ (omega arith)
    (laying_encodes ea f (lea_laying a f.source (Address x) f.value) (lt_number x hx, tt) g (rw q at p) (λ n. n) refl (λ e. rw e)))

abbrev check_at : Bool → UnsizedRegisterOperation
check_at b = cond b CHKL CHK

check_size : (b : Bool) → unsized_register_size (check_at b) ≡ cond b Long Word
check_size true = refl
check_size false = refl

chk_laying : (a : ℕ) (b : Bool) (o : Operand) (r : RegisterOperand) (v : ℕ)
    → Laying a (UnsizedIntoRegister (check_at b) o r) 4 (register_bits r) (cond b 4 6) specifier.Nothing (cond b Long Word) (bits data_column) v o
    (Passing (data_register r ∷ []))
unfolding unsized_register_parts with_data
chk_laying a true o r v = form_bare (data_register r ∷ []) 27 refl refl
chk_laying a false o r v = form_bare (data_register r ∷ []) 27 refl refl

pub unsized_into_register-reads : (a : ℕ) (op : UnsizedRegisterOperation) (o : Operand) (r : RegisterOperand)
    → Accepted a (UnsizedIntoRegister op o r) → Reads a (UnsizedIntoRegister op o r)
unfolding group_at map
unsized_into_register-reads a LEA o r h = lea-reads a o r h
unsized_into_register-reads a CHK o r (n, e, l) =
    laying_reads (chk_laying a false o r 0) (at_registers group.CHK 4 6 refl (register_bits r) (omega arith)) e n (λ c m. (refl, refl, rw (data_bits r c.0)))
unsized_into_register-reads a CHKL o r (n, e, l) =
    laying_reads (chk_laying a true o r 0) (at_registers group.CHK 4 4 refl (register_bits r) (omega arith)) e n (λ c m. (refl, refl, rw (data_bits r c.0)))

pub chk_sound : Sound group.CHK
unfolding map
chk_sound a line x opmode ea hl hx ho he e f h p i r =
    let (w, u) = in_group group.CHK (λ l x o. equal (word_of 4 x (cond (eqb o 4) 4 6) 0) (word_of l x o 0) ∷ []) refl line x opmode e in
    decoded_as a i (UnsizedIntoRegister (check_at (eqb opmode 4)) f.source (Data x)) _ _ _ r (omega (arith, w))
    (laying_encodes ea f (chk_laying a (eqb opmode 4) f.source (Data x) f.value) (lt_number x hx, tt) h p (λ n. n) refl
    (λ e. rw (check_size (eqb opmode 4), e)))
