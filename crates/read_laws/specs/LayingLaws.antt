-- The forms that instructions have: an operand behind an operation word, with a specifier or without, or a specifier alone. What
-- each lays down, that it reads (T1), and that what reads so encodes (T2).
use Rattle.std.specs.Prelude.{ℕ, ◌+◌, ◌*◌, ◌%◌, ◌<◌, ◌≡◌, refl, Bool, true, false, not, ◌&&◌, cond, List, [], ◌∷◌, ◌++◌, ltb, eqb, length}
use Rattle.std.proofs.Common.{ap, sym, ◌∙◌, append-nil, append_assoc, arith}
use Rattle.isa.specs.declared.Size.{Size}
use Rattle.isa.specs.declared.Size.TheVariants.{Byte, Word, Long}
use Rattle.isa.specs.declared.AddressWidth.TheVariants as width
use Rattle.isa.specs.declared.RegisterOperand.TheVariants.{Data}
use Rattle.isa.specs.declared.Operand.{Operand}
use Rattle.isa.specs.declared.Operand.TheVariants.{Immediate, Register, Indirect, PostIndirect, PreIndirect, IndirectDisplacement, IndirectIndex, PcDisplacement, PcIndex, Extended, Absolute}
use Rattle.isa.specs.declared.Instruction.{Instruction}
use Rattle.isa_spec.specs.Field.{holds}
use Rattle.encode_spec.specs.Item.{Item, word, check, range, fine, malformed, no_encoding, unless, ranged, operation, failure, words_in, word_address}
use Rattle.isa_spec.specs.Code.{is_byte}
use Rattle.isa_facts.specs.Mode.{bit_at, column_of, column_bit}
use Rattle.encode_spec.specs.Ea.{is_typed, typed, permits, byte_of_address, mode_of, ea_field, ea_items, effective}
use Rattle.encode_spec.specs.Encode.{items_of, words_of, refusal_of}
use Rattle.read_spec.specs.declared.Group.{Group}
use Rattle.read_spec.specs.declared.Specifier.{Specifier}
use Rattle.read_spec.specs.declared.Specifier.TheVariants as specifier
use Rattle.read_spec.specs.declared.Layout.{Layout}
use Rattle.read_spec.specs.declared.Tail.{Tail}
use Rattle.read_spec.specs.Tree.{Tree, ret}
use Rattle.read_spec.specs.Plain.{plain, plain_operand}
use Rattle.isa_facts.specs.Ordinary.{is_ordinary, ordinary}
use Rattle.read_spec.specs.Operand.{permitted}
use Rattle.read_spec.specs.Layout.{one, alone}
use Rattle.read_spec.specs.Layouts.{layout_of}
use Rattle.read_spec.specs.Decoded.{decoded, word_of}
use Rattle.read_operand_laws.specs.Stands.{Stands}
use Rattle.read_spec.specs.Accepted.{InTypes, InstructionInTypes, Accepted}
use Rattle.read_operand_laws.specs.TailStands.{specifier_words, SpecifierStands, source_at, destination_at, TailStands, tail_words, plain_tail}
use Rattle.encode_facts.specs.Items.{fine_both, both_fine, unless_reason, unless_malformed, true_unless, range_holds, holds_range, words_in_append}
use Rattle.read_operand_laws.specs.OperandLaws.{permits-is, stands_lt, mode_lt}
use Rattle.read_laws.specs.Statements.{Reads, reads, Encodes}
use Rattle.read_laws.specs.MapLaws.{At}
use Rattle.base_facts.specs.Tests.{Lt, lt?, and_yes, all, below, and-true, true_and}

-- ---- what it is for the checks of items to pass
abbrev pub Passing : List Item → Type 0
Passing [] = Unit {0}
Passing (word w ∷ xs) = Passing xs
Passing (check v ∷ xs) = (v ≡ fine) × Passing xs
Passing (range f z ∷ xs) = (holds f z ≡ true) × Passing xs

pub passing : (xs : List Item) → failure true xs ≡ fine → Passing xs
passing [] e = tt
passing (word w ∷ xs) e = passing xs e
passing (check v ∷ xs) e = let p = fine_both v (failure true xs) e in (p.0, passing xs p.1)
passing (range f z ∷ xs) e = let p = fine_both (ranged true f z) (failure true xs) e in (range_holds f z p.0, passing xs p.1)

pub passed : (xs : List Item) → Passing xs → failure true xs ≡ fine
passed [] p = refl
passed (word w ∷ xs) p = passed xs p
passed (check v ∷ xs) p = both_fine v (failure true xs) p.0 (passed xs p.1)
passed (range f z ∷ xs) p = both_fine (ranged true f z) (failure true xs) (holds_range f z p.0) (passed xs p.1)

pub passing_apart : (xs ys : List Item) → Passing (xs ++ ys) → Passing xs × Passing ys
passing_apart [] ys p = (tt, p)
passing_apart (word w ∷ xs) ys p = passing_apart xs ys p
passing_apart (check v ∷ xs) ys p = let q = passing_apart xs ys p.1 in ((p.0, q.0), q.1)
passing_apart (range f z ∷ xs) ys p = let q = passing_apart xs ys p.1 in ((p.0, q.0), q.1)

pub passing_both : (xs ys : List Item) → Passing xs → Passing ys → Passing (xs ++ ys)
passing_both [] ys p q = q
passing_both (word w ∷ xs) ys p q = passing_both xs ys p q
passing_both (check v ∷ xs) ys p q = (p.0, passing_both xs ys p.1 q)
passing_both (range f z ∷ xs) ys p q = (p.0, passing_both xs ys p.1 q)

pub checked : (a : ℕ) (i : Instruction) → Accepted a i → Passing (items_of i a)
checked a i h = passing (items_of i a) h.1

-- ---- an operand that encodes at an address, in one of the modes
abbrev pub Fitting : Size → ℕ → ℕ → Operand → Type 0
Fitting s at modes o = (permits (column_of modes) o ≡ true) × (failure true (ea_items o s at) ≡ fine)

pub fitting : (o : Operand) (s : Size) (modes reason at : ℕ) → Passing (effective o s (column_of modes) reason at ++ []) → Fitting s at modes o
fitting o s modes reason at p = (unless_reason (permits (column_of modes) o) reason p.0, rw (append-nil (ea_items o s at)) at (passed (ea_items o s at ++ []) p.1))

pub fitted : (o : Operand) (s : Size) (modes reason at : ℕ) → Fitting s at modes o → Passing (effective o s (column_of modes) reason at ++ [])
fitted o s modes reason at g =
    (true_unless (permits (column_of modes) o) (no_encoding reason) g.0, rw (append-nil (ea_items o s at)) (passing (ea_items o s at) g.1))

-- ---- an operand that is missing stands as D0
abbrev pub missing : Operand
missing = Register (Data 0)

missing_stands : (s : Size) (at : ℕ) → Stands s at 0 missing
missing_stands s at = (refl, refl, tt, refl)

no_words : (s : Size) (at : ℕ) (d : Operand) → Stands s at 0 d → words_in (ea_items d s at) ≡ []
no_words s at (Immediate v) h = absurd (omega (arith, h.3))
no_words s at (Register r) h = refl
no_words s at (Indirect n) h = refl
no_words s at (PostIndirect n) h = refl
no_words s at (PreIndirect n) h = refl
no_words s at (IndirectDisplacement z base) h = absurd (omega (arith, h.3))
no_words s at (IndirectIndex base z x) h = absurd (omega (arith, h.3))
no_words s at (PcDisplacement t) h = absurd (omega (arith, h.3))
no_words s at (PcIndex t x) h = absurd (omega (arith, h.3))
no_words s at (Extended base w z outer) h = go (lt? base 8) h.3
  where
    go : Lt base 8 → cond (ltb base 8) 6 7 * 8 + cond (ltb base 8) (base % 8) 3 ≡ 0 → words_in (ea_items (Extended base w z outer) s at) ≡ []
    go (Lt.less p g) e = absurd (omega (arith, rw g at e))
    go (Lt.past p g) e = absurd (omega (arith, rw g at e))
no_words s at (Absolute a width.Word) h = absurd (omega (arith, h.3))
no_words s at (Absolute a width.Long) h = absurd (omega (arith, h.3))

abbrev pub tail_of : ℕ → Operand → Tail
tail_of v o = record { value = v; source = o; destination = missing }

-- where the operand stands
abbrev pub behind : ℕ → Specifier → ℕ → ℕ
behind a k v = word_address a (1 + length (specifier_words k v))

-- ---- one operand behind a specifier
abbrev One : ℕ → Specifier → Size → ℕ → ℕ → Tail → Type 0
One a k s ea modes f = Fitting s (behind a k f.value) modes f.source × (is_typed f.source ≡ true) × InTypes f.source × (ea_field f.source ≡ ea)

pub one_back : (a : ℕ) (k : Specifier) (s : Size) (ea modes : ℕ) (f : Tail) → TailStands a (one k s ea modes) f → One a k s ea modes f
one_back a k s ea modes f h =
    let p = and-true (permitted modes ea) _ h.0 in
    let q = h.2 in
    ((permits-is modes s (behind a k f.value) ea f.source q ∙ p.0, q.0), q.1, q.2, q.3)

pub one_words : (a : ℕ) (k : Specifier) (s : Size) (ea modes : ℕ) (f : Tail) → TailStands a (one k s ea modes) f
    → tail_words a (one k s ea modes) f ≡ specifier_words k f.value ++ words_in (ea_items f.source s (behind a k f.value))
one_words a k s ea modes f h =
    rw (no_words s (destination_at a (one k s ea modes) f) f.destination h.3, append-nil (words_in (ea_items f.source s (behind a k f.value))))

pub one_there : (a : ℕ) (k : Specifier) (s : Size) (modes v : ℕ) (o : Operand) → permitted modes (ea_field o) ≡ true → SpecifierStands k v
    → Stands s (behind a k v) (ea_field o) o
    → TailStands a (one k s (ea_field o) modes) (tail_of v o)
one_there a k s modes v o m sp q = (rw m, sp, q, missing_stands s (destination_at a (one k s (ea_field o) modes) (tail_of v o)))

-- what an instruction of one operand checks and lays down: C is what it checks besides the operand
pub record Laying (a : ℕ) (i : Instruction) (line x opmode : ℕ) (k : Specifier) (s : Size) (modes v : ℕ) (o : Operand) (C : Type 0) : Type 0 where
  pub back : refusal_of true i a ≡ fine → C × (is_typed o ≡ true) × Fitting s (behind a k v) modes o
  pub there : C → is_typed o ≡ true → Fitting s (behind a k v) modes o → refusal_of true i a ≡ fine
  pub words : refusal_of true i a ≡ fine → words_of i a ≡ word_of line x opmode (ea_field o) ∷ (specifier_words k v ++ words_in (ea_items o s (behind a k v)))

-- its items: checks, the operation word, the specifier's words and checks, and the operand
abbrev pub form_items : List Item → List Item → ℕ → ℕ → ℕ → List Item → Operand → Size → ℕ → ℕ → ℕ → List Item
form_items front pre line x opmode xs o s modes reason at =
    front ++ (typed o ∷ (pre ++ (operation line x opmode (ea_field o) ∷ (xs ++ (effective o s (column_of modes) reason at ++ [])))))

module _ {a : ℕ} {i : Instruction} {line x opmode : ℕ} {k : Specifier} {s : Size} {modes v : ℕ} {o : Operand} where
  pub form_is : (front pre xs : List Item) (reason at : ℕ) → items_of i a ≡ form_items front pre line x opmode xs o s modes reason at
      → at ≡ behind a k v → words_in front ++ words_in pre ≡ [] → (Passing (front ++ (pre ++ xs)) → words_in xs ≡ specifier_words k v)
      → Laying a i line x opmode k s modes v o (Passing (front ++ (pre ++ xs)))
  form_is front pre xs reason at q p e w =
      let final = effective o s (column_of modes) reason at ++ [] in
      let rest = xs ++ final in
      let inner = pre ++ (operation line x opmode (ea_field o) ∷ rest) in
      let whole = front ++ (typed o ∷ inner) in
      let known : refusal_of true i a ≡ fine → Passing (front ++ (pre ++ xs)) × (is_typed o ≡ true) × Fitting s (behind a k v) modes o = λ f.
      let b = passing_apart front (typed o ∷ inner) (passing whole (sym (ap (failure true) q) ∙ f)) in
      let c = passing_apart pre (operation line x opmode (ea_field o) ∷ rest) b.1.1 in
      let d = passing_apart xs final c.1 in (
        passing_both front (pre ++ xs) b.0 (passing_both pre xs c.0 d.0),
        unless_malformed (is_typed o) b.1.0,
        rw p at (fitting o s modes reason at d.1),
      ) in record {
        back = known;
        there = λ c t g.
            let b = passing_apart front (pre ++ xs) c in
            let d = passing_apart pre xs b.1 in
            let u = passing_both xs final d.1 (fitted o s modes reason at (rw p g)) in
            ap (failure true) q ∙ passed whole (passing_both front (typed o ∷ inner) b.0
            (true_unless (is_typed o) malformed t, passing_both pre (operation line x opmode (ea_field o) ∷ rest) d.0 u));
        words = λ f.
            let m = word_of line x opmode (ea_field o) ∷ (words_in xs ++ words_in final) in
            ap words_in q ∙ words_in_append front (typed o ∷ inner) ∙ rw (
              words_in_append pre (operation line x opmode (ea_field o) ∷ rest),
              words_in_append xs final,
            )
            (sym (append_assoc (words_in front) (words_in pre) m) ∙ rw (e, w (known f).0, append-nil (ea_items o s at), p));
      }

  -- with one extension word, and what is checked before it
  pub form_word : (xs : List Item) (reason : ℕ) → items_of i a ≡ form_items [] [] line x opmode xs o s modes reason (word_address (word_address a 0) 2)
      → specifier_words k v ≡ v ∷ [] → words_in xs ≡ v ∷ [] → Laying a i line x opmode k s modes v o (Passing xs)
  form_word xs reason q e w = form_is [] [] xs reason (word_address (word_address a 0) 2) q (rw e (omega arith)) refl (λ c. w ∙ sym e)

  -- by other words for what is checked
  pub form_as : {C D : Type 0} → Laying a i line x opmode k s modes v o C → (C → D) → (D → C) → Laying a i line x opmode k s modes v o D
  form_as f g h = record { back = λ e. let b = f.back e in (g b.0, b.1, b.2); there = λ d. f.there (h d); words = f.words }

  pub laying_reads : {C : Type 0} {sh : Group} → Laying a i line x opmode k s modes v o C → At sh line x opmode → refusal_of true i a ≡ fine → InTypes o
      → (C → permitted modes (ea_field o) ≡ true
      → (layout_of sh line x opmode (ea_field o) ≡ one k s (ea_field o) modes) × SpecifierStands k v
      × (decoded a sh line x opmode (ea_field o) v (plain_operand s o) missing ≡ ret (plain i)))
      → Reads a i
  laying_reads {sh = sh} f (hl, hx, ho, e) r n m =
      let (c, t, g) = f.back r in
      let q : Stands s (behind a k v) (ea_field o) o = (g.1, t, n, refl) in
      let y : permitted modes (ea_field o) ≡ true = sym (permits-is modes s (behind a k v) (ea_field o) o q) ∙ g.0 in
      let (l, sp, p) = m c y in
      reads sh line x opmode (ea_field o) (tail_of v o) hl hx ho (stands_lt s (behind a k v) (ea_field o) o q) e
      (rw l (one_there a k s modes v o y sp q)) (rw l p)
      (rw (l, append-nil (words_in (ea_items o s (behind a k v)))) (f.words r))

-- without a specifier, and with checks before the operation word
module _ {a : ℕ} {i : Instruction} {line x opmode : ℕ} {s : Size} {modes v : ℕ} {o : Operand} where
  pub form_bare : (xs : List Item) (reason : ℕ) → items_of i a ≡ form_items [] [] line x opmode xs o s modes reason (word_address (word_address a 0) 1)
      → words_in xs ≡ [] → Laying a i line x opmode specifier.Nothing s modes v o (Passing xs)
  form_bare xs reason q w = form_is [] [] xs reason (word_address (word_address a 0) 1) q (omega arith) refl (λ c. w)

  pub form_behind : (front pre xs : List Item) (reason : ℕ)
      → items_of i a ≡ form_items front pre line x opmode xs o s modes reason (word_address (word_address (word_address a 0) 0) 1)
      → words_in front ++ words_in pre ≡ [] → words_in xs ≡ [] → Laying a i line x opmode specifier.Nothing s modes v o (Passing (front ++ (pre ++ xs)))
  form_behind front pre xs reason q e w = form_is front pre xs reason (word_address (word_address (word_address a 0) 0) 1) q (omega arith) e (λ c. w)

-- what encodes is what is formed, and its word is the operation word
pub decoded_as : (a : ℕ) (i j : Instruction) (w u : ℕ) (ws : List ℕ) → ◌≡◌ {A = Tree Instruction} (ret j) (ret i) → u ≡ w → Encodes a j (u ∷ ws)
    → Encodes a i (w ∷ ws)
decoded_as a i j w u ws r e h =
    let q : j ≡ i = cc in
    rw (← q, ← e) h

pub laying_encodes : {a : ℕ} {j : Instruction} {line x opmode : ℕ} {k : Specifier} {s : Size} {modes : ℕ} {C : Type 0} (ea : ℕ) (f : Tail)
    → Laying a j line x opmode k s modes f.value f.source C → C → TailStands a (one k s ea modes) f → plain_tail s f ≡ f
    → (InTypes f.source → InstructionInTypes j) → is_ordinary j ≡ true → (plain_operand s f.source ≡ f.source → plain j ≡ j)
    → Encodes a j (word_of line x opmode ea ∷ tail_words a (one k s ea modes) f)
laying_encodes {a} {j} {line} {x} {opmode} {k} {s} {modes} ea f l c h p n o y =
    let b = one_back a k s ea modes f h in
    let r = l.there c b.1 b.0 in
    ((n b.2, r, ordinary j o), y (ap (λ (g : Tail). g.source) p), l.words r ∙ rw (one_words a k s ea modes f h, b.3))

-- ---- a specifier alone
pub alone_words : (a : ℕ) (k : Specifier) (f : Tail) → TailStands a (alone k) f → tail_words a (alone k) f ≡ specifier_words k f.value
alone_words a k f h =
    rw (
      no_words Byte (source_at a (alone k) f) f.source h.2,
      no_words Byte (destination_at a (alone k) f) f.destination h.3,
      append-nil
          (specifier_words k f.value),
    )

pub alone-reads : {sh : Group} {line x opmode : ℕ} (a : ℕ) (i : Instruction) (ea : ℕ) (k : Specifier) (v : ℕ)
    → At sh line x opmode → ea < 64 → layout_of sh line x opmode ea ≡ alone k → SpecifierStands k v
    → decoded a sh line x opmode ea v missing missing ≡ ret i → Encodes a i (word_of line x opmode ea ∷ specifier_words k v)
    → Reads a i
alone-reads {sh} {line} {x} {opmode} a i ea k v (hl, hx, ho, e) he l sp p h =
    let f = tail_of v missing in
    reads sh line x opmode ea f hl hx ho he e
    (rw l (refl, sp, missing_stands Byte (source_at a (alone k) f), missing_stands Byte (destination_at a (alone k) f)))
    (p ∙ ap (λ (j : Instruction). ret j) (sym h.1)) (rw (l, append-nil (specifier_words k v)) h.2)

pub alone_encodes : (a : ℕ) (i : Instruction) (w : ℕ) (k : Specifier) (f : Tail) → TailStands a (alone k) f
    → Encodes a i (w ∷ specifier_words k f.value) → Encodes a i (w ∷ tail_words a (alone k) f)
alone_encodes a i w k f h e = rw (alone_words a k f h) e

-- the same operation word
pub word_as : (a : ℕ) (i : Instruction) (w u : ℕ) (ws : List ℕ) → u ≡ w → Encodes a i (u ∷ ws) → Encodes a i (w ∷ ws)
word_as a i w u ws e h = rw (← e) h

-- ---- where two instructions share an operation code, what the fields of one of two form encodes
pub either_encodes : (a : ℕ) (i j k : Instruction) (w : ℕ) (b : Bool) (l m : Layout) (f : Tail)
    → TailStands a (cond b l m) f → ◌≡◌ {A = Tree Instruction} (ret (cond b j k)) (ret i)
    → (b ≡ true → TailStands a l f → Encodes a j (w ∷ tail_words a l f))
    → (b ≡ false → TailStands a m f → Encodes a k (w ∷ tail_words a m f))
    → Encodes a i (w ∷ tail_words a (cond b l m) f)
either_encodes a i j k w true l m f h r p q = decoded_as a i j w w (tail_words a l f) r refl (p refl h)
either_encodes a i j k w false l m f h r p q = decoded_as a i k w w (tail_words a m f) r refl (q refl h)

-- ---- a byte is not read from an address register: modes without An
abbrev same_bool : Bool → Bool → Bool
same_bool true b = b
same_bool false b = not b

same_bool_lem : (a b : Bool) → same_bool a b ≡ true → a ≡ b
same_bool_lem true true e = refl
same_bool_lem true false e = sym e
same_bool_lem false true e = e
same_bool_lem false false e = refl

-- a set of modes is another without An: a test of the modes
abbrev pub less_address : ℕ → ℕ → Bool
less_address modes less = all (λ m. same_bool (bit_at less m) (bit_at modes m && not (eqb m 1))) 12

pub byte_modes : (modes less : ℕ) → less_address modes less ≡ true → (s : Size) (o : Operand)
    → permits (column_of (cond (is_byte s) less modes)) o ≡ (permits (column_of modes) o && not (byte_of_address s o))
unfolding permits byte_of_address
byte_modes modes less t Byte o =
    rw (column_bit less (mode_of o) (mode_lt o), column_bit modes (mode_of o) (mode_lt o))
    (same_bool_lem (bit_at less (mode_of o)) (bit_at modes (mode_of o) && not (eqb (mode_of o) 1))
    (below (λ m. same_bool (bit_at less m) (bit_at modes m && not (eqb m 1))) 12 t (mode_of o) (mode_lt o)))
byte_modes modes less t Word o = sym (and_yes (permits (column_of modes) o))
byte_modes modes less t Long o = sym (and_yes (permits (column_of modes) o))

pub form_byte : {a : ℕ} {i : Instruction} {line x opmode : ℕ} {k : Specifier} {s : Size} {v : ℕ} {o : Operand} {D : Type 0} (modes less reason : ℕ)
    → less_address modes less ≡ true → Laying a i line x opmode k s modes v o ((unless (not (byte_of_address s o)) (no_encoding reason) ≡ fine) × D)
    → Laying a i line x opmode k s (cond (is_byte s) less modes) v o D
form_byte {s = s} {o = o} modes less reason t f =
    let e = byte_modes modes less t s o in record {
      back = λ r. let b = f.back r in (
        b.0.1,
        b.1,
        (
          e ∙ true_and (permits (column_of modes) o) _ b.2.0
              (unless_reason (not (byte_of_address s o)) reason b.0.0),
          b.2.1,
        ),
      );
      there = λ d n g. let y = and-true (permits (column_of modes) o) _ (sym e ∙ g.0) in f.there (true_unless _ (no_encoding reason) y.1, d) n (y.0, g.1);
      words = f.words;
    }
