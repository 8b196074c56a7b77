-- MOVE MOVEA.
use Rattle.std.specs.Prelude.{ℕ, ◌+◌, ◌*◌, ◌/◌, ◌%◌, ◌<◌, ◌≡◌, Bool, true, false, not, cond, ltb, eqb}
use Rattle.std.proofs.Math.Path.{refl, ap}
use Rattle.std.proofs.Common.{sym, ◌∙◌, arith}
use Rattle.std.proofs.lemmas.Bool.{false≢true}
use mathlib.Core.List.{List, [], ◌∷◌, ◌++◌, append-nil}
use Rattle.isa.specs.declared.Size.{Size}
use Rattle.isa.specs.declared.Size.TheVariants.{Byte, Word, Long}
use Rattle.isa.specs.declared.AddressWidth.TheVariants as width
use Rattle.isa.specs.declared.RegisterOperand.{RegisterOperand}
use Rattle.isa.specs.declared.RegisterOperand.TheVariants.{Address}
use Rattle.isa.specs.declared.RegisterOperation.TheVariants.{MOVEA}
use Rattle.isa.specs.declared.PairOperation.TheVariants.{MOVE}
use Rattle.isa.specs.declared.Operand.{Operand}
use Rattle.isa.specs.declared.Operand.TheVariants.{Immediate, Register, Indirect, PostIndirect, PreIndirect, IndirectDisplacement, IndirectIndex, PcDisplacement, PcIndex, Extended, Absolute}
use Rattle.isa.specs.declared.Instruction.TheVariants.{Pair, IntoRegister}
use Rattle.encode_spec.specs.Item.{Item, fine, malformed, no_encoding, address_register, allow, words_in, count_of, word_address}
use Rattle.isa_spec.specs.Code.{move_code, is_byte, register_bits}
use Rattle.isa_spec.specs.Mode.{every_column, data_column, bits}
use Rattle.encode_spec.specs.Ea.{data_alterable, byte_of_address, permits, is_typed, mode_field, register_field, ea_field, ea_items, effective, with_address}
use Rattle.encode_spec.specs.Movement.{move_parts, movea_parts}
use Rattle.encode_spec.specs.Instruction.{register_parts, pair_parts}
use Rattle.encode_spec.specs.Encode.{items_of, words_of, refusal_of}
use Rattle.read_spec.specs.declared.Group.TheVariants as group
use Rattle.read_spec.specs.declared.Specifier.TheVariants as specifier
use Rattle.read_spec.specs.declared.Tail.{Tail}
use Rattle.read_spec.specs.Operand.{permitted}
use Rattle.read_spec.specs.Layout.{one, two, no_layout}
use Rattle.read_spec.specs.Modes.{readable_modes}
use Rattle.read_spec.specs.Layouts.{move_layout, movea_layout}
use Rattle.read_spec.specs.Map.{group_at, map}
use Rattle.read_spec.specs.Operation.{move_size}
use Rattle.read_spec.specs.Decoded.{word_of}
use Rattle.read_operand_laws.specs.Stands.{Stands}
use Rattle.read_operand_laws.specs.TailStands.{TailStands, tail_words, plain_tail}
use Rattle.encode_facts.specs.Items.{words_in_append, unless_malformed, unless_reason, lt_number, true_unless}
use Rattle.base_facts.specs.Tests.{and-true, true_and, eqb_eq}
use Rattle.read_operand_laws.specs.OperandLaws.{permits-is, stands_lt}
use Rattle.read_laws.specs.Statements.{Reads, reads, Encodes, Sound}
use Rattle.read_spec.specs.Accepted.{Accepted}
use Rattle.read_laws.specs.Tests.{equal, no, modes_say, not-true}
use Rattle.read_laws.specs.MapLaws.{At, at_line, in_group, each-size}
use Rattle.read_laws.specs.LayingLaws.{Passing, passing_apart, passing_both, passing, passed, checked, Fitting, fitting, fitted, byte_modes, Laying, laying_reads, laying_encodes, word_as, either_encodes, form_behind}
use Rattle.read_laws.specs.Operands.{address_bits}
use Rattle.isa_facts.specs.Ordinary.{ordinary}

-- ---- the two operands of MOVE
abbrev destination_place : ℕ → Operand → Size → ℕ
destination_place a o s = word_address a (1 + count_of (ea_items o s (word_address a 1)))

abbrev Moved : ℕ → Operand → Operand → Size → Type 0
Moved a o d s = (is_typed o ≡ true) × (is_typed d ≡ true) × Fitting s (word_address a 1) (readable_modes s) o × Fitting s (destination_place a o s) (bits data_alterable) d

module _ (a : ℕ) (o d : Operand) (s : Size) where
  -- where the encoder lays them
  abbrev from : ℕ
  from = word_address (word_address a 0) 1

  abbrev to : ℕ
  to = word_address from (count_of (ea_items o s from))

  abbrev source : List Item
  source = effective o s every_column 8 from

  abbrev destination : List Item
  destination = effective d s data_alterable 9 to ++ []

  from_is : from ≡ word_address a 1
  from_is = omega arith

  to_is : to ≡ destination_place a o s
  to_is = rw from_is (omega arith)

  move_back : Accepted a (Pair MOVE o d s) → Moved a o d s
  unfolding pair_parts move_parts
  move_back h =
      let (t, (u, (b, c))) = checked a (Pair MOVE o d s) h in
      let (p, q) = passing_apart source destination c in
      let y = true_and (permits every_column o) (not (byte_of_address s o)) (unless_reason (permits every_column o) 8 p.0)
      (unless_reason (not (byte_of_address s o)) 7 b) in (
        unless_malformed (is_typed o) t,
        unless_malformed (is_typed d) u,
        (byte_modes (bits every_column) (bits data_column) refl s o ∙ y, rw from_is at (passed (ea_items o s from) p.1)),
        rw to_is at (fitting d s (bits data_alterable) 9 to q),
      )

  move_there : Moved a o d s → refusal_of true (Pair MOVE o d s) a ≡ fine
  unfolding pair_parts move_parts
  move_there (t, u, g, h) =
      let p = and-true (permits every_column o) (not (byte_of_address s o)) (sym (byte_modes (bits every_column) (bits data_column) refl s o) ∙ g.0) in
      let c : Passing source = (true_unless (permits every_column o) (no_encoding 8) p.0, passing (ea_items o s from) (rw from_is g.1)) in
      passed (items_of (Pair MOVE o d s) a) (
        true_unless (is_typed o) malformed t,
        (
          true_unless (is_typed d) malformed u,
          (
            true_unless (not (byte_of_address s o)) (no_encoding 7) p.1,
            passing_both source destination c (fitted d s (bits data_alterable) 9 to (rw to_is h)),
          ),
        ),
      )

  move_words : words_of (Pair MOVE o d s) a
      ≡ word_of (move_code s) (register_field d) (mode_field d) (ea_field o) ∷ (words_in (ea_items o s (word_address a 1)) ++ words_in (ea_items d s (destination_place a o s)))
  unfolding pair_parts move_parts
  move_words =
      ap (λ (ws : List ℕ). word_of (move_code s) (register_field d) (mode_field d) (ea_field o) ∷ ws)
      (words_in_append source destination ∙ rw (append-nil (ea_items d s to), to_is, from_is))

register_lt : (o : Operand) → register_field o < 8
register_lt (Immediate v) = omega arith
register_lt (Register r) = omega arith
register_lt (Indirect n) = omega arith
register_lt (PostIndirect n) = omega arith
register_lt (PreIndirect n) = omega arith
register_lt (IndirectDisplacement z base) = omega arith
register_lt (IndirectIndex base z x) = omega arith
register_lt (PcDisplacement t) = omega arith
register_lt (PcIndex t x) = omega arith
register_lt (Extended base w z outer) = go (ltb base 8)
  where
    go : (b : Bool) → cond b (base % 8) 3 < 8
    go true = omega arith
    go false = omega arith
register_lt (Absolute a width.Word) = omega arith
register_lt (Absolute a width.Long) = omega arith

-- ---- the size in bits 13 and 12
move_size_lem : (s : Size) → (move_size (move_code s) ≡ s) × (move_code s < 16)
move_size_lem Byte = (refl, omega arith)
move_size_lem Word = (refl, omega arith)
move_size_lem Long = (refl, omega arith)

move_at : (s : Size) (x opmode : ℕ) → x < 8 → opmode < 8 → At group.MOVE (move_code s) x opmode
unfolding group_at map
move_at =
    each-size (λ s. (x opmode : ℕ) → x < 8 → opmode < 8 → At group.MOVE (move_code s) x opmode)
    (λ x o hx ho. at_line group.MOVE 1 (λ o. true) refl x o hx ho refl)
    (λ x o hx ho. at_line group.MOVE 3 (λ o. true) refl x o hx ho refl)
    (λ x o hx ho. at_line group.MOVE 2 (λ o. true) refl x o hx ho refl)

-- MOVEA stands where MOVE has no mode
pub move-reads : (a : ℕ) (o d : Operand) (s : Size) → Accepted a (Pair MOVE o d s) → Reads a (Pair MOVE o d s)
move-reads a o d s h =
    let (t, u, g, k) = move_back a o d s h in
    let p : Stands s (word_address a 1) (ea_field o) o = (g.1, t, h.0.0, refl) in
    let q : Stands s (destination_place a o s) (ea_field d) d = (k.1, u, h.0.1, refl) in
    let r = register_lt d in
    let n : permitted (bits data_alterable) (ea_field d) ≡ true = sym (permits-is (bits data_alterable) s (destination_place a o s) (ea_field d) d q) ∙ k.0 in
    let z : ea_field d / 8 ≡ mode_field d = omega arith in
    let m : eqb (mode_field d) 1 ≡ false = rw z at (modes_say (bits data_alterable) (λ ea. no (eqb (ea / 8) 1) ∷ []) refl (ea_field d) n).0 in
    let l = stands_lt s (destination_place a o s) (ea_field d) d q in
    let (hl, hx, ho, e) = move_at s (register_field d) (mode_field d) r (omega arith) in
    let y : move_layout (move_size (move_code s)) (register_field d) (mode_field d) (ea_field o) ≡ two specifier.Nothing s (ea_field o) (readable_modes s) (ea_field d)
    (bits data_alterable) = rw ((move_size_lem s).0, m) in
    reads group.MOVE (move_code s) (register_field d) (mode_field d) (ea_field o) (record { value = 0; source = o; destination = d }) hl hx ho
    (stands_lt s (word_address a 1) (ea_field o) o p) e
    (rw y (true_and _ _ (sym (permits-is (readable_modes s) s (word_address a 1) (ea_field o) o p) ∙ g.0) n, refl, p, q))
    (rw (m, (move_size_lem s).0)) (rw y (move_words a o d s))

-- ---- MOVEA
movea_laying : (a : ℕ) (o : Operand) (r : RegisterOperand) (s : Size) (v : ℕ)
    → Laying a (IntoRegister MOVEA o r s) (move_code s) (register_bits r) 1 specifier.Nothing s (bits every_column) v o
    (Passing (allow (not (is_byte s)) 10 ∷ address_register r ∷ []))
unfolding register_parts movea_parts with_address
movea_laying a o r s v = form_behind [] (allow (not (is_byte s)) 10 ∷ []) (address_register r ∷ []) 11 refl refl refl

pub movea_reads : (a : ℕ) (o : Operand) (r : RegisterOperand) (s : Size) → Accepted a (IntoRegister MOVEA o r s) → Reads a (IntoRegister MOVEA o r s)
movea_reads a o r s (n, e, l) =
    let z = (move_size_lem s).0 in
    laying_reads (movea_laying a o r s 0) (move_at s (register_bits r) 1 (omega arith) (omega arith)) e n (λ c m.
    let b = not-true (is_byte s) (unless_reason (not (is_byte s)) 10 c.0) in
    (rw (z, b), refl, rw (z, address_bits r c.1.0)))

-- ---- T2
movea_encodes : (a x ea : ℕ) (s : Size) (f : Tail) (b : Bool) → is_byte s ≡ b → x < 8 → TailStands a (cond b no_layout (one specifier.Nothing s ea (bits every_column))) f
    → plain_tail (cond b no_layout (one specifier.Nothing s ea (bits every_column))).size f ≡ f
    → Encodes a (IntoRegister MOVEA f.source (Address x) s) (word_of (move_code s) x 1 ea ∷ tail_words a
    (cond b no_layout (one specifier.Nothing s ea (bits every_column))) f)
movea_encodes a x ea s f true n hx h p = absurd (false≢true h.0)
movea_encodes a x ea s f false n hx h p =
    let w : x % 8 ≡ x = omega arith in
    rw w at (laying_encodes ea f (movea_laying a f.source (Address x) s f.value) (rw n, (lt_number x hx, tt)) h p (λ n. n) refl (λ e. rw e))

move_encodes : (a x opmode ea : ℕ) (s : Size) (f : Tail) → x < 8 → TailStands a (two specifier.Nothing s ea (readable_modes s) (opmode * 8 + x) (bits data_alterable)) f
    → plain_tail s f ≡ f
    → Encodes a (Pair MOVE f.source f.destination s)
    (word_of (move_code s) x opmode ea ∷ tail_words a (two specifier.Nothing s ea (readable_modes s) (opmode * 8 + x) (bits data_alterable)) f)
move_encodes a x opmode ea s f hx (c, v, q, k) p =
    let o = f.source in
    let d = f.destination in
    let b = and-true (permitted (readable_modes s) ea) (permitted (bits data_alterable) (opmode * 8 + x)) c in
    let g : Fitting s (word_address a 1) (readable_modes s) o = (permits-is (readable_modes s) s (word_address a 1) ea o q ∙ b.0, q.0) in
    let h : Fitting s (destination_place a o s) (bits data_alterable) d = (permits-is (bits data_alterable) s (destination_place a o s) (opmode * 8 + x) d k ∙ b.1, k.0) in
    let l = register_lt d in
    let e : mode_field d * 8 + register_field d ≡ opmode * 8 + x = k.3 in
    let m : mode_field d ≡ opmode = omega arith in
    let r : register_field d ≡ x = omega arith in (
      ((q.2, k.2), move_there a o d s (q.1, k.1, g, h), ordinary _ refl),
      rw (ap (λ (g : Tail). g.source) p, ap (λ (g : Tail). g.destination) p),
      move_words a o d
          s ∙ rw (m, r, q.3),
    )

pub move_sound : Sound group.MOVE
unfolding map
move_sound a line x opmode ea hl hx ho he e f h p i r =
    let (t, u) = in_group group.MOVE (λ l x o. equal (move_code (move_size l)) l ∷ []) refl line x opmode e in
    let s = move_size line in
    let j = IntoRegister MOVEA f.source (Address x) s in
    let k = Pair MOVE f.source f.destination s in
    either_encodes a i j k (word_of line x opmode ea) (eqb opmode 1) (movea_layout s ea)
    (two specifier.Nothing s ea (readable_modes s) (opmode * 8 + x) (bits data_alterable)) f h r
    (λ q g. word_as a j _ _ _ (omega (arith, t, eqb_eq opmode 1 q)) (movea_encodes a x ea s f (is_byte s) refl hx g (rw q at p)))
    (λ q g. word_as a k _ _ _ (omega (arith, t)) (move_encodes a x opmode ea s f hx g (rw q at p)))
