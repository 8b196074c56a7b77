-- The effective address: what stands is read in its plain form, and what is read stands and is plain.
use Rattle.std.specs.Prelude.{ℕ, zero, suc, ◌+◌, ◌*◌, ◌-◌, ◌/◌, ◌%◌, ◌^◌, ◌<◌, ◌≤◌, ◌≡◌, refl, true, cond, List, [], ◌∷◌, ◌++◌, ltb, leb, eqb, ℤ, pos}
use Rattle.std.proofs.Common.{ap, sym, ◌∙◌, subst, arith}
use Rattle.isa.specs.declared.Size.{Size}
use Rattle.isa.specs.declared.Size.TheVariants.{Byte, Word, Long}
use Rattle.isa.specs.declared.AddressWidth.TheVariants as width
use Rattle.isa.specs.declared.RegisterOperand.TheVariants.{Address, Data}
use Rattle.isa.specs.declared.IndexRegister.{IndexRegister}
use Rattle.isa.specs.declared.Operand.{Operand}
use Rattle.isa.specs.declared.Operand.TheVariants.{Immediate, Register, Indirect, PostIndirect, PreIndirect, IndirectDisplacement, IndirectIndex, PcDisplacement, PcIndex, Extended, Absolute}
use Rattle.isa.specs.declared.Field.{Field}
use Rattle.isa.specs.declared.Field.TheVariants as field
use Rattle.isa_spec.specs.Field.{holds, top_of, remainder_of}
use Rattle.isa_spec.specs.Code.{number_of_register}
use Rattle.encode_spec.specs.Item.{fine, register, failure, or_else, ranged, number_verdict, words_in, count_of, word_address}
use Rattle.isa_spec.specs.ExtensionWord.{is_canonical}
use Rattle.isa_facts.specs.Mode.{column_of, column_bit}
use Rattle.encode_spec.specs.Ea.{distance, index_size_verdict, brief_items, word_items, immediate_words, immediate_items, extended_mode, extended_items, absolute_items, mode_of, permits, ea_field, ea_items, is_typed}
use Rattle.base_spec.specs.Signed.{signed32, signed64, bits_of}
use Rattle.read_spec.specs.Number.{signed8, signed16, reach}
use Rattle.read_spec.specs.Operand.{mode_at, permitted, index_of, immediate_tree, indexed_tree, index_operand, scaled_operand, brief_operand, special_tree, mode_tree, operand_tree}
use Rattle.read_spec.specs.Plain.{plain_number, plain_operand}
use Rattle.read_spec.specs.Tree.{Tree, ret, got, run}
use Rattle.read_operand_laws.specs.Stands.{Stands}
use Rattle.read_spec.specs.Accepted.{InTypes, Words}
use Rattle.read_operand_laws.specs.Facts.{fits, fits_wider, as_fits32, signed8-low, signed16-low, low-signed16, signed16-fits, signed32-low, low-signed32, reach-distance, distance-reach, reach_lt, displacement_holds, index_displacement_holds, pc_displacement_holds, pc_index-holds, short_address_holds, long_address_holds, plain_number_lem, own_number_lem}
use Rattle.encode_facts.specs.Immediates.{immediate_held}
use Rattle.encode_facts.specs.Items.{fine_both, both_fine, reason_not, range_holds, holds_range, number_lt, lt_number, address_lt}
use Rattle.read_operand_laws.specs.TreeLaws.{Alive, Clean, got_subst, short_no, none_no, guard_true, guard_then, guard_clean, bind_got, bind_then, bind_alive, bind_clean}
use Rattle.read_operand_laws.specs.DisplacementLaws.{got_is}
use Rattle.read_operand_laws.specs.IndexLaws.{brief_word, Brief, index_complete, brief_step, extended_complete, extended_field, OperandSound, sound_by, indexed_sound, indexed_alive, indexed_clean}
use Rattle.base_facts.specs.Tests.{Lt, less, past, lt?, ltb-true, ltb_is, leb_is, eqb_not, and-true, cond_true, cond_false, cond_lt}

-- ---- immediates
immediate_reads : (s : Size) (v a n : ℕ) (r : List ℕ)
    → run (immediate_tree s) a n (words_in (immediate_items v s) ++ r) ≡ got (remainder_of s v) (n + count_of (immediate_items v s)) r
immediate_reads Byte v a n r =
    ap (λ (t : Tree ℕ). run t a (n + 1) r) (guard_true (ltb (v % 256) 256) (ret (v % 256)) (ltb-true (v % 256) 256 (omega arith)))
immediate_reads Word v a n r = refl
immediate_reads Long v a n r = got_is r (omega arith) (omega arith)

pub immediate_complete : (s : Size) (v : ℕ) → failure true (immediate_items v s) ≡ fine → (a n : ℕ) (r : List ℕ)
    → run (immediate_tree s) a n (words_in (immediate_items v s) ++ r) ≡ got (plain_number s v) (n + count_of (immediate_items v s)) r
immediate_complete s v e a n r =
    let h = range_holds (field.Immediate s) (pos v) (fine_both (ranged true (field.Immediate s) (pos v)) _ e).0 in
    immediate_reads s v a n r ∙ got_is r (sym (plain_number_lem s v h)) refl

abbrev pub ImmediateSound : Size → ℕ → List ℕ → ℕ → ℕ → List ℕ → Type 0
ImmediateSound s n ws v m r =
    (failure true (immediate_items v s) ≡ fine)
    × (plain_number s v ≡ v)
    × (ws ≡ words_in (immediate_items v s) ++ r)
    × (m ≡ n + count_of (immediate_items v s))

immediate_words_fine : (v : ℕ) (s : Size) → failure true (immediate_words v s) ≡ fine
immediate_words_fine v Byte = refl
immediate_words_fine v Word = refl
immediate_words_fine v Long = refl

immediate_fine : (s : Size) (v : ℕ) → v < suc (top_of s) → failure true (immediate_items v s) ≡ fine
immediate_fine s v h =
    both_fine (ranged true (field.Immediate s) (pos v)) (failure true (immediate_words v s))
    (holds_range (field.Immediate s) (pos v) (immediate_held s v h)) (immediate_words_fine v s)

pub immediate_sound : (s : Size) (a n : ℕ) (ws : List ℕ) → Words ws → (v m : ℕ) (r : List ℕ)
    → run (immediate_tree s) a n ws ≡ got v m r
    → ImmediateSound s n ws v m r
immediate_sound Byte a n [] h v m r e = short_no e
immediate_sound Byte a n (w ∷ ws) h v m r e =
    let g = guard_then (ltb w 256) (ret w) a (n + 1) ws v m r e in
    let l : w < 256 = ltb_is w 256 g.0 in
    got_subst (ImmediateSound Byte n (w ∷ ws)) g.1 (immediate_fine Byte w l, own_number_lem Byte w l, ap (λ (x : ℕ). x ∷ ws) (omega arith), refl)
immediate_sound Word a n [] h v m r e = short_no e
immediate_sound Word a n (w ∷ ws) h v m r e =
    let l : w < 65536 = h.0 in
    got_subst (ImmediateSound Word n (w ∷ ws)) e (immediate_fine Word w l, own_number_lem Word w l, ap (λ (x : ℕ). x ∷ ws) (omega arith), refl)
immediate_sound Long a n [] h v m r e = short_no e
immediate_sound Long a n (w ∷ []) h v m r e = short_no e
immediate_sound Long a n (w ∷ u ∷ ws) h v m r e =
    let p : (w * 65536 + u) / 65536 ≡ w = omega arith in
    let q : (w * 65536 + u) % 65536 ≡ u = omega arith in
    got_subst (ImmediateSound Long n (w ∷ u ∷ ws)) e (immediate_fine Long (w * 65536 + u) (omega arith), refl, rw (p, q), omega arith)

immediate_alive : (s : Size) → Alive (immediate_tree s)
immediate_alive Byte = λ at. tt
immediate_alive Word = λ at. tt
immediate_alive Long = λ at next. tt

immediate_clean : (s : Size) → Clean (immediate_tree s)
immediate_clean Byte = (λ at. tt, λ at w. guard_clean (ltb w 256) (ret w) (λ e. tt))
immediate_clean Word = (λ at. tt, λ at w. tt)
immediate_clean Long = (λ at next. tt, λ at w. (λ next. tt, λ next v. tt))

-- ---- the tree of an effective address
field_tree : (s : Size) (m k : ℕ) → k < 8 → operand_tree s (m * 8 + k) ≡ mode_tree s m k
field_tree s m k h =
    let p : (m * 8 + k) / 8 ≡ m = omega arith in
    let q : (m * 8 + k) % 8 ≡ k = omega arith in
    rw (p, q)

extended_tree : (s : Size) (base : ℕ) → base ≤ 8 → operand_tree s (extended_field base) ≡ indexed_tree base
extended_tree s base h = go (lt? base 8)
  where
    go : Lt base 8 → operand_tree s (extended_field base) ≡ indexed_tree base
    go (less l e) =
        let p : base % 8 ≡ base = omega arith in
        let q : extended_field base ≡ 6 * 8 + base = rw (e, p) in
        ap (operand_tree s) q ∙ field_tree s 6 base l
    go (past l e) = let p : 8 ≡ base = omega arith in subst (λ (b : ℕ). operand_tree s (extended_field b) ≡ indexed_tree b) p refl

-- ---- complete
abbrev Complete : Size → ℕ → ℕ → List ℕ → Operand → Type 0
Complete s a n r o =
    run (operand_tree s (ea_field o)) a n (words_in (ea_items o s (word_address a n)) ++ r) ≡ got (plain_operand s o) (n + count_of (ea_items o s (word_address a n))) r

-- along a tree and what it reads
by_tree : (s : Size) (a n : ℕ) (r ws : List ℕ) (ea : ℕ) (t : Tree Operand) (o p : Operand) (m j : ℕ)
    → operand_tree s ea ≡ t
    → run t a n ws ≡ got o m r
    → o ≡ p
    → m ≡ j
    → run (operand_tree s ea) a n ws ≡ got p j r
by_tree s a n r ws ea t o p m j e f x y = ap (λ (u : Tree Operand). run u a n ws) e ∙ f ∙ got_is r x y

-- a register number alone
alone : (s : Size) (a n : ℕ) (r : List ℕ) (m k : ℕ) (o : ℕ → Operand) → number_verdict k ≡ fine → mode_tree s m (k % 8) ≡ ret (o (k % 8))
    → run (operand_tree s (m * 8 + k % 8)) a n r ≡ got (o k) (n + 0) r
alone s a n r m k o e t =
    let l = number_lt k e in
    by_tree s a n r r (m * 8 + k % 8) (ret (o (k % 8))) (o (k % 8)) (o k) n (n + 0) (field_tree s m (k % 8) (omega arith) ∙ t) refl (ap o (omega arith)) (omega arith)

-- an index of a brief word
abbrev indexed : ℕ → ℕ → ℤ → IndexRegister → Operand
indexed base at z x = cond (eqb base 8) (PcIndex (reach at z) x) (IndirectIndex (Address base) z x)

brief_at : (base at w l : ℕ) (x : IndexRegister) (z : ℤ) → Brief w l x → signed8 l ≡ z → brief_operand base at w ≡ indexed base at z x
brief_at base at w l x z b e =
    cond_true (eqb (w / 512 % 4) 0) (index_operand base at w (signed8 (w % 256))) (scaled_operand base at w (signed8 (w % 256))) b.1
    ∙ ap (λ (y : ℤ). indexed base at y (index_of w)) (ap signed8 b.2 ∙ e)
    ∙ ap (λ (i : IndexRegister). indexed base at z i) b.3

brief_complete : (base a n : ℕ) (r : List ℕ) (x : IndexRegister) (z : ℤ) → fits (2 ^ 7) z ≡ true
    → number_verdict (number_of_register x.register) ≡ fine
    → index_size_verdict x.size ≡ fine
    → run (indexed_tree base) a n (brief_word x (bits_of z % 256) ∷ r) ≡ got (indexed base (word_address a n) z x) (n + 1) r
brief_complete base a n r x z h e f =
    let l : ℕ = bits_of z % 256 in
    let b = index_complete x l e f (omega arith) in
    brief_step base a n (brief_word x l) r b.0 ∙ got_is r (brief_at base (word_address a n) (brief_word x l) l x z b (signed8-low z h)) refl

-- a brief word's checks
abbrev Kept : Field → ℤ → IndexRegister → Type 0
Kept f z x = (holds f z ≡ true) × (number_verdict (number_of_register x.register) ≡ fine) × (index_size_verdict x.size ≡ fine)

brief_kept : (f : Field) (z : ℤ) (x : IndexRegister) → failure true (brief_items x z f) ≡ fine → Kept f z x
brief_kept f z x e =
    let p = fine_both (ranged true f z) _ e in
    let q = fine_both (number_verdict (number_of_register x.register)) _ p.1 in
    let r = fine_both (index_size_verdict x.size) fine q.1 in
    (range_holds f z p.0, q.0, r.0)

-- a short address: its low half, sign-extended
short_address : (v : ℕ) → v < 2 ^ 32 → fits (2 ^ 15) (signed32 (v % 4294967296)) ≡ true → bits_of (signed16 (v % 65536)) % 2 ^ 32 ≡ v
short_address v h f =
    let p : v % 4294967296 ≡ v = omega arith in
    let y = signed32 (v % 4294967296) in
    let q : bits_of y % 2 ^ 32 ≡ v % 4294967296 = low-signed32 (v % 4294967296) (omega arith) in
    let e : v % 65536 ≡ bits_of y % 65536 = omega arith in
    ap (λ (z : ℤ). bits_of z % 2 ^ 32) (ap signed16 e ∙ signed16-low y f) ∙ q ∙ p

at_field : (s : Size) (a n : ℕ) (o : Operand) → failure true (ea_items o s (word_address a n)) ≡ fine → is_typed o ≡ true → InTypes o
    → (r : List ℕ)
    → Complete s a n r o
at_field s a n (Immediate v) e i t r =
    bind_got (immediate_tree s) (λ x. ret (Immediate x)) a n (words_in (immediate_items v s) ++ r) (plain_number s v) (n + count_of (immediate_items v s)) r (immediate_complete s v e a n r)
at_field s a n (Register (Address k)) e i t r = alone s a n r 1 k (λ j. Register (Address j)) (fine_both (number_verdict k) fine e).0 refl
at_field s a n (Register (Data k)) e i t r = alone s a n r 0 k (λ j. Register (Data j)) (fine_both (number_verdict k) fine e).0 refl
at_field s a n (Indirect k) e i t r = alone s a n r 2 k Indirect (fine_both (number_verdict k) fine e).0 refl
at_field s a n (PostIndirect k) e i t r = alone s a n r 3 k PostIndirect (fine_both (number_verdict k) fine e).0 refl
at_field s a n (PreIndirect k) e i t r = alone s a n r 4 k PreIndirect (fine_both (number_verdict k) fine e).0 refl
at_field s a n (IndirectDisplacement z (Address k)) e i t r =
    let p = fine_both (number_verdict k) _ e in
    let l = number_lt k p.0 in
    let h : fits (2 ^ 15) z ≡ true = sym (displacement_holds z) ∙ range_holds field.Displacement z (fine_both (ranged true field.Displacement z) fine p.1).0 in
    let w : ℕ = bits_of z % 65536 in
    let j : k % 8 ≡ k = omega arith in
    by_tree s a n r (w ∷ r) (5 * 8 + k % 8) (mode_tree s 5 (k % 8)) (IndirectDisplacement (signed16 w) (Address (k % 8))) (IndirectDisplacement z (Address k)) (n + 1) (n + 1)
    (field_tree s 5 (k % 8) (omega arith)) refl (rw (signed16-low z h, j)) refl
at_field s a n (IndirectDisplacement z (Data k)) e i t r = reason_not 2 e
at_field s a n (IndirectIndex (Address k) z x) e i t r =
    let p = fine_both (number_verdict k) (failure true (brief_items x z field.IndexDisplacement)) e in
    let l = number_lt k p.0 in
    let c = brief_kept field.IndexDisplacement z x p.1 in
    let j : k % 8 ≡ k = omega arith in
    by_tree s a n r (brief_word x (bits_of z % 256) ∷ r) (6 * 8 + k % 8) (indexed_tree k) (indexed k (word_address a n) z x) (IndirectIndex (Address k) z x) (n + 1) (n + 1)
    (field_tree s 6 (k % 8) (omega arith) ∙ ap (mode_tree s 6) j)
    (brief_complete k a n r x z (sym (index_displacement_holds z) ∙ c.0) c.1 c.2)
    (cond_false (eqb k 8) (PcIndex (reach (word_address a n) z) x) (IndirectIndex (Address k) z x) (eqb_not k 8 (omega arith))) refl
at_field s a n (IndirectIndex (Data k) z x) e i t r = reason_not 2 e
at_field s a n (PcDisplacement d) e i t r =
    let at = word_address a n in
    let z = distance d at in
    let h : fits (2 ^ 15) z ≡ true = sym (pc_displacement_holds z) ∙ range_holds field.PcDisplacement z (fine_both (ranged true field.PcDisplacement z) fine e).0 in
    got_is r (ap PcDisplacement (ap (reach at) (signed16-low z h) ∙ reach-distance d at t (address_lt a n))) refl
at_field s a n (PcIndex d x) e i t r =
    let at = word_address a n in
    let z = distance d at in
    let c = brief_kept field.PcIndex z x e in
    brief_complete 8 a n r x z (sym (pc_index-holds z) ∙ c.0) c.1 c.2 ∙ got_is r (ap (λ (y : ℕ). PcIndex y x) (reach-distance d at t (address_lt a n))) refl
at_field s a n (Extended base w z outer) e i t r =
    let c = and-true (leb base 8) (is_canonical w) i in
    ap (λ (u : Tree Operand). run u a n (words_in (extended_items base w z outer (word_address a n)) ++ r)) (extended_tree s base (leb_is base 8 c.0))
    ∙ extended_complete base a n w z outer c.1 t.1 t.2 e r
at_field s a n (Absolute v width.Word) e i t r =
    let p = fine_both (ranged true field.LongAddress (signed64 v)) _ e in
    let q = fine_both (ranged true field.ShortAddress (signed32 (v % 4294967296))) fine p.1 in
    let l : v < 2 ^ 32 = ltb_is v (2 ^ 32) (sym (long_address_holds v) ∙ range_holds field.LongAddress (signed64 v) p.0) in
    let f = sym (short_address_holds (signed32 (v % 4294967296))) ∙ range_holds field.ShortAddress (signed32 (v % 4294967296)) q.0 in
    got_is r (ap (λ (x : ℕ). Absolute x width.Word) (short_address v l f)) refl
at_field s a n (Absolute v width.Long) e i t r =
    let p = fine_both (ranged true field.LongAddress (signed64 v)) fine e in
    let l : v < 2 ^ 32 = ltb_is v (2 ^ 32) (sym (long_address_holds v) ∙ range_holds field.LongAddress (signed64 v) p.0) in
    got_is r (ap (λ (x : ℕ). Absolute x width.Long) (omega arith)) (omega arith)

pub operand_complete : (s : Size) (a n ea : ℕ) (o : Operand) → Stands s (word_address a n) ea o
    → (r : List ℕ)
    → run (operand_tree s ea) a n (words_in (ea_items o s (word_address a n)) ++ r) ≡ got (plain_operand s o) (n + count_of (ea_items o s (word_address a n))) r
operand_complete s a n ea o h r =
    subst (λ (k : ℕ). run (operand_tree s k) a n (words_in (ea_items o s (word_address a n)) ++ r) ≡ got (plain_operand s o) (n + count_of (ea_items o s (word_address a n))) r)
    h.3 (at_field s a n o h.0 h.1 h.2 r)

-- ---- sound
word_fine : (f : Field) (z : ℤ) → holds f z ≡ true → or_else (ranged true f z) fine ≡ fine
word_fine f z h = both_fine (ranged true f z) fine (holds_range f z h) refl

-- a register number alone
alone_sound : (s : Size) (a n m k : ℕ) (ws : List ℕ) (o : Operand) → k < 8 → ea_items o s (word_address a n) ≡ register k ∷ [] → is_typed o ≡ true → InTypes o
    → ea_field o ≡ m * 8 + k
    → plain_operand s o ≡ o
    → OperandSound s a n (m * 8 + k) ws o n ws
alone_sound s a n m k ws o h p i t e q =
    sound_by s a n (m * 8 + k) ws o n ws (register k ∷ []) p (both_fine (number_verdict k) fine (lt_number k h) refl) i t e q refl (omega arith)

displacement_sound : (s : Size) (a n k : ℕ) → k < 8 → (ws : List ℕ) → Words ws → (o : Operand) (m : ℕ) (r : List ℕ)
    → run (mode_tree s 5 k) a n ws ≡ got o m r
    → OperandSound s a n (5 * 8 + k) ws o m r
displacement_sound s a n k hk [] h o m r e = short_no e
displacement_sound s a n k hk (w ∷ ws) h o m r e =
    let z = signed16 w in
    got_subst (OperandSound s a n (5 * 8 + k) (w ∷ ws)) e
    (sound_by s a n (5 * 8 + k) (w ∷ ws) (IndirectDisplacement z (Address k)) (n + 1) ws (ea_items (IndirectDisplacement z (Address k)) s (word_address a n)) refl
    (both_fine (number_verdict k) (or_else (ranged true field.Displacement z) fine) (lt_number k hk) (word_fine field.Displacement z (displacement_holds z ∙ signed16-fits w h.0)))
    refl tt (omega arith) refl
    (ap (λ (x : ℕ). x ∷ ws) (sym (low-signed16 w h.0)))
    refl)

-- a word sign-extended is a short address
extended_address : (w : ℕ) → w < 65536
    → (bits_of (signed16 w) % 2 ^ 32 % 65536 ≡ w) × (fits (2 ^ 15) (signed32 (bits_of (signed16 w) % 2 ^ 32 % 4294967296)) ≡ true)
extended_address w h =
    let b : ℕ = bits_of (signed16 w) in
    let p : b % 65536 ≡ w = low-signed16 w h in
    let q : b % 4294967296 % 4294967296 ≡ b % 4294967296 = omega arith in
    let f = signed16-fits w h in
    let g : signed32 (b % 4294967296 % 4294967296) ≡ signed16 w =
    ap signed32 q ∙ signed32-low (signed16 w) (as_fits32 (signed16 w) (fits_wider (2 ^ 15) (2 ^ 31) (signed16 w) (omega arith) f)) in
    (omega arith, ap (fits (2 ^ 15)) g ∙ f)

address_fine : (v : ℕ) → v < 2 ^ 32 → ranged true field.LongAddress (signed64 v) ≡ fine
address_fine v h = holds_range field.LongAddress (signed64 v) (long_address_holds v ∙ ltb-true v (2 ^ 32) h)

special_sound : (s : Size) (a n k : ℕ) (ws : List ℕ) → Words ws → (o : Operand) (m : ℕ) (r : List ℕ)
    → run (special_tree s k) a n ws ≡ got o m r
    → OperandSound s a n (7 * 8 + k) ws o m r
special_sound s a n zero [] h o m r e = short_no e
special_sound s a n zero (w ∷ ws) h o m r e =
    let v : ℕ = bits_of (signed16 w) % 2 ^ 32 in
    let x = extended_address w h.0 in
    let l : v < 2 ^ 32 = omega arith in
    got_subst (OperandSound s a n 56 (w ∷ ws)) e
    (sound_by s a n 56 (w ∷ ws) (Absolute v width.Word) (n + 1) ws (absolute_items v width.Word) refl
    (both_fine (ranged true field.LongAddress (signed64 v)) (or_else (ranged true field.ShortAddress (signed32 (v % 4294967296))) fine) (address_fine v l)
    (word_fine field.ShortAddress (signed32 (v % 4294967296)) (short_address_holds (signed32 (v % 4294967296)) ∙ x.1)))
    refl (omega arith) refl refl
    (ap (λ (y : ℕ). y ∷ ws) (sym x.0))
    refl)
special_sound s a n (suc zero) [] h o m r e = short_no e
special_sound s a n (suc zero) (w ∷ []) h o m r e = short_no e
special_sound s a n (suc zero) (w ∷ u ∷ ws) h o m r e =
    let v : ℕ = w * 65536 + u in
    let l : v < 2 ^ 32 = omega arith in
    let p : v % 4294967296 / 65536 ≡ w = omega arith in
    let q : v % 4294967296 % 65536 ≡ u = omega arith in
    got_subst (OperandSound s a n 57 (w ∷ u ∷ ws)) e
    (sound_by s a n 57 (w ∷ u ∷ ws) (Absolute v width.Long) (n + 1 + 1) ws (absolute_items v width.Long) refl
    (both_fine (ranged true field.LongAddress (signed64 v)) fine (address_fine v l) refl)
    refl (omega arith) refl refl
    (rw (p, q))
    (omega arith))
special_sound s a n (suc (suc zero)) [] h o m r e = short_no e
special_sound s a n (suc (suc zero)) (w ∷ ws) h o m r e =
    let at = word_address a n in
    let z = signed16 w in
    let f = signed16-fits w h.0 in
    let back : distance (reach at z) at ≡ z = distance-reach at z (address_lt a n) (as_fits32 z (fits_wider (2 ^ 15) (2 ^ 31) z (omega arith) f)) in
    got_subst (OperandSound s a n 58 (w ∷ ws)) e
    (sound_by s a n 58 (w ∷ ws) (PcDisplacement (reach at z)) (n + 1) ws (word_items field.PcDisplacement z) (ap (word_items field.PcDisplacement) back)
    (word_fine field.PcDisplacement z (pc_displacement_holds z ∙ f))
    refl (reach_lt at z) refl refl
    (ap (λ (x : ℕ). x ∷ ws) (sym (low-signed16 w h.0)))
    refl)
special_sound s a n (suc (suc (suc zero))) ws h o m r e = indexed_sound s 8 a n (omega arith) ws h o m r e
special_sound s a n (suc (suc (suc (suc zero)))) ws h o m r e =
    bind_then (immediate_tree s) (λ v. ret (Immediate v)) a n ws o m r e (λ v j s1 e1 f1.
    let d = immediate_sound s a n ws h v j s1 e1 in
    got_subst (OperandSound s a n 60 ws) f1
    (sound_by s a n 60 ws (Immediate v) j s1 (immediate_items v s) refl d.0 refl tt refl (ap Immediate d.1) d.2 d.3))
special_sound s a n (suc (suc (suc (suc (suc k))))) ws h o m r e = none_no e

mode_sound : (s : Size) (a n j k : ℕ) → k < 8 → (ws : List ℕ) → Words ws → (o : Operand) (m : ℕ) (r : List ℕ)
    → run (mode_tree s j k) a n ws ≡ got o m r
    → OperandSound s a n (j * 8 + k) ws o m r
mode_sound s a n zero k hk ws h o m r e =
    got_subst (OperandSound s a n (0 * 8 + k) ws) e (alone_sound s a n 0 k ws (Register (Data k)) hk refl refl tt (omega arith) refl)
mode_sound s a n (suc zero) k hk ws h o m r e =
    got_subst (OperandSound s a n (1 * 8 + k) ws) e (alone_sound s a n 1 k ws (Register (Address k)) hk refl refl tt (omega arith) refl)
mode_sound s a n (suc (suc zero)) k hk ws h o m r e =
    got_subst (OperandSound s a n (2 * 8 + k) ws) e (alone_sound s a n 2 k ws (Indirect k) hk refl refl tt (omega arith) refl)
mode_sound s a n (suc (suc (suc zero))) k hk ws h o m r e =
    got_subst (OperandSound s a n (3 * 8 + k) ws) e (alone_sound s a n 3 k ws (PostIndirect k) hk refl refl tt (omega arith) refl)
mode_sound s a n (suc (suc (suc (suc zero)))) k hk ws h o m r e =
    got_subst (OperandSound s a n (4 * 8 + k) ws) e (alone_sound s a n 4 k ws (PreIndirect k) hk refl refl tt (omega arith) refl)
mode_sound s a n (suc (suc (suc (suc (suc zero))))) k hk ws h o m r e = displacement_sound s a n k hk ws h o m r e
mode_sound s a n (suc (suc (suc (suc (suc (suc zero)))))) k hk ws h o m r e =
    let p : k % 8 ≡ k = omega arith in
    let q : extended_field k ≡ 6 * 8 + k = rw (ltb-true k 8 hk, p) in
    subst (λ (ea : ℕ). OperandSound s a n ea ws o m r) q (indexed_sound s k a n (omega arith) ws h o m r e)
mode_sound s a n (suc (suc (suc (suc (suc (suc (suc zero))))))) k hk ws h o m r e = special_sound s a n k ws h o m r e
mode_sound s a n (suc (suc (suc (suc (suc (suc (suc (suc j)))))))) k hk ws h o m r e = none_no e

pub operand_sound : (s : Size) (a n ea : ℕ) → ea < 64 → (ws : List ℕ) → Words ws → (o : Operand) (m : ℕ) (r : List ℕ)
    → run (operand_tree s ea) a n ws ≡ got o m r
    → Stands s (word_address a n) ea o
    × (plain_operand s o ≡ o)
    × (ws ≡ words_in (ea_items o s (word_address a n)) ++ r)
    × (m ≡ n + count_of (ea_items o s (word_address a n)))
operand_sound s a n ea l ws h o m r e =
    let p : ea / 8 * 8 + ea % 8 ≡ ea = omega arith in
    subst (λ (k : ℕ). OperandSound s a n k ws o m r) p (mode_sound s a n (ea / 8) (ea % 8) (omega arith) ws h o m r e)

-- ---- zeros complete it
special_clean : (s : Size) (k : ℕ) → Clean (special_tree s k)
special_clean s zero = (λ at. tt, λ at w. tt)
special_clean s (suc zero) = (λ at next. tt, λ at w. (λ next. tt, λ next v. tt))
special_clean s (suc (suc zero)) = (λ at. tt, λ at w. tt)
special_clean s (suc (suc (suc zero))) = indexed_clean 8
special_clean s (suc (suc (suc (suc zero)))) = bind_clean (immediate_tree s) (λ v. ret (Immediate v)) (immediate_clean s) (λ v. tt) (λ v. tt)
special_clean s (suc (suc (suc (suc (suc k))))) = tt

mode_clean : (s : Size) (m k : ℕ) → Clean (mode_tree s m k)
mode_clean s zero k = tt
mode_clean s (suc zero) k = tt
mode_clean s (suc (suc zero)) k = tt
mode_clean s (suc (suc (suc zero))) k = tt
mode_clean s (suc (suc (suc (suc zero)))) k = tt
mode_clean s (suc (suc (suc (suc (suc zero))))) k = (λ at. tt, λ at w. tt)
mode_clean s (suc (suc (suc (suc (suc (suc zero)))))) k = indexed_clean k
mode_clean s (suc (suc (suc (suc (suc (suc (suc zero))))))) k = special_clean s k
mode_clean s (suc (suc (suc (suc (suc (suc (suc (suc m)))))))) k = tt

pub operand_clean : (s : Size) (ea : ℕ) → Clean (operand_tree s ea)
operand_clean s ea = mode_clean s (ea / 8) (ea % 8)

special_alive : (s : Size) (k : ℕ) → k < 5 → Alive (special_tree s k)
special_alive s zero h = λ at. tt
special_alive s (suc zero) h = λ at next. tt
special_alive s (suc (suc zero)) h = λ at. tt
special_alive s (suc (suc (suc zero))) h = indexed_alive 8
special_alive s (suc (suc (suc (suc zero)))) h = bind_alive (immediate_tree s) (λ v. ret (Immediate v)) (immediate_alive s) (λ v. tt)
special_alive s (suc (suc (suc (suc (suc k))))) h = absurd (omega arith)

low_alive : (s : Size) (m k : ℕ) → m < 7 → Alive (mode_tree s m k)
low_alive s zero k h = tt
low_alive s (suc zero) k h = tt
low_alive s (suc (suc zero)) k h = tt
low_alive s (suc (suc (suc zero))) k h = tt
low_alive s (suc (suc (suc (suc zero)))) k h = tt
low_alive s (suc (suc (suc (suc (suc zero))))) k h = λ at. tt
low_alive s (suc (suc (suc (suc (suc (suc zero)))))) k h = indexed_alive k
low_alive s (suc (suc (suc (suc (suc (suc (suc m))))))) k h = absurd (omega arith)

pub operand_alive : (s : Size) (modes ea : ℕ) → permitted modes ea ≡ true → Alive (operand_tree s ea)
operand_alive s modes ea e = go (lt? ea 56)
  where
    l : mode_at ea < 12
    l = ltb_is (mode_at ea) 12 (and-true (ltb (mode_at ea) 12) (eqb (modes / 2 ^ mode_at ea % 2) 1) e).0

    go : Lt ea 56 → Alive (operand_tree s ea)
    go (less h f) = low_alive s (ea / 8) (ea % 8) (omega arith)
    go (past h f) =
        let j : ea - 49 < 12 = subst (λ (k : ℕ). k < 12) (cond_false (ltb ea 56) (ea / 8) (ea - 49) f) l in
        let p : 7 ≡ ea / 8 = omega arith in
        subst (λ (m : ℕ). Alive (mode_tree s m (ea % 8))) p (special_alive s (ea % 8) (omega arith))

-- ---- the reader's test of the modes is the encoder's
low_mode : (m k : ℕ) → m < 7 → k < 8 → mode_at (m * 8 + k) ≡ m
low_mode m k h g = rw (ltb-true (m * 8 + k) 56 (omega arith)) (omega arith)

pub mode_field_lem : (o : Operand) → is_typed o ≡ true → mode_at (ea_field o) ≡ mode_of o
mode_field_lem (Immediate v) i = refl
mode_field_lem (Register (Address k)) i = low_mode 1 (k % 8) (omega arith) (omega arith)
mode_field_lem (Register (Data k)) i = low_mode 0 (k % 8) (omega arith) (omega arith)
mode_field_lem (Indirect k) i = low_mode 2 (k % 8) (omega arith) (omega arith)
mode_field_lem (PostIndirect k) i = low_mode 3 (k % 8) (omega arith) (omega arith)
mode_field_lem (PreIndirect k) i = low_mode 4 (k % 8) (omega arith) (omega arith)
mode_field_lem (IndirectDisplacement z base) i = low_mode 5 (number_of_register base % 8) (omega arith) (omega arith)
mode_field_lem (IndirectIndex base z x) i = low_mode 6 (number_of_register base % 8) (omega arith) (omega arith)
mode_field_lem (PcDisplacement t) i = refl
mode_field_lem (PcIndex t x) i = refl
mode_field_lem (Extended base w z outer) i = go (lt? base 8)
  where
    l : base ≤ 8
    l = leb_is base 8 (and-true (leb base 8) (is_canonical w) i).0

    go : Lt base 8 → mode_at (extended_field base) ≡ extended_mode base
    go (less h e) =
        let p : extended_field base ≡ 6 * 8 + base % 8 = rw e in
        ap mode_at p ∙ low_mode 6 (base % 8) (omega arith) (omega arith) ∙ sym (cond_false (eqb base 8) 10 6 (eqb_not base 8 (omega arith)))
    go (past h e) = let p : 8 ≡ base = omega (arith, l) in subst (λ (b : ℕ). mode_at (extended_field b) ≡ extended_mode b) p refl
mode_field_lem (Absolute v width.Word) i = refl
mode_field_lem (Absolute v width.Long) i = refl

pub mode_lt : (o : Operand) → mode_of o < 12
mode_lt (Immediate v) = omega arith
mode_lt (Register (Address k)) = omega arith
mode_lt (Register (Data k)) = omega arith
mode_lt (Indirect k) = omega arith
mode_lt (PostIndirect k) = omega arith
mode_lt (PreIndirect k) = omega arith
mode_lt (IndirectDisplacement z base) = omega arith
mode_lt (IndirectIndex base z x) = omega arith
mode_lt (PcDisplacement t) = omega arith
mode_lt (PcIndex t x) = omega arith
mode_lt (Extended base w z outer) = cond_lt (eqb base 8) 10 6 12 (omega arith) (omega arith)
mode_lt (Absolute v width.Word) = omega arith
mode_lt (Absolute v width.Long) = omega arith

pub permits-is : (modes : ℕ) (s : Size) (at ea : ℕ) (o : Operand) → Stands s at ea o → permits (column_of modes) o ≡ permitted modes ea
unfolding permits
permits-is modes s at ea o h =
    let p : mode_at ea ≡ mode_of o = ap mode_at (sym h.3) ∙ mode_field_lem o h.1 in
    rw (p, ltb-true (mode_of o) 12 (mode_lt o)) (column_bit modes (mode_of o) (mode_lt o))

pub field_lt : (o : Operand) → ea_field o < 64
field_lt (Immediate v) = omega arith
field_lt (Register (Address k)) = omega arith
field_lt (Register (Data k)) = omega arith
field_lt (Indirect k) = omega arith
field_lt (PostIndirect k) = omega arith
field_lt (PreIndirect k) = omega arith
field_lt (IndirectDisplacement z base) = omega arith
field_lt (IndirectIndex base z x) = omega arith
field_lt (PcDisplacement t) = omega arith
field_lt (PcIndex t x) = omega arith
field_lt (Extended base w z outer) =
    let p = cond_lt (ltb base 8) 6 7 8 (omega arith) (omega arith) in
    let q = cond_lt (ltb base 8) (base % 8) 3 8 (omega arith) (omega arith) in
    omega (arith, p, q)
field_lt (Absolute v width.Word) = omega arith
field_lt (Absolute v width.Long) = omega arith

pub stands_lt : (s : Size) (at ea : ℕ) (o : Operand) → Stands s at ea o → ea < 64
stands_lt s at ea o h = subst (λ (k : ℕ). k < 64) h.3 (field_lt o)

-- a mode that a set may have is in six bits
pub permitted_lt : (modes ea : ℕ) → permitted modes ea ≡ true → ea < 64
permitted_lt modes ea e = go (lt? ea 56) (ltb_is (mode_at ea) 12 (and-true (ltb (mode_at ea) 12) _ e).0)
  where
    go : Lt ea 56 → mode_at ea < 12 → ea < 64
    go (Lt.less l g) h = omega arith
    go (Lt.past l g) h = omega (arith, rw g at h)
