-- Extension words: the index of a brief word, and both formats read.
use Rattle.std.specs.Prelude.{ℕ, ◌+◌, ◌*◌, ◌-◌, ◌/◌, ◌%◌, ◌^◌, ◌<◌, ◌≤◌, ◌≡◌, refl, Bool, true, false, cond, List, [], ◌∷◌, ◌++◌, leb, eqb, ℤ, pos}
use Rattle.std.proofs.Common.{ap, sym, ◌∙◌, subst, append_assoc, arith}
use Rattle.std.proofs.Math.Nat.{div-div-eq-div-mul}
use Rattle.isa.specs.declared.Size.{Size}
use Rattle.isa.specs.declared.Size.TheVariants.{Byte, Word, Long}
use Rattle.isa.specs.declared.RegisterOperand.{RegisterOperand}
use Rattle.isa.specs.declared.RegisterOperand.TheVariants.{Address, Data}
use Rattle.isa.specs.declared.IndexRegister.{IndexRegister}
use Rattle.isa.specs.declared.Operand.{Operand}
use Rattle.isa.specs.declared.Operand.TheVariants.{IndirectIndex, PcIndex, Extended}
use Rattle.isa.specs.declared.Field.{Field}
use Rattle.isa.specs.declared.Field.TheVariants as field
use Rattle.isa_spec.specs.Field.{holds}
use Rattle.isa_spec.specs.Code.{number_of_register, general, long_bit}
use Rattle.encode_spec.specs.Item.{Item, fine, failure, ranged, number_verdict, words_in, count_of, word_address}
use Rattle.isa_spec.specs.ExtensionWord.{is_full, base_size, outer_size, is_canonical}
use Rattle.encode_spec.specs.Ea.{index_size_verdict, brief_items, displacement_items, from_pc, full_items, brief_field, scaled_items, extended_items, extended_mode_field, extended_register_field, ea_field, ea_items, is_typed}
use Rattle.base_spec.specs.Signed.{bits_of}
use Rattle.read_spec.specs.Number.{signed8, reach}
use Rattle.read_spec.specs.Operand.{general_of, index_of, displacement_tree, landed, outer_tree, base_tree, full_tree, index_operand, scaled_operand, brief_operand, indexed_tree}
use Rattle.read_spec.specs.Plain.{plain_index, plain_brief, plain_operand}
use Rattle.read_spec.specs.Tree.{Tree, ret, got, run}
use Rattle.read_operand_laws.specs.Stands.{Stands}
use Rattle.read_spec.specs.Accepted.{Fits32, InTypes, Words}
use Rattle.read_operand_laws.specs.Facts.{fits, fits_wider, as_fits32, low-signed8, signed8-low, signed8-fits, reach-distance, distance-reach, reach_lt, pc_index-holds, index_displacement_holds, base_displacement-holds, outer_displacement_holds}
use Rattle.encode_facts.specs.Items.{fine_both, both_fine, reason_not, range_holds, holds_range, number_lt, lt_number, failure_append, words_in_append, count_append, address_lt}
use Rattle.read_operand_laws.specs.TreeLaws.{rest_words, Alive, Clean, got_subst, short_no, guard_true, guard_then, guard_clean, bind_got, bind_then, bind_alive, bind_clean}
use Rattle.read_operand_laws.specs.DisplacementLaws.{got_is, displacement_complete, displacement_sound, displacement_clean, based, landed-based, based-fits, based-landed, landed-fits}
use Rattle.isa_facts.specs.Code.{general_lt, long_lt}
use Rattle.base_facts.specs.Tests.{Lt, less, past, lt?, Eq, same, other, eq?, ltb-true, ltb_not, leb-true, eqb_is, eqb_not, and_yes, cond_true, cond_false, true_and, true_not_false}

-- ---- the index of a brief word
abbrev pub brief_word : IndexRegister → ℕ → ℕ
brief_word x low = general x.register * 4096 + long_bit x.size * 2048 + low

-- a brief word of scale 1, its displacement's byte and its index
abbrev pub Brief : ℕ → ℕ → IndexRegister → Type 0
Brief w low x = (is_full w ≡ false) × (eqb (w / 512 % 4) 0 ≡ true) × (w % 256 ≡ low) × (index_of w ≡ x)

general_of_lem : (r : RegisterOperand) → number_verdict (number_of_register r) ≡ fine → general_of (general r) ≡ r
general_of_lem (Address n) e =
    let l = number_lt n e in
    rw (ltb_not (8 + n % 8) 8 (omega arith)) (ap Address (omega arith))
general_of_lem (Data n) e =
    let l = number_lt n e in
    rw (ltb-true (n % 8) 8 (omega arith)) (ap Data (omega arith))

size_of : (s : Size) → index_size_verdict s ≡ fine → cond (eqb (long_bit s) 1) Long Word ≡ s
size_of Byte e = reason_not 4 e
size_of Word e = refl
size_of Long e = refl

index_is : {r q : RegisterOperand} {s t : Size} → r ≡ q → s ≡ t → ◌≡◌ {A = IndexRegister} (record { register = r; size = s }) (record { register = q; size = t })
index_is p q = rw (p, q)

pub index_complete : (x : IndexRegister) (l : ℕ) → number_verdict (number_of_register x.register) ≡ fine → index_size_verdict x.size ≡ fine → l < 256
    → Brief (brief_word x l) l x
index_complete x l e f h = go (general_lt x.register) (long_lt x.size)
  where
    go : general x.register < 16 → long_bit x.size < 2 → Brief (brief_word x l) l x
    go g b =
        let p : brief_word x l / 4096 ≡ general x.register = omega arith in
        let q : brief_word x l / 2048 % 2 ≡ long_bit x.size = omega arith in (
          eqb_not (brief_word x l / 256 % 2) 1 (omega arith),
          eqb_is (brief_word x l / 512 % 4) 0 (omega arith),
          omega arith,
          index_is (ap general_of p ∙ general_of_lem x.register e) (ap (λ (k : ℕ). cond (eqb k 1) Long Word) q ∙ size_of x.size f),
        )

-- what a brief word of scale 1 names is accepted, and makes its upper byte
abbrev IndexSound : ℕ → IndexRegister → Type 0
IndexSound w x =
    (number_verdict (number_of_register x.register) ≡ fine)
    × (index_size_verdict x.size ≡ fine)
    × (general x.register * 4096 + long_bit x.size * 2048 ≡ w / 256 * 256)

general_sound : (k : ℕ) → k < 16 → (number_verdict (number_of_register (general_of k)) ≡ fine) × (general (general_of k) ≡ k)
general_sound k h = go (lt? k 8)
  where
    go : Lt k 8 → (number_verdict (number_of_register (general_of k)) ≡ fine) × (general (general_of k) ≡ k)
    go (less l e) = rw e (lt_number k l, omega arith)
    go (past l e) = rw e (lt_number (k - 8) (omega arith), omega arith)

size_sound : (b : ℕ) → b < 2 → (index_size_verdict (cond (eqb b 1) Long Word) ≡ fine) × (long_bit (cond (eqb b 1) Long Word) ≡ b)
size_sound b h = go (eq? b 1)
  where
    go : Eq b 1 → (index_size_verdict (cond (eqb b 1) Long Word) ≡ fine) × (long_bit (cond (eqb b 1) Long Word) ≡ b)
    go (same p e) = rw e (refl, sym p)
    go (other p e) = rw e (refl, omega arith)

upper : (w : ℕ) → w / 256 % 2 ≡ 0 → w / 512 % 4 ≡ 0 → w / 4096 * 4096 + w / 2048 % 2 * 2048 ≡ w / 256 * 256
upper w e f =
    let p = div-div-eq-div-mul w 256 2 in
    let q = div-div-eq-div-mul w 512 4 in
    let r = div-div-eq-div-mul w 2048 2 in
    omega (arith, p, q, r)

index_sound : (w : ℕ) → w < 65536 → w / 256 % 2 ≡ 0 → w / 512 % 4 ≡ 0 → IndexSound w (index_of w)
index_sound w h e f =
    let g = general_sound (w / 4096) (omega arith) in
    let b = size_sound (w / 2048 % 2) (omega arith) in
    (g.0, b.0, rw (g.1, b.1) (upper w e f))

-- ---- an extension word of a full format
abbrev base_items : ℕ → ℤ → List Item
base_items w z = displacement_items (base_size w) z field.BaseDisplacement

abbrev outer_items : ℕ → ℤ → List Item
outer_items w z = displacement_items (outer_size w) z field.OuterDisplacement

full_complete : (base a n w : ℕ) (z outer : ℤ) → is_full w ≡ true → is_canonical w ≡ true → Fits32 z → Fits32 outer
    → failure true (full_items w (based (from_pc base w) (word_address a n) z) outer) ≡ fine
    → (r : List ℕ)
    → run (indexed_tree base) a n (words_in (full_items w (based (from_pc base w) (word_address a n) z) outer) ++ r)
    ≡ got (Extended base w z outer) (n + count_of (full_items w (based (from_pc base w) (word_address a n) z) outer)) r
full_complete base a n w z outer f c t u e r =
    let at = word_address a n in
    let y = based (from_pc base w) at z in
    let v = fine_both (failure true (base_items w y)) (failure true (outer_items w outer)) (sym (failure_append true (base_items w y) (outer_items w outer)) ∙ e) in
    let ws : List ℕ = words_in (base_items w y) ++ (words_in (outer_items w outer) ++ r) in
    let split : words_in (base_items w y ++ outer_items w outer) ++ r ≡ ws =
    ap (λ (l : List ℕ). l ++ r) (words_in_append (base_items w y) (outer_items w outer)) ∙ append_assoc (words_in (base_items w y)) (words_in (outer_items w outer)) r in
    let counted = count_append (base_items w y) (outer_items w outer) in
    ap (λ (l : List ℕ). run (indexed_tree base) a n (w ∷ l)) split
    ∙ ap (λ (k : Tree Operand). run k a (n + 1) ws) (cond_true (is_full w) (full_tree base at w) (ret (brief_operand base at w)) f ∙ guard_true (is_canonical w) (base_tree base at w) c)
    ∙ bind_got (displacement_tree (base_size w)) (outer_tree base at w) a (n + 1) ws y (n + 1 + count_of (base_items w y)) (words_in (outer_items w outer) ++ r)
    (displacement_complete (base_size w) field.BaseDisplacement base_displacement-holds y (based-fits (from_pc base w) at z t) v.0 a (n + 1) (words_in (outer_items w outer) ++ r))
    ∙ bind_got (displacement_tree (outer_size w)) (λ outer. ret (Extended base w (landed (from_pc base w) at y) outer)) a (n + 1 + count_of (base_items w y))
    (words_in (outer_items w outer) ++ r) outer
    (n + 1 + count_of (base_items w y) + count_of (outer_items w outer)) r
    (displacement_complete (outer_size w) field.OuterDisplacement outer_displacement_holds outer u v.1 a (n + 1 + count_of (base_items w y)) r)
    ∙ got_is r (ap (λ (x : ℤ). Extended base w x outer) (landed-based (from_pc base w) at z (address_lt a n) t)) (omega (arith, counted))

-- ---- one of a brief format
brief_pc : (base w : ℕ) → is_full w ≡ false → from_pc base w ≡ eqb base 8
brief_pc base w f = rw f (and_yes (eqb base 8))

brief_holds : (base : ℕ) (z : ℤ) → holds (brief_field base) z ≡ fits (2 ^ 7) z
brief_holds base z = go (eqb base 8)
  where
    go : (b : Bool) → holds (cond b field.PcIndex field.IndexDisplacement) z ≡ fits (2 ^ 7) z
    go true = pc_index-holds z
    go false = index_displacement_holds z

cond_plain : (pc : Bool) (base at : ℕ) (x : IndexRegister) (z : ℤ) → at < 2 ^ 32
    → cond pc (PcIndex (reach at (based pc at z)) x) (IndirectIndex (Address base) (based pc at z) x)
    ≡ cond pc (PcIndex (bits_of z % 2 ^ 32) x) (IndirectIndex (Address base) z x)
cond_plain true base at x z h = ap (λ (t : ℕ). PcIndex t x) (reach-distance (bits_of z % 2 ^ 32) at (omega arith) h)
cond_plain false base at x z h = refl

brief_plain : (base at w v : ℕ) (z : ℤ) → at < 2 ^ 32 → Fits32 z → v / 512 ≡ w / 512 → v / 2048 ≡ w / 2048 → v / 4096 ≡ w / 4096
    → signed8 (v % 256) ≡ based (eqb base 8) at z
    → brief_operand base at v ≡ plain_brief base w z
brief_plain base at w v z h t p q u s =
    rw (p, q, u, s) (rw (cond_plain (eqb base 8) base at (index_of w) z h, landed-based (eqb base 8) at z h t))

pub brief_step : (base a n w : ℕ) (r : List ℕ) → is_full w ≡ false → run (indexed_tree base) a n (w ∷ r) ≡ got (brief_operand base (word_address a n) w) (n + 1) r
brief_step base a n w r f =
    ap (λ (k : Tree Operand). run k a (n + 1) r) (cond_false (is_full w) (full_tree base (word_address a n) w) (ret (brief_operand base (word_address a n) w)) f)

scaled_complete : (base a n w : ℕ) (z : ℤ) → is_full w ≡ false → Fits32 z
    → failure true (scaled_items base w (based (eqb base 8) (word_address a n) z)) ≡ fine
    → (r : List ℕ)
    → run (indexed_tree base) a n (words_in (scaled_items base w (based (eqb base 8) (word_address a n) z)) ++ r) ≡ got (plain_brief base w z) (n + 1) r
scaled_complete base a n w z f t e r =
    let y = based (eqb base 8) (word_address a n) z in
    let h : fits (2 ^ 7) y ≡ true = sym (brief_holds base y) ∙ range_holds (brief_field base) y (fine_both (ranged true (brief_field base) y) fine e).0 in
    let v : ℕ = w / 256 * 256 + bits_of y % 256 in
    let p : v / 256 ≡ w / 256 = omega arith in
    let m : v % 256 ≡ bits_of y % 256 = omega arith in
    let p2 : v / 512 ≡ w / 512 = sym (div-div-eq-div-mul v 256 2) ∙ ap (λ (k : ℕ). k / 2) p ∙ div-div-eq-div-mul w 256 2 in
    let p8 : v / 2048 ≡ w / 2048 = sym (div-div-eq-div-mul v 256 8) ∙ ap (λ (k : ℕ). k / 8) p ∙ div-div-eq-div-mul w 256 8 in
    let p16 : v / 4096 ≡ w / 4096 = sym (div-div-eq-div-mul v 256 16) ∙ ap (λ (k : ℕ). k / 16) p ∙ div-div-eq-div-mul w 256 16 in
    brief_step base a n v r (ap (λ (k : ℕ). eqb (k % 2) 1) p ∙ f)
    ∙ got_is r (brief_plain base (word_address a n) w v z (address_lt a n) t p2 p8 p16 (ap signed8 m ∙ signed8-low y h)) refl

pub extended_complete : (base a n w : ℕ) (z outer : ℤ) → is_canonical w ≡ true → Fits32 z → Fits32 outer
    → failure true (extended_items base w z outer (word_address a n)) ≡ fine
    → (r : List ℕ)
    → run (indexed_tree base) a n (words_in (extended_items base w z outer (word_address a n)) ++ r)
    ≡ got (plain_operand Long (Extended base w z outer)) (n + count_of (extended_items base w z outer (word_address a n))) r
extended_complete base a n w z outer c t u e r = go (is_full w) refl
  where
    at : ℕ
    at = word_address a n

    Reads : List Item → Type 0
    Reads xs = failure true xs ≡ fine → run (indexed_tree base) a n (words_in xs ++ r) ≡ got (plain_operand Long (Extended base w z outer)) (n + count_of xs) r

    full : is_full w ≡ true → Reads (full_items w (based (from_pc base w) at z) outer)
    full f g = full_complete base a n w z outer f c t u g r ∙ got_is r (sym (cond_true (is_full w) (Extended base w z outer) (plain_brief base w z) f)) refl

    brief : is_full w ≡ false → Reads (scaled_items base w (based (eqb base 8) at z))
    brief f g = scaled_complete base a n w z f t g r ∙ got_is r (sym (cond_false (is_full w) (Extended base w z outer) (plain_brief base w z) f)) refl

    go : (b : Bool) → is_full w ≡ b
        → run (indexed_tree base) a n (words_in (extended_items base w z outer at) ++ r)
        ≡ got (plain_operand Long (Extended base w z outer)) (n + count_of (extended_items base w z outer at)) r
    go true f = subst Reads (sym (cond_true (is_full w) (full_items w (based (from_pc base w) at z) outer) (scaled_items base w (based (from_pc base w) at z)) f)) (full f) e
    go false f =
        subst Reads
        (sym
        (cond_false (is_full w) (full_items w (based (from_pc base w) at z) outer) (scaled_items base w (based (from_pc base w) at z)) f
        ∙ ap (λ (b : Bool). scaled_items base w (based b at z)) (brief_pc base w f)))
        (brief f) e

-- ---- what is read stands, and is written so
abbrev pub OperandSound : Size → ℕ → ℕ → ℕ → List ℕ → Operand → ℕ → List ℕ → Type 0
OperandSound s a n ea ws o m r =
    Stands s (word_address a n) ea o
    × (plain_operand s o ≡ o)
    × (ws ≡ words_in (ea_items o s (word_address a n)) ++ r)
    × (m ≡ n + count_of (ea_items o s (word_address a n)))

-- by the items that the operand comes to
pub sound_by : (s : Size) (a n ea : ℕ) (ws : List ℕ) (o : Operand) (m : ℕ) (r : List ℕ) (xs : List Item)
    → ea_items o s (word_address a n) ≡ xs
    → failure true xs ≡ fine
    → is_typed o ≡ true
    → InTypes o
    → ea_field o ≡ ea
    → plain_operand s o ≡ o
    → ws ≡ words_in xs ++ r
    → m ≡ n + count_of xs
    → OperandSound s a n ea ws o m r
sound_by s a n ea ws o m r xs p f i t e q w c = (
  (ap (failure true) p ∙ f, i, t, e),
  q,
  w ∙ ap (λ (ys : List Item). words_in ys ++ r) (sym p),
  c ∙ ap (λ (ys : List Item). n + count_of ys) (sym p),
)

abbrev pub extended_field : ℕ → ℕ
extended_field base = extended_mode_field base * 8 + extended_register_field base

cut : (us vs ws s r : List ℕ) → ws ≡ us ++ s → s ≡ vs ++ r → ws ≡ (us ++ vs) ++ r
cut us vs ws s r p q = p ∙ ap (λ (l : List ℕ). us ++ l) q ∙ sym (append_assoc us vs r)

full_sound : (s : Size) (base a n w : ℕ) (ws : List ℕ) → base ≤ 8 → w < 65536 → Words ws → is_full w ≡ true
    → (o : Operand) (m : ℕ) (r : List ℕ)
    → run (full_tree base (word_address a n) w) a (n + 1) ws ≡ got o m r
    → OperandSound s a n (extended_field base) (w ∷ ws) o m r
full_sound s base a n w ws hb hw h f o m r e =
    let at = word_address a n in
    let g = guard_then (is_canonical w) (base_tree base at w) a (n + 1) ws o m r e in
    bind_then (displacement_tree (base_size w)) (outer_tree base at w) a (n + 1) ws o m r g.1 (λ z j s1 e1 f1.
    bind_then (displacement_tree (outer_size w)) (λ outer. ret (Extended base w (landed (from_pc base w) at z) outer)) a j s1 o m r f1 (λ outer k s2 e2 f2.
    let d = displacement_sound (base_size w) field.BaseDisplacement base_displacement-holds a (n + 1) ws h z j s1 e1 in
    let h1 : Words s1 = rest_words (words_in (base_items w z)) s1 (subst Words d.2 h) in
    let d2 = displacement_sound (outer_size w) field.OuterDisplacement outer_displacement_holds a j s1 h1 outer k s2 e2 in
    let y = landed (from_pc base w) at z in
    let items : extended_items base w y outer at ≡ full_items w z outer =
    cond_true (is_full w) (full_items w (based (from_pc base w) at y) outer) (scaled_items base w (based (from_pc base w) at y)) f
    ∙ ap (λ (x : ℤ). full_items w x outer) (based-landed (from_pc base w) at z (address_lt a n) d.0) in
    let counted = count_append (base_items w z) (outer_items w outer) in
    got_subst (OperandSound s a n (extended_field base) (w ∷ ws)) f2
    (sound_by s a n (extended_field base) (w ∷ ws) (Extended base w y outer) k s2 (full_items w z outer) items
    (failure_append true (base_items w z) (outer_items w outer) ∙ both_fine (failure true (base_items w z)) (failure true (outer_items w outer)) d.1 d2.1)
    (true_and (leb base 8) (is_canonical w) (leb-true base 8 hb) g.0)
    (hw, landed-fits (from_pc base w) at z d.0, d2.0)
    refl
    (cond_true (is_full w) (Extended base w y outer) (plain_brief base w y) f)
    (ap (λ (l : List ℕ). w ∷ l)
    (cut (words_in (base_items w z)) (words_in (outer_items w outer)) ws s1 s2 d.2 d2.2
    ∙ ap (λ (l : List ℕ). l ++ s2) (sym (words_in_append (base_items w z) (outer_items w outer)))))
    (omega (arith, counted, d.3, d2.3)))))

brief_fine : (x : IndexRegister) (z : ℤ) (f : Field) → holds f z ≡ true → number_verdict (number_of_register x.register) ≡ fine → index_size_verdict x.size ≡ fine
    → failure true (brief_items x z f) ≡ fine
brief_fine x z f h p q = rw (holds_range f z h, p, q)

-- a brief word in two bytes
byte_word : (w u l : ℕ) → u ≡ w / 256 * 256 → l ≡ w % 256 → w ≡ u + l
byte_word w u l p q = omega arith

module _ (s : Size) (a n w : ℕ) (ws : List ℕ) (hw : w < 65536) (even : w / 256 % 2 ≡ 0) where
  abbrev offset : ℤ
  offset = signed8 (w % 256)

  offset-fits : fits (2 ^ 7) (signed8 (w % 256)) ≡ true
  offset-fits = signed8-fits (w % 256) (omega arith)

  offset-32 : Fits32 (signed8 (w % 256))
  offset-32 = as_fits32 offset (fits_wider (2 ^ 7) (2 ^ 31) offset (omega arith) offset-fits)

  scaled_sound : (base : ℕ) → base ≤ 8 → eqb (w / 512 % 4) 0 ≡ false
      → OperandSound s a n (extended_field base) (w ∷ ws) (scaled_operand base (word_address a n) w offset) (n + 1) ws
  scaled_sound base hb g =
      let at = word_address a n in
      let v : ℕ = w / 512 * 512 in
      let y = landed (eqb base 8) at offset in
      let p : v / 256 ≡ w / 256 = omega (arith, div-div-eq-div-mul w 256 2) in
      let q : v / 512 ≡ w / 512 = omega arith in
      let f : is_full v ≡ false = eqb_not (v / 256 % 2) 1 (omega arith) in
      let items : extended_items base v y (pos 0) at ≡ scaled_items base v offset =
      cond_false (is_full v) (full_items v (based (from_pc base v) at y) (pos 0)) (scaled_items base v (based (from_pc base v) at y)) f
      ∙ ap (λ (b : Bool). scaled_items base v (based b at y)) (brief_pc base v f)
      ∙ ap (λ (x : ℤ). scaled_items base v x) (based-landed (eqb base 8) at offset (address_lt a n) offset-32) in
      sound_by s a n (extended_field base) (w ∷ ws) (Extended base v y (pos 0)) (n + 1) ws (scaled_items base v offset) items
      (both_fine (ranged true (brief_field base) offset) fine (holds_range (brief_field base) offset (brief_holds base offset ∙ offset-fits)) refl)
      (true_and (leb base 8) (is_canonical v) (leb-true base 8 hb) (rw f))
      (omega arith, landed-fits (eqb base 8) at offset offset-32, refl)
      refl
      (cond_false (is_full v) (Extended base v y (pos 0)) (plain_brief base v y) f
      ∙ cond_false (eqb (v / 512 % 4) 0) (plain_index base v y) (Extended base (v / 512 * 512) y (pos 0)) (ap (λ (k : ℕ). eqb (k % 4) 0) q ∙ g)
      ∙ ap (λ (k : ℕ). Extended base (k * 512) y (pos 0)) q)
      (ap (λ (x : ℕ). x ∷ ws) (byte_word w (v / 256 * 256) (bits_of offset % 256) (ap (λ (k : ℕ). k * 256) p) (low-signed8 (w % 256) (omega arith))))
      refl

  index_word : w / 512 % 4 ≡ 0 → w ≡ brief_word (index_of w) (bits_of offset % 256)
  index_word g =
      byte_word w (general (index_of w).register * 4096 + long_bit (index_of w).size * 2048) (bits_of offset % 256) (index_sound w hw even g).2
      (low-signed8 (w % 256) (omega arith))

  pc_index_sound : w / 512 % 4 ≡ 0 → OperandSound s a n 59 (w ∷ ws) (PcIndex (reach (word_address a n) offset) (index_of w)) (n + 1) ws
  pc_index_sound g =
      let at = word_address a n in
      let i = index_sound w hw even g in
      sound_by s a n 59 (w ∷ ws) (PcIndex (reach at offset) (index_of w)) (n + 1) ws (brief_items (index_of w) offset field.PcIndex)
      (ap (λ (x : ℤ). brief_items (index_of w) x field.PcIndex) (distance-reach at offset (address_lt a n) offset-32))
      (brief_fine (index_of w) offset field.PcIndex (pc_index-holds offset ∙ offset-fits) i.0 i.1)
      refl
      (reach_lt at offset)
      refl
      refl
      (ap (λ (x : ℕ). x ∷ ws) (index_word g))
      refl

  address_index_sound : (base : ℕ) → base < 8 → w / 512 % 4 ≡ 0
      → OperandSound s a n (48 + base % 8) (w ∷ ws) (IndirectIndex (Address base) offset (index_of w)) (n + 1) ws
  address_index_sound base hb g =
      let i = index_sound w hw even g in
      sound_by s a n (48 + base % 8) (w ∷ ws) (IndirectIndex (Address base) offset (index_of w)) (n + 1) ws (ea_items (IndirectIndex (Address base) offset (index_of w)) s (word_address a n))
      refl
      (both_fine (number_verdict base) (failure true (brief_items (index_of w) offset field.IndexDisplacement)) (lt_number base hb)
      (brief_fine (index_of w) offset field.IndexDisplacement (index_displacement_holds offset ∙ offset-fits) i.0 i.1))
      refl
      tt
      refl
      refl
      (ap (λ (x : ℕ). x ∷ ws) (index_word g))
      refl

brief_sound : (s : Size) (base a n w : ℕ) (ws : List ℕ) → base ≤ 8 → w < 65536 → is_full w ≡ false
    → OperandSound s a n (extended_field base) (w ∷ ws) (brief_operand base (word_address a n) w) (n + 1) ws
brief_sound s base a n w ws hb hw f = go (eq? (w / 256 % 2) 1) (eq? (w / 512 % 4) 0)
  where
    at : ℕ
    at = word_address a n

    z : ℤ
    z = signed8 (w % 256)

    Sound : Operand → Type 0
    Sound o = OperandSound s a n (extended_field base) (w ∷ ws) o (n + 1) ws

    index : w / 256 % 2 ≡ 0 → w / 512 % 4 ≡ 0 → Eq base 8 → Sound (index_operand base at w z)
    index even g (same p e) =
        subst (λ (b : ℕ). OperandSound s a n (extended_field b) (w ∷ ws) (index_operand b at w z) (n + 1) ws) (sym p) (pc_index_sound s a n w ws hw even g)
    index even g (other p e) =
        let l : base < 8 = omega arith in
        let field : 48 + base % 8 ≡ extended_field base = rw (ltb-true base 8 l) in
        subst Sound (sym (cond_false (eqb base 8) (PcIndex (reach at z) (index_of w)) (IndirectIndex (Address base) z (index_of w)) e))
        (subst (λ (ea : ℕ). OperandSound s a n ea (w ∷ ws) (IndirectIndex (Address base) z (index_of w)) (n + 1) ws) field (address_index_sound s a n w ws hw even base l g))

    go : Eq (w / 256 % 2) 1 → Eq (w / 512 % 4) 0 → Sound (brief_operand base at w)
    go (same p e) x = true_not_false e f
    go (other p e) (same q g) =
        subst Sound (sym (cond_true (eqb (w / 512 % 4) 0) (index_operand base at w z) (scaled_operand base at w z) g)) (index (omega arith) q (eq? base 8))
    go (other p e) (other q g) =
        subst Sound (sym (cond_false (eqb (w / 512 % 4) 0) (index_operand base at w z) (scaled_operand base at w z) g))
        (scaled_sound s a n w ws hw (omega arith) base hb g)

pub indexed_sound : (s : Size) (base a n : ℕ) → base ≤ 8 → (ws : List ℕ) → Words ws → (o : Operand) (m : ℕ) (r : List ℕ)
    → run (indexed_tree base) a n ws ≡ got o m r
    → OperandSound s a n (extended_field base) ws o m r
indexed_sound s base a n hb [] h o m r e = short_no e
indexed_sound s base a n hb (w ∷ ws) h o m r e = go (is_full w) refl
  where
    at : ℕ
    at = word_address a n

    read : run (cond (is_full w) (full_tree base at w) (ret (brief_operand base at w))) a (n + 1) ws ≡ got o m r
    read = e

    by : (t : Tree Operand) → cond (is_full w) (full_tree base at w) (ret (brief_operand base at w)) ≡ t → run t a (n + 1) ws ≡ got o m r
    by t p = subst (λ (t : Tree Operand). run t a (n + 1) ws ≡ got o m r) p read

    go : (b : Bool) → is_full w ≡ b → OperandSound s a n (extended_field base) (w ∷ ws) o m r
    go true f = full_sound s base a n w ws hb h.0 h.1 f o m r (by (full_tree base at w) (cond_true (is_full w) (full_tree base at w) (ret (brief_operand base at w)) f))
    go false f =
        got_subst (OperandSound s a n (extended_field base) (w ∷ ws)) (by (ret (brief_operand base at w)) (cond_false (is_full w) (full_tree base at w) (ret (brief_operand base at w)) f))
        (brief_sound s base a n w ws hb h.0 f)

-- ---- zeros complete it
full_clean : (base at w : ℕ) → Clean (full_tree base at w)
full_clean base at w =
    guard_clean (is_canonical w) (base_tree base at w) (λ c.
    bind_clean (displacement_tree (base_size w)) (outer_tree base at w) (displacement_clean (base_size w)).1
    (λ z. bind_alive (displacement_tree (outer_size w)) (λ outer. ret (Extended base w (landed (from_pc base w) at z) outer)) (displacement_clean (outer_size w)).0 (λ outer. tt))
    (λ z. bind_clean (displacement_tree (outer_size w)) (λ outer. ret (Extended base w (landed (from_pc base w) at z) outer)) (displacement_clean (outer_size w)).1
    (λ outer. tt) (λ outer. tt)))

cond_clean : (b : Bool) (t : Tree Operand) (o : Operand) → Clean t → Clean (cond b t (ret o))
cond_clean true t o c = c
cond_clean false t o c = tt

pub indexed_alive : (base : ℕ) → Alive (indexed_tree base)
indexed_alive base = λ at. tt

pub indexed_clean : (base : ℕ) → Clean (indexed_tree base)
indexed_clean base = (λ at. tt, λ at w. cond_clean (is_full w) (full_tree base at w) (brief_operand base at w) (full_clean base at w))
