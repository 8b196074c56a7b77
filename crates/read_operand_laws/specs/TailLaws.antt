-- A tail that follows an operation word is read in its plain form, and a tail that is read follows it and is plain.
use Rattle.std.specs.Prelude.{ℕ, ◌+◌, ◌*◌, ◌/◌, ◌%◌, ◌<◌, ◌≡◌, refl, true, ◌&&◌, List, [], ◌∷◌, ◌++◌, length}
use Rattle.std.proofs.Common.{ap, sym, ◌∙◌, subst, append_assoc, arith, length-append}
use Rattle.isa.specs.declared.Operand.{Operand}
use Rattle.encode_spec.specs.Item.{Item, words_in, count_of, word_address}
use Rattle.encode_spec.specs.Ea.{ea_items}
use Rattle.read_spec.specs.declared.Specifier.{Specifier}
use Rattle.read_spec.specs.declared.Specifier.TheVariants as specifier
use Rattle.read_spec.specs.declared.Layout.{Layout}
use Rattle.read_spec.specs.declared.Tail.{Tail}
use Rattle.read_spec.specs.Tree.{Tree, ret, more, got, run, bind, guard}
use Rattle.read_spec.specs.Operand.{permitted, operand_tree}
use Rattle.read_spec.specs.Plain.{plain_operand}
use Rattle.read_spec.specs.Layout.{valid, one_word, two_words, specifier_tree, accepts, tail_tree}
use Rattle.read_operand_laws.specs.TailStands.{specifier_words, OneStands, TwoStand, SpecifierStands, source_at, destination_at, TailStands, tail_words, plain_tail}
use Rattle.encode_facts.specs.Items.{words_count}
use Rattle.base_facts.specs.Tests.{and-true}
use Rattle.read_operand_laws.specs.TreeLaws.{rest_words, Alive, Clean, got_subst, short_no, guard_true, guard_then, guard_clean, guard_alive, bind_got, bind_then, bind_alive, bind_clean}
use Rattle.read_spec.specs.Accepted.{Words}
use Rattle.read_operand_laws.specs.DisplacementLaws.{got_is}
use Rattle.read_operand_laws.specs.OperandLaws.{operand_complete, operand_sound, operand_clean, operand_alive, permitted_lt}

-- ---- the specifier
one_complete : (k : Specifier) (v : ℕ) → OneStands k v → (a n : ℕ) (r : List ℕ) → run (one_word k) a n (v ∷ r) ≡ got v (n + 1) r
one_complete k v h a n r = ap (λ (t : Tree ℕ). run t a (n + 1) r) (guard_true (valid k v) (ret v) h.1)

two_complete : (k : Specifier) (v : ℕ) → TwoStand k v → (a n : ℕ) (r : List ℕ) → run (two_words k) a n (v / 65536 ∷ v % 65536 ∷ r) ≡ got v (n + 2) r
two_complete k v h a n r =
    let high : ℕ = v / 65536 in
    let low : ℕ = v % 65536 in
    ap (λ (t : Tree ℕ). run t a (n + 1) (low ∷ r)) (guard_true (valid k high) (more (λ next l. guard (valid k l) (ret (high * 65536 + l)))) h.1)
    ∙ ap (λ (t : Tree ℕ). run t a (n + 1 + 1) r) (guard_true (valid k low) (ret (high * 65536 + low)) h.2)
    ∙ got_is r (omega arith) (omega arith)

pub specifier_complete : (k : Specifier) (v : ℕ) → SpecifierStands k v → (a n : ℕ) (r : List ℕ)
    → run (specifier_tree k) a n (specifier_words k v ++ r) ≡ got v (n + length (specifier_words k v)) r
specifier_complete specifier.Nothing v h a n r = got_is r (sym h) (omega arith)
specifier_complete specifier.Word v h a n r = one_complete specifier.Word v h a n r
specifier_complete specifier.Byte v h a n r = one_complete specifier.Byte v h a n r
specifier_complete specifier.General v h a n r = one_complete specifier.General v h a n r
specifier_complete specifier.Multiply v h a n r = one_complete specifier.Multiply v h a n r
specifier_complete specifier.Divide v h a n r = one_complete specifier.Divide v h a n r
specifier_complete specifier.Compare v h a n r = one_complete specifier.Compare v h a n r
specifier_complete specifier.BitField v h a n r = one_complete specifier.BitField v h a n r
specifier_complete specifier.Long v h a n r = two_complete specifier.Long v h a n r
specifier_complete specifier.CompareTwo v h a n r = two_complete specifier.CompareTwo v h a n r

abbrev OneSound : Specifier → ℕ → List ℕ → ℕ → ℕ → List ℕ → Type 0
OneSound k n ws v m r = OneStands k v × (ws ≡ v ∷ r) × (m ≡ n + 1)

one_sound : (k : Specifier) (a n : ℕ) (ws : List ℕ) → Words ws → (v m : ℕ) (r : List ℕ) → run (one_word k) a n ws ≡ got v m r → OneSound k n ws v m r
one_sound k a n [] h v m r e = short_no e
one_sound k a n (w ∷ ws) h v m r e =
    let g = guard_then (valid k w) (ret w) a (n + 1) ws v m r e in
    got_subst (OneSound k n (w ∷ ws)) g.1 ((h.0, g.0), refl, refl)

abbrev TwoSound : Specifier → ℕ → List ℕ → ℕ → ℕ → List ℕ → Type 0
TwoSound k n ws v m r = TwoStand k v × (ws ≡ v / 65536 ∷ v % 65536 ∷ r) × (m ≡ n + 2)

second_sound : (k : Specifier) (a n w : ℕ) → w < 65536 → valid k w ≡ true → (ws : List ℕ) → Words ws → (v m : ℕ) (r : List ℕ)
    → run (more (λ next l. guard (valid k l) (ret (w * 65536 + l)))) a (n + 1) ws ≡ got v m r
    → TwoSound k n (w ∷ ws) v m r
second_sound k a n w hw x [] h v m r e = short_no e
second_sound k a n w hw x (u ∷ ws) h v m r e =
    let g = guard_then (valid k u) (ret (w * 65536 + u)) a (n + 1 + 1) ws v m r e in
    let p : (w * 65536 + u) / 65536 ≡ w = omega arith in
    let q : (w * 65536 + u) % 65536 ≡ u = omega arith in
    got_subst (TwoSound k n (w ∷ u ∷ ws)) g.1
    ((omega arith, ap (valid k) p ∙ x, ap (valid k) q ∙ g.0), rw (p, q), omega arith)

two_sound : (k : Specifier) (a n : ℕ) (ws : List ℕ) → Words ws → (v m : ℕ) (r : List ℕ) → run (two_words k) a n ws ≡ got v m r → TwoSound k n ws v m r
two_sound k a n [] h v m r e = short_no e
two_sound k a n (w ∷ ws) h v m r e =
    let g = guard_then (valid k w) (more (λ next l. guard (valid k l) (ret (w * 65536 + l)))) a (n + 1) ws v m r e in
    second_sound k a n w h.0 g.0 ws h.1 v m r g.1

abbrev pub SpecifierSound : Specifier → ℕ → List ℕ → ℕ → ℕ → List ℕ → Type 0
SpecifierSound k n ws v m r = SpecifierStands k v × (ws ≡ specifier_words k v ++ r) × (m ≡ n + length (specifier_words k v))

pub specifier_sound : (k : Specifier) (a n : ℕ) (ws : List ℕ) → Words ws → (v m : ℕ) (r : List ℕ)
    → run (specifier_tree k) a n ws ≡ got v m r
    → SpecifierSound k n ws v m r
specifier_sound specifier.Nothing a n ws h v m r e = got_subst (SpecifierSound specifier.Nothing n ws) e (refl, refl, omega arith)
specifier_sound specifier.Word a n ws h v m r e = one_sound specifier.Word a n ws h v m r e
specifier_sound specifier.Byte a n ws h v m r e = one_sound specifier.Byte a n ws h v m r e
specifier_sound specifier.General a n ws h v m r e = one_sound specifier.General a n ws h v m r e
specifier_sound specifier.Multiply a n ws h v m r e = one_sound specifier.Multiply a n ws h v m r e
specifier_sound specifier.Divide a n ws h v m r e = one_sound specifier.Divide a n ws h v m r e
specifier_sound specifier.Compare a n ws h v m r e = one_sound specifier.Compare a n ws h v m r e
specifier_sound specifier.BitField a n ws h v m r e = one_sound specifier.BitField a n ws h v m r e
specifier_sound specifier.Long a n ws h v m r e = two_sound specifier.Long a n ws h v m r e
specifier_sound specifier.CompareTwo a n ws h v m r e = two_sound specifier.CompareTwo a n ws h v m r e

one_clean : (k : Specifier) → valid k 0 ≡ true → Clean (one_word k)
one_clean k z = (λ at. guard_alive (valid k 0) (ret 0) z tt, λ at w. guard_clean (valid k w) (ret w) (λ e. tt))

two_clean : (k : Specifier) → valid k 0 ≡ true → Clean (two_words k)
two_clean k z = (
  λ at. guard_alive (valid k 0) (more (λ next l. guard (valid k l) (ret (0 * 65536 + l)))) z (λ next. guard_alive (valid k 0) (ret (0 * 65536 + 0)) z tt),
  λ at w. guard_clean (valid k w) (more (λ next l. guard (valid k l) (ret (w * 65536 + l)))) (λ e.
      (λ next. guard_alive (valid k 0) (ret (w * 65536 + 0)) z tt, λ next l. guard_clean (valid k l) (ret (w * 65536 + l)) (λ e. tt))),
)

specifier_clean : (k : Specifier) → Clean (specifier_tree k)
specifier_clean specifier.Nothing = tt
specifier_clean specifier.Word = one_clean specifier.Word refl
specifier_clean specifier.Byte = one_clean specifier.Byte refl
specifier_clean specifier.General = one_clean specifier.General refl
specifier_clean specifier.Multiply = one_clean specifier.Multiply refl
specifier_clean specifier.Divide = one_clean specifier.Divide refl
specifier_clean specifier.Compare = one_clean specifier.Compare refl
specifier_clean specifier.BitField = one_clean specifier.BitField refl
specifier_clean specifier.Long = two_clean specifier.Long refl
specifier_clean specifier.CompareTwo = two_clean specifier.CompareTwo refl

-- ---- the parts of the whole
abbrev made : ℕ → Operand → Operand → Tail
made v o d = record { value = v; source = o; destination = d }

abbrev last_part : Layout → ℕ → Operand → Tree Tail
last_part l v o = bind (operand_tree l.size l.destination) (λ d. ret (made v o d))

abbrev operand_part : Layout → ℕ → Tree Tail
operand_part l v = bind (operand_tree l.size l.source) (λ o. last_part l v o)

abbrev whole_part : Layout → Tree Tail
whole_part l = bind (specifier_tree l.specifier) (λ v. operand_part l v)

following_length : (us vs ws : List ℕ) → length (us ++ (vs ++ ws)) ≡ length us + (length vs + length ws)
following_length us vs ws = length-append us (vs ++ ws) ∙ ap (λ (k : ℕ). length us + k) (length-append vs ws)

following_count : (us : List ℕ) (xs ys : List Item)
    → 1 + length us + count_of xs + count_of ys ≡ 1 + length (us ++ (words_in xs ++ words_in ys))
following_count us xs ys = omega (arith, following_length us (words_in xs) (words_in ys), words_count xs, words_count ys)

following_append : (us vs ws r : List ℕ) → (us ++ (vs ++ ws)) ++ r ≡ us ++ (vs ++ (ws ++ r))
following_append us vs ws r = append_assoc us (vs ++ ws) r ∙ ap (λ (l : List ℕ). us ++ l) (append_assoc vs ws r)

pub tail_complete : (a : ℕ) (l : Layout) (f : Tail) → TailStands a l f
    → (r : List ℕ)
    → run (tail_tree l) a 1 (tail_words a l f ++ r) ≡ got (plain_tail l.size f) (1 + length (tail_words a l f)) r
tail_complete a l f h r =
    let us = specifier_words l.specifier f.value in
    let xs = ea_items f.source l.size (source_at a l f) in
    let ys = ea_items f.destination l.size (destination_at a l f) in
    let n : ℕ = 1 + length us in
    let o = plain_operand l.size f.source in
    let d = plain_operand l.size f.destination in
    ap (run (tail_tree l) a 1) (following_append us (words_in xs) (words_in ys) r)
    ∙ ap (λ (t : Tree Tail). run t a 1 (us ++ (words_in xs ++ (words_in ys ++ r)))) (guard_true (accepts l) (whole_part l) h.0)
    ∙ bind_got (specifier_tree l.specifier) (λ v. operand_part l v) a 1 (us ++ (words_in xs ++ (words_in ys ++ r))) f.value n (words_in xs ++ (words_in ys ++ r))
    (specifier_complete l.specifier f.value h.1 a 1 (words_in xs ++ (words_in ys ++ r)))
    ∙ bind_got (operand_tree l.size l.source) (λ o. last_part l f.value o) a n (words_in xs ++ (words_in ys ++ r)) o (n + count_of xs) (words_in ys ++ r)
    (operand_complete l.size a n l.source f.source h.2 (words_in ys ++ r))
    ∙ bind_got (operand_tree l.size l.destination) (λ d. ret (made f.value o d)) a (n + count_of xs) (words_in ys ++ r) d (n + count_of xs + count_of ys) r
    (operand_complete l.size a (n + count_of xs) l.destination f.destination h.3 r)
    ∙ got_is r refl (following_count us xs ys)

abbrev pub FieldsSound : ℕ → Layout → List ℕ → Tail → ℕ → List ℕ → Type 0
FieldsSound a l ws f m r =
    TailStands a l f
    × (plain_tail l.size f ≡ f)
    × (ws ≡ tail_words a l f ++ r)
    × (m ≡ 1 + length (tail_words a l f))

made-is : (v : ℕ) {o p d e : Operand} → o ≡ p → d ≡ e → made v o d ≡ made v p e
made-is v p q = rw (p, q)

pub tail_sound : (a : ℕ) (l : Layout) (ws : List ℕ) → Words ws → (f : Tail) (m : ℕ) (r : List ℕ)
    → run (tail_tree l) a 1 ws ≡ got f m r
    → TailStands a l f
    × (plain_tail l.size f ≡ f)
    × (ws ≡ tail_words a l f ++ r)
    × (m ≡ 1 + length (tail_words a l f))
tail_sound a l ws h f m r e =
    let s = l.size in
    let g = guard_then (accepts l) (whole_part l) a 1 ws f m r e in
    let t = and-true (l.accepted && permitted l.readable l.source) (permitted l.writable l.destination) g.0 in
    let hs = permitted_lt l.readable l.source (and-true l.accepted _ t.0).1 in
    let hd = permitted_lt l.writable l.destination t.1 in
    bind_then (specifier_tree l.specifier) (λ v. operand_part l v) a 1 ws f m r g.1 (λ v i s1 e1 f1.
    let c = specifier_sound l.specifier a 1 ws h v i s1 e1 in
    let us = specifier_words l.specifier v in
    let n : ℕ = 1 + length us in
    let h1 : Words s1 = rest_words us s1 (subst Words c.1 h) in
    let g1 : run (operand_part l v) a n s1 ≡ got f m r = subst (λ (k : ℕ). run (operand_part l v) a k s1 ≡ got f m r) c.2 f1 in
    bind_then (operand_tree s l.source) (λ o. last_part l v o) a n s1 f m r g1 (λ o j s2 e2 f2.
    let x = operand_sound s a n l.source hs s1 h1 o j s2 e2 in
    let xs = ea_items o s (word_address a n) in
    let h2 : Words s2 = rest_words (words_in xs) s2 (subst Words x.2 h1) in
    let g2 : run (last_part l v o) a (n + count_of xs) s2 ≡ got f m r = subst (λ (k : ℕ). run (last_part l v o) a k s2 ≡ got f m r) x.3 f2 in
    bind_then (operand_tree s l.destination) (λ d. ret (made v o d)) a (n + count_of xs) s2 f m r g2 (λ d k s3 e3 f3.
    let y = operand_sound s a (n + count_of xs) l.destination hd s2 h2 d k s3 e3 in
    let ys = ea_items d s (word_address a (n + count_of xs)) in
    got_subst (FieldsSound a l ws) f3 (
      (g.0, c.0, x.0, y.0),
      made-is v x.1 y.1,
      c.1 ∙ ap (λ (t : List ℕ). us ++ t) (x.2 ∙ ap (λ (t : List ℕ). words_in xs ++ t) y.2) ∙ sym (following_append us (words_in xs) (words_in ys) s3),
      y.3 ∙ following_count us xs ys,
    ))))

-- all that the operation word permits is completed by zeros
pub tail_clean : (l : Layout) → Clean (tail_tree l)
tail_clean l =
    guard_clean (accepts l) (whole_part l) (λ e.
    let c = and-true (l.accepted && permitted l.readable l.source) (permitted l.writable l.destination) e in
    let b = and-true l.accepted (permitted l.readable l.source) c.0 in
    let s = l.size in
    let last : (v : ℕ) (o : Operand) → Alive (last_part l v o) = λ v o.
    bind_alive (operand_tree s l.destination) (λ d. ret (made v o d)) (operand_alive s l.writable l.destination c.1) (λ d. tt) in
    bind_clean (specifier_tree l.specifier) (λ v. operand_part l v) (specifier_clean l.specifier)
    (λ v. bind_alive (operand_tree s l.source) (λ o. last_part l v o) (operand_alive s l.readable l.source b.1) (λ o. last v o))
    (λ v. bind_clean (operand_tree s l.source) (λ o. last_part l v o) (operand_clean s l.source) (λ o. last v o)
    (λ o. bind_clean (operand_tree s l.destination) (λ d. ret (made v o d)) (operand_clean s l.destination) (λ d. tt) (λ d. tt))))
