-- The reader and the encoder are each other's inverse: T1 to T5, from what is proved of each instruction and each group.
use Rattle.std.specs.Prelude.{ℕ, zero, suc, ◌+◌, ◌*◌, ◌/◌, ◌%◌, ◌<◌, ◌≡◌, refl, List, [], ◌∷◌, ◌++◌, length, take, replicate}
use Rattle.std.proofs.Common.{ap, sym, ◌∙◌, subst, append-nil, arith, length-append, take_at}
use Rattle.isa.specs.declared.Instruction.{Instruction}
use Rattle.encode_spec.specs.Encode.{words_of}
use Rattle.read_spec.specs.declared.Group.{Group}
use Rattle.read_spec.specs.declared.Tail.{Tail}
use Rattle.read_spec.specs.Reading.{Read, Short, Nothing}
use Rattle.read_spec.specs.Tree.{Tree, run, Out, got, short, none}
use Rattle.read_spec.specs.Plain.{plain}
use Rattle.read_spec.specs.Map.{group_at}
use Rattle.read_spec.specs.Layout.{tail_tree}
use Rattle.read_spec.specs.Layouts.{layout_of}
use Rattle.read_spec.specs.Decoded.{decoded, word_of}
use Rattle.read_spec.specs.Read.{group_tree, word_tree, reader, reading_of, read_of}
use Rattle.read_operand_laws.specs.TreeLaws.{words_append, short_no, none_no, none-short, longer_got, longer_none, completed, after, run_bind, bind_got, bind_then}
use Rattle.read_operand_laws.specs.TailStands.{tail_words, plain_tail}
use Rattle.read_laws.specs.Statements.{Reads, reads}
use Rattle.read_spec.specs.Accepted.{Accepted, Words, Longer}
use Rattle.read_operand_laws.specs.TailLaws.{tail_complete, tail_sound, tail_clean}
use Rattle.read_laws.specs.Every.{instruction_reads, group_sound}
use Rattle.read_facts.specs.Flat.{Flat, decoded_flat}
use Rattle.read_laws.specs.DecodedLaws.{flat_got, flat_short, live_is, decoded_live}
use Rattle.read_laws.specs.WordLaws.{following_words, word_lt}
use Rattle.isa.specs.declared.NoOperandOperation.TheVariants.{NOP}
use Rattle.isa.specs.declared.Instruction.TheVariants.{NoOperand}
use Rattle.encode_spec.specs.System.{no_operand_parts}
use Rattle.isa_facts.specs.Ordinary.{ordinary}

-- ---- the whole, from the laws of the groups and of what follows
-- an operation word's fields
reader_at : (a line x opmode ea : ℕ) (ws : List ℕ) → line < 16 → x < 8 → opmode < 8 → ea < 64
    → run (reader a) a 0 (word_of line x opmode ea ∷ ws) ≡ run (word_tree a line x opmode ea) a 1 ws
reader_at a line x opmode ea ws hl hx ho he =
    let p : word_of line x opmode ea / 4096 ≡ line = omega arith in
    let q : word_of line x opmode ea / 512 % 8 ≡ x = omega arith in
    let r : word_of line x opmode ea / 64 % 8 ≡ opmode = omega arith in
    let s : word_of line x opmode ea % 64 ≡ ea = omega arith in
    ap (λ (n : ℕ). run (word_tree a n (word_of line x opmode ea / 512 % 8) (word_of line x opmode ea / 64 % 8) (word_of line x opmode ea % 64)) a 1 ws) p
    ∙ ap (λ (n : ℕ). run (word_tree a line n (word_of line x opmode ea / 64 % 8) (word_of line x opmode ea % 64)) a 1 ws) q
    ∙ ap (λ (n : ℕ). run (word_tree a line x n (word_of line x opmode ea % 64)) a 1 ws) r
    ∙ ap (λ (n : ℕ). run (word_tree a line x opmode n) a 1 ws) s

reads_complete : (a : ℕ) (i : Instruction) → Reads a i → (r : List ℕ) → run (reader a) a 0 (words_of i a ++ r) ≡ got (plain i) (length (words_of i a)) r
reads_complete a i (reads s line x opmode ea f hl hx ho he e h p w) r =
    ap (λ (ws : List ℕ). run (reader a) a 0 (ws ++ r)) w
    ∙ reader_at a line x opmode ea (tail_words a (layout_of s line x opmode ea) f ++ r) hl hx ho he
    ∙ ap (λ (t : Group). run (group_tree a t line x opmode ea) a 1 (tail_words a (layout_of s line x opmode ea) f ++ r)) e
    ∙ bind_got (tail_tree (layout_of s line x opmode ea)) _ a 1 _ (plain_tail (layout_of s line x opmode ea).size f) _ r (tail_complete a (layout_of s line x opmode ea) f h r)
    ∙ ap (λ (t : Tree Instruction). run t a (1 + length (tail_words a (layout_of s line x opmode ea) f)) r) p
    ∙ ap (λ (n : ℕ). got (plain i) n r) (omega (arith, ap (λ (ws : List ℕ). length ws) w))

pub reader_complete : (a : ℕ) (i : Instruction) → Accepted a i → (r : List ℕ)
    → run (reader a) a 0 (words_of i a ++ r) ≡ got (plain i) (length (words_of i a)) r
reader_complete a i h r = reads_complete a i (instruction_reads a i h) r

-- a word is its fields
word-is : (w : ℕ) → w ≡ word_of (w / 4096) (w / 512 % 8) (w / 64 % 8) (w % 64)
word-is w =
    let p : w / 64 / 8 ≡ w / 512 = omega arith in
    let q : w / 64 / 64 ≡ w / 4096 = omega arith in
    omega arith

abbrev ReaderSound : ℕ → List ℕ → Instruction → ℕ → List ℕ → Type 0
ReaderSound a ws i n r = Accepted a i × (plain i ≡ i) × (ws ≡ words_of i a ++ r) × (n ≡ length (words_of i a))

pub reader_sound : (a : ℕ) (ws : List ℕ) → Words ws → (i : Instruction) (n : ℕ) (r : List ℕ) → run (reader a) a 0 ws ≡ got i n r → ReaderSound a ws i n r
reader_sound a [] h i n r e = short_no e
reader_sound a (w ∷ ws) h i n r e =
    let line = w / 4096 in
    let x = w / 512 % 8 in
    let opmode = w / 64 % 8 in
    let ea = w % 64 in
    let s = group_at line x opmode in
    let l = layout_of s line x opmode ea in
    bind_then (tail_tree l) _ a 1 ws i n r e (λ f m t e1 e2.
    let b = tail_sound a l ws h.1 f m t e1 in
    let g = flat_got (decoded a s line x opmode ea f.value f.source f.destination)
    (decoded_flat a s line x opmode ea f.value f.source f.destination) a m t i n r e2 in
    let c = group_sound s a line x opmode ea (omega (arith, h.0)) (omega arith) (omega arith) (omega arith) refl f b.0 b.1 i g.0 in
    let k : w ∷ ws ≡ words_of i a ++ r = ap (λ (v : ℕ). v ∷ ws) (word-is w)
    ∙ ap (λ (us : List ℕ). word_of line x opmode ea ∷ us) (b.2 ∙ ap (λ (us : List ℕ). tail_words a l f ++ us) g.2)
    ∙ ap (λ (us : List ℕ). us ++ r) (sym c.2) in
    (c.0, c.1, k, omega (arith, b.3, g.1, ap (λ (us : List ℕ). length us) c.2)))

-- ---- what an accepted instruction lays down are words
reads_words : (a : ℕ) (i : Instruction) → Reads a i → Words (words_of i a)
reads_words a i (reads s line x opmode ea f hl hx ho he e h p w) =
    subst Words (sym w) (word_lt line x opmode ea hl hx ho he, following_words a (layout_of s line x opmode ea) f h)

pub accepted_words : (a : ℕ) (i : Instruction) → Accepted a i → Words (words_of i a)
accepted_words a i h = reads_words a i (instruction_reads a i h)

-- ---- complete: an accepted instruction reads as its plain form and its length, whatever follows it
pub complete : (a : ℕ) (i : Instruction) (rest : List ℕ) → Accepted a i → read_of (words_of i a ++ rest) a ≡ Read (plain i) (2 * length (words_of i a))
unfolding read_of
complete a i rest h = ap reading_of (reader_complete a i h rest)

-- ---- sound: what reads is accepted there, in plain form, and lays down the words read
pub from-read : (o : Out Instruction) (i : Instruction) (n : ℕ) → reading_of o ≡ Read i n → (k : ℕ) × (r : List ℕ) × (o ≡ got i k r) × (n ≡ 2 * k)
from-read (got j k r) i n e = let p : j ≡ i = cc in let q : 2 * k ≡ n = cc in (k, r, ap (λ (x : Instruction). got x k r) p, sym q)
from-read short i n e = let z : ◌≡◌ {A = ℕ} 0 1 = cc in absurd (omega arith)
from-read none i n e = let z : ◌≡◌ {A = ℕ} 0 1 = cc in absurd (omega arith)

pub sound : (a : ℕ) (ws : List ℕ) (i : Instruction) (n : ℕ) → Words ws → read_of ws a ≡ Read i n
    → Accepted a i × (plain i ≡ i) × (n ≡ 2 * length (words_of i a)) × (words_of i a ≡ take (length (words_of i a)) ws)
unfolding read_of
sound a ws i n h e =
    let g = from-read (run (reader a) a 0 ws) i n e in
    let s = reader_sound a ws h i g.0 g.1 g.2 in (
      s.0,
      s.1,
      omega (arith, g.3, s.3),
      sym (ap (λ (l : List ℕ). take (length (words_of i a)) l) s.2
          ∙ take_at (words_of i a) g.1 (length (words_of i a)) refl),
    )

-- ---- the plain form is accepted, lays down the same words, and is its own plain form
pub plain_words : (a : ℕ) (i : Instruction) → Accepted a i → Accepted a (plain i) × (plain (plain i) ≡ plain i) × (words_of (plain i) a ≡ words_of i a)
plain_words a i h =
    let s = reader_sound a (words_of i a ++ []) (subst Words (sym (append-nil (words_of i a))) (accepted_words a i h)) (plain i) (length (words_of i a)) []
    (reader_complete a i h []) in
    (s.0, s.1, sym (append-nil (words_of (plain i) a)) ∙ sym s.2 ∙ append-nil (words_of i a))

-- ---- one: accepted instructions with equal words at an address have equal plain forms, so 01's rule for several with the same words never applies
pub one : (a : ℕ) (i j : Instruction) → Accepted a i → Accepted a j → words_of i a ≡ words_of j a → plain i ≡ plain j
one a i j h g e =
    let x : got (plain i) (length (words_of i a)) [] ≡ got (plain j) (length (words_of j a)) [] = sym (reader_complete a i h [])
    ∙ ap (λ (l : List ℕ). run (reader a) a 0 (l ++ [])) e ∙ reader_complete a j g [] in
    cc

-- ---- nothing: where the answer is 6, no run beginning with the words reads, and no beginning of them does
from-none : (o : Out Instruction) → reading_of o ≡ Nothing → o ≡ none
from-none (got j k r) e = let z : ◌≡◌ {A = ℕ} 0 1 = cc in absurd (omega arith)
from-none short e = let z : ◌≡◌ {A = ℕ} 0 1 = cc in absurd (omega arith)
from-none none e = refl

pub nothing : (a : ℕ) (ws : List ℕ) → read_of ws a ≡ Nothing → (i : Instruction) → Accepted a i → (r : List ℕ)
    → (ws ≡ words_of i a ++ r → ⊥) × (words_of i a ≡ ws ++ r → ⊥)
unfolding read_of
nothing a ws e i h r =
    let n = from-none (run (reader a) a 0 ws) e in (
      (λ p. none_no (sym n ∙ ap (λ (l : List ℕ). run (reader a) a 0 l) p ∙ reader_complete a i h r)),
      (λ p. none_no (sym (longer_none (reader a) a 0 (ws ++ r) [] (longer_none (reader a) a 0 ws r n))
          ∙ ap (λ (l : List ℕ). run (reader a) a 0 (l ++ [])) (sym p) ∙ reader_complete a i h [])),
    )

-- the same of readings: a longer run is refused alike, and a beginning does not read
pub nothing_longer : (a : ℕ) (ws r : List ℕ) → read_of ws a ≡ Nothing → read_of (ws ++ r) a ≡ Nothing
unfolding read_of
nothing_longer a ws r e = ap reading_of (longer_none (reader a) a 0 ws r (from-none (run (reader a) a 0 ws) e))

pub nothing_shorter : (a : ℕ) (us vs : List ℕ) (i : Instruction) (n : ℕ) → read_of (us ++ vs) a ≡ Nothing → read_of us a ≡ Read i n → ⊥
unfolding read_of
nothing_shorter a us vs i n e f =
    let g = from-read (run (reader a) a 0 us) i n f in
    none_no (sym (from-none (run (reader a) a 0 (us ++ vs)) e) ∙ longer_got (reader a) a 0 us vs i g.0 g.1 g.2)

-- ---- short: where the answer is 5, some longer run beginning with the words reads
from-short : (o : Out Instruction) → reading_of o ≡ Short → o ≡ short
from-short (got j k r) e = let z : ◌≡◌ {A = ℕ} 0 1 = cc in absurd (omega arith)
from-short short e = refl
from-short none e = let z : ◌≡◌ {A = ℕ} 0 1 = cc in absurd (omega arith)

zero_words : (n : ℕ) → Words (replicate n 0)
zero_words zero = tt
zero_words (suc n) = (omega arith, zero_words n)

-- the fields are short, since nothing formed looks at a word more
fields-short : (a : ℕ) (o : Out Tail) (k : Tail → Tree Instruction) → ((f : Tail) → Flat (k f)) → after o a k ≡ short → o ≡ short
fields-short a (got f m r) k h e = absurd (flat_short (k f) (h f) a m r e)
fields-short a short k h e = refl
fields-short a none k h e = none-short e

word_longer : (a w : ℕ) (ws : List ℕ) → Words (w ∷ ws) → run (reader a) a 0 (w ∷ ws) ≡ short → Longer a (w ∷ ws)
word_longer a w ws h e =
    let line = w / 4096 in
    let x = w / 512 % 8 in
    let opmode = w / 64 % 8 in
    let ea = w % 64 in
    let s = group_at line x opmode in
    let l = layout_of s line x opmode ea in
    let k : Tail → Tree Instruction = λ f. decoded a s line x opmode ea f.value f.source f.destination in
    let q = fields-short a (run (tail_tree l) a 1 ws) k (λ f. decoded_flat a s line x opmode ea f.value f.source f.destination)
    (sym (run_bind (tail_tree l) k a 1 ws) ∙ e) in
    let c = completed (tail_tree l) (tail_clean l) a 1 ws q in
    let z = words_append ws (0 ∷ replicate c.0 0) h.1 (omega arith, zero_words c.0) in
    let b = tail_sound a l (ws ++ (0 ∷ replicate c.0 0)) z c.1 c.2 [] c.3 in
    let v = live_is (k c.1) (decoded_live a s line x opmode ea c.1 (omega arith) b.0) in
    let g : run (reader a) a 0 ((w ∷ ws) ++ (0 ∷ replicate c.0 0)) ≡ got v.0 c.2 [] = bind_got (tail_tree l) k a 1 (ws ++ (0 ∷ replicate c.0 0))
    c.1 c.2 [] c.3 ∙ ap (λ (t : Tree Instruction). run t a c.2 []) v.1 in
    let r = reader_sound a ((w ∷ ws) ++ (0 ∷ replicate c.0 0)) (h.0, z) v.0 c.2 [] g in
    (0, replicate c.0 0, v.0, r.0, sym (r.2 ∙ append-nil (words_of v.0 a)))

pub short_longer : (a : ℕ) (ws : List ℕ) → Words ws → read_of ws a ≡ Short → Longer a ws
unfolding read_of no_operand_parts
short_longer a [] h e = (20081, [], NoOperand NOP, (tt, refl, ordinary _ refl), refl)
short_longer a (w ∷ ws) h e = word_longer a w ws h (from-short (run (reader a) a 0 (w ∷ ws)) e)

-- ---- the answer 5 exactly where some longer run encodes, 6 exactly where no such run does and no beginning does
end_no : {C : Type 0} (r rest : List ℕ) (v : ℕ) → r ++ (v ∷ rest) ≡ [] → C
end_no r rest v e = absurd (omega (arith, ap (λ (ws : List ℕ). length ws) e, length-append r (v ∷ rest)))

pub short_exactly : (a : ℕ) (ws : List ℕ) → Longer a ws → read_of ws a ≡ Short
unfolding read_of
short_exactly a ws (v, rest, i, h, e) = go (run (reader a) a 0 ws) refl
  where
    whole : run (reader a) a 0 (ws ++ (v ∷ rest)) ≡ got (plain i) (length (words_of i a)) []
    whole = ap (λ (l : List ℕ). run (reader a) a 0 l) (sym (append-nil (words_of i a) ∙ e)) ∙ reader_complete a i h []

    go : (o : Out Instruction) → run (reader a) a 0 ws ≡ o → reading_of o ≡ Short
    go (got j n r) g =
        let x : got j n (r ++ (v ∷ rest)) ≡ got (plain i) (length (words_of i a)) [] = sym (longer_got (reader a) a 0 ws (v ∷ rest) j n r g) ∙ whole in
        let y : r ++ (v ∷ rest) ≡ [] = cc in
        end_no r rest v y
    go short g = refl
    go none g = none_no (sym (longer_none (reader a) a 0 ws (v ∷ rest) g) ∙ whole)

pub nothing_exactly : (a : ℕ) (ws : List ℕ) → Words ws
    → ((i : Instruction) → Accepted a i → (r : List ℕ) → (ws ≡ words_of i a ++ r → ⊥) × (words_of i a ≡ ws ++ r → ⊥))
    → read_of ws a ≡ Nothing
unfolding read_of
nothing_exactly a ws h q = go (run (reader a) a 0 ws) refl
  where
    go : (o : Out Instruction) → run (reader a) a 0 ws ≡ o → reading_of o ≡ Nothing
    go (got i n r) g = let s = reader_sound a ws h i n r g in absurd ((q i s.0 r).0 s.2)
    go short g = let l = short_longer a ws h (ap reading_of g) in absurd ((q l.2 l.3 (l.0 ∷ l.1)).1 l.4)
    go none g = refl
