-- How many words are read: at least the operation word, at most 12 more, and no more than there are.
use Rattle.std.specs.Prelude.{ℕ, zero, suc, ◌+◌, ◌*◌, ◌/◌, ◌%◌, ◌≤◌, ◌≡◌, refl, List, [], ◌∷◌, length}
use Rattle.std.proofs.Common.{arith}
use Rattle.isa.specs.declared.Instruction.{Instruction}
use Rattle.encode_spec.specs.Item.{word_address}
use Rattle.read_spec.specs.Reading.{Read}
use Rattle.read_spec.specs.Tree.{Tree, ret, fail, more, bind, run, Out, got, short, none}
use Rattle.read_spec.specs.Map.{group_at}
use Rattle.read_spec.specs.Layout.{tail_tree}
use Rattle.read_spec.specs.Layouts.{layout_of}
use Rattle.read_spec.specs.Read.{word_tree, reader, reading_of, read_of}
use Rattle.read_places.specs.Depth.{Depth, tail_depth}
use Rattle.read_facts.specs.Flat.{Flat, decoded_flat}

flat_depth : (t : Tree Instruction) → Flat t → (d : ℕ) → Depth t d
flat_depth (ret i) h d = tt
flat_depth fail h d = tt
flat_depth (more k) h d = absurd h

bind_depth : {A : Type 0} (t : Tree A) (f : A → Tree Instruction) (d : ℕ) → Depth t d → ((x : A) → Flat (f x)) → Depth (bind t f) d
bind_depth (ret x) f d h g = flat_depth (f x) (g x) d
bind_depth fail f d h g = tt
bind_depth (more k) f zero h g = absurd h
bind_depth (more k) f (suc d) h g = λ at w. bind_depth (k at w) f d (h at w) g

word_depth : (a line x opmode ea : ℕ) → Depth (word_tree a line x opmode ea) 12
word_depth a line x opmode ea =
    let l = layout_of (group_at line x opmode) line x opmode ea in
    bind_depth (tail_tree l) _ 12 (tail_depth l) (λ f. decoded_flat a (group_at line x opmode) line x opmode ea f.value f.source f.destination)

pub reader_depth : (a : ℕ) → Depth (reader a) 13
reader_depth a = λ at w. word_depth a (w / 4096) (w / 512 % 8) (w / 64 % 8) (w % 64)

-- n words stand before, and at most d more are read of those there
abbrev Taken : ℕ → ℕ → ℕ → Out Instruction → Type 0
Taken n d left (got i m r) = (n ≤ m) × (m ≤ n + d) × (m + length r ≡ n + left)
Taken n d left short = Unit {0}
Taken n d left none = Unit {0}

taken_on : (o : Out Instruction) (n d left : ℕ) → Taken (n + 1) d left o → Taken n (suc d) (suc left) o × ((i : Instruction) (m : ℕ) (r : List ℕ) → o ≡ got i m r → 1 ≤ m)
taken_on (got i m r) n d left h = ((omega (arith, h.0), omega (arith, h.1), omega (arith, h.2)), λ j k s e. let q : m ≡ k = cc in omega (arith, h.0))
taken_on short n d left h = (tt, λ j k s e. let z : ◌≡◌ {A = ℕ} 0 1 = cc in absurd (omega arith))
taken_on none n d left h = (tt, λ j k s e. let z : ◌≡◌ {A = ℕ} 0 1 = cc in absurd (omega arith))

run_taken : (t : Tree Instruction) (d : ℕ) → Depth t d → (a n : ℕ) (ws : List ℕ) → Taken n d (length ws) (run t a n ws)
run_taken (ret i) d h a n ws = (omega arith, omega arith, refl)
run_taken fail d h a n ws = tt
run_taken (more k) zero h a n ws = absurd h
run_taken (more k) (suc d) h a n [] = tt
run_taken (more k) (suc d) h a n (w ∷ ws) = (taken_on (run (k (word_address a n) w) a (n + 1) ws) n d (length ws) (run_taken (k (word_address a n) w) d (h (word_address a n) w) a (n + 1) ws)).0

-- a reading of n bytes of so many words
pub record ReadWords (left n : ℕ) : Type 0 where
  pub words : n ≡ 2 * (n / 2)
  pub some : 1 ≤ n / 2
  pub most : n / 2 ≤ 13
  pub there : n / 2 ≤ left

from_out : (o : Out Instruction) (left n : ℕ) (i : Instruction) → Taken 0 13 left o → ((j : Instruction) (m : ℕ) (r : List ℕ) → o ≡ got j m r → 1 ≤ m) → reading_of o ≡ Read i n → ReadWords left n
from_out (got j m r) left n i h g e = let q : 2 * m ≡ n = cc in record { words = omega (arith, q); some = omega (arith, q, g j m r refl); most = omega (arith, q, h.1); there = omega (arith, q, h.2) }
from_out short left n i h g e = let z : ◌≡◌ {A = ℕ} 0 1 = cc in absurd (omega arith)
from_out none left n i h g e = let z : ◌≡◌ {A = ℕ} 0 1 = cc in absurd (omega arith)

pub read_words : (ws : List ℕ) (a : ℕ) (i : Instruction) (n : ℕ) → read_of ws a ≡ Read i n → ReadWords (length ws) n
unfolding read_of
read_words [] a i n e = from_out short 0 n i tt (λ j k s q. let z : ◌≡◌ {A = ℕ} 0 1 = cc in absurd (omega arith)) e
read_words (w ∷ ws) a i n e =
    let t = word_depth a (w / 4096) (w / 512 % 8) (w / 64 % 8) (w % 64) in
    let o = run (word_tree a (w / 4096) (w / 512 % 8) (w / 64 % 8) (w % 64)) a 1 ws in
    let h = taken_on o 0 12 (length ws) (run_taken (word_tree a (w / 4096) (w / 512 % 8) (w / 64 % 8) (w % 64)) 12 t a 1 ws) in
    from_out o (suc (length ws)) n i h.0 h.1 e
