-- The reading as the code does it, by place: what follows the operation word, and the instruction that it forms.
use Rattle.std.specs.Prelude.{Result, Ok, Err, ℕ, ◌+◌, ◌/◌, ◌%◌, ◌<◌, ◌≡◌, refl, List, [], ◌∷◌, get_or, length, drop}
use Rattle.std.proofs.Common.{arith, add-one, drop_of_length-le, drop-cons}
use Rattle.isa.specs.declared.Instruction.{Instruction}
use Rattle.encode_spec.specs.Item.{word_address}
use Rattle.base_facts.specs.Tests.{Lt, less, past, lt?}
use Rattle.read_spec.specs.declared.Group.{Group}
use Rattle.read_spec.specs.declared.Tail.{Tail}
use Rattle.read_spec.specs.declared.Unread.{Unread}
use Rattle.read_spec.specs.Reading.{Reading, Short, Nothing, as_reading}
use Rattle.read_spec.specs.Tree.{Tree, ret, fail, more, bind, run}
use Rattle.read_places.specs.RunAt.{At, found, ended, refused, run_at}
use Rattle.read_spec.specs.Map.{group_at}
use Rattle.read_places.specs.Groups.{group_of}
use Rattle.read_spec.specs.Layout.{tail_tree}
use Rattle.read_spec.specs.Layouts.{layout_of}
use Rattle.read_spec.specs.Decoded.{decoded}
use Rattle.read_spec.specs.Read.{reading_of, read_of}
use Rattle.read_places.specs.Depth.{Within, depth_within, tail_depth}
use Rattle.read_values.specs.OperationWord.{line_in, x_in, opmode_in, ea_in}
use Rattle.read_operands.specs.Read.{read_of_at}

-- r is what the tree reads after n words, whatever words are left
abbrev pub Ends : Tree Instruction → ℕ → ℕ → Reading → Type 0
Ends t a n r = (rest : List ℕ) → r ≡ reading_of (run t a n rest)

-- what the group of the operation word w forms with what was read behind it
abbrev pub decoded_in : ℕ → Group → ℕ → Tail → Tree Instruction
decoded_in a s w t = decoded a s (line_in w) (x_in w) (opmode_in w) (ea_in w) t.value t.source t.destination

-- at most 13 words are read, so a place modulo 16 is the place
abbrev pub ReadsAs : ℕ → Group → ℕ → Result (Tail × ℕ) Unread → Reading → Type 0
ReadsAs a s w (Ok t) r = Ends (decoded_in a s w t.0) a (t.1 % 16) r
ReadsAs a s w (Err e) r = r ≡ as_reading (Err e)

-- the words behind the operation word w of a run
abbrev pub FollowsAs : ℕ → List ℕ → ℕ → Reading → Type 0
FollowsAs a ws w r =
    ReadsAs a (group_of (w / 64)) w (read_of_at (run_at (tail_tree (layout_of (group_of (w / 64)) (line_in w) (x_in w) (opmode_in w) (ea_in w))) a ws 1)) r

-- ---- one tree after another, the first run by place
module _ {A : Type 0} (f : A → Tree Instruction) (a : ℕ) where
  abbrev After : At A → Reading → Type 0
  After (found y n) r = Ends (f y) a n r
  After ended r = r ≡ Short
  After refused r = r ≡ Nothing

  then_read : (t : Tree A) (ws : List ℕ) (n : ℕ) (r : Reading) → After (run_at t a ws n) r → r ≡ reading_of (run (bind t f) a n (drop n ws))
  then_read (ret y) ws n r h = h (drop n ws)
  then_read fail ws n r h = h
  then_read (more k) ws n r h = go (lt? n (length ws)) (then_read (k (word_address a n) (get_or ws n 0)) ws (n + 1) r)
    where
      go : Lt n (length ws) → (After (run_at (k (word_address a n) (get_or ws n 0)) a ws (n + 1)) r → r ≡ reading_of (run (bind (k (word_address a n) (get_or ws n 0)) f) a (n + 1) (drop (n + 1) ws))) → r ≡ reading_of (run (bind (more k) f) a n (drop n ws))
      go (less p e) i =
          let g : After (run_at (k (word_address a n) (get_or ws n 0)) a ws (n + 1)) r = rw e at h in
          let d : drop n ws ≡ get_or ws n 0 ∷ drop (n + 1) ws = rw add-one (drop-cons ws n 0 p) in
          rw d (i g)
      go (past p e) i =
          let g : r ≡ Short = rw e at h in
          rw (drop_of_length-le ws p) g

-- ---- what is found, and the instruction that it forms
module _ (a : ℕ) (s : Group) (w : ℕ) where
  within-read : (o : At Tail) (r : Reading) → Within o 13 → ReadsAs a s w (read_of_at o) r → After (decoded_in a s w) a o r
  within-read (found t n) r h g = let e : n % 16 ≡ n = omega arith in rw e at g
  within-read ended r h g = g
  within-read refused r h g = g

group_same : (w : ℕ) → group_of (w / 64) ≡ group_at (w / 4096) (w / 512 % 8) (w / 64 % 8)
unfolding group_of
group_same w =
    let p : w / 64 / 64 ≡ w / 4096 = omega arith in
    let q : w / 64 / 8 ≡ w / 512 = omega arith in
    rw (p, q)

-- the run is empty, or begins with an operation word
pub read_none : (a : ℕ) (ws : List ℕ) → length ws ≡ 0 → read_of ws a ≡ Short
unfolding read_of
read_none a [] h = refl
read_none a (w ∷ ws) h = absurd (omega (arith, h))

pub read_some : (a : ℕ) (ws : List ℕ) (r : Reading) → 0 < length ws → FollowsAs a ws (get_or ws 0 0) r → r ≡ read_of ws a
unfolding read_of
read_some a [] r l h = absurd (omega arith)
read_some a (w ∷ ws) r l h =
    let s = group_at (w / 4096) (w / 512 % 8) (w / 64 % 8) in
    let t = tail_tree (layout_of s (w / 4096) (w / 512 % 8) (w / 64 % 8) (w % 64)) in
    let d : Within (run_at t a (w ∷ ws) 1) 13 = depth_within t 12 (tail_depth (layout_of s (w / 4096) (w / 512 % 8) (w / 64 % 8) (w % 64))) a (w ∷ ws) 1 in
    then_read (decoded_in a s w) a t (w ∷ ws) 1 r (within-read a s w (run_at t a (w ∷ ws) 1) r d (rw (group_same w) at h))
