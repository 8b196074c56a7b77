-- A reading as a tree: it ends with what is read, or with nothing, or looks at one word more.
use Rattle.std.specs.Prelude.{ℕ, ◌+◌, Bool, cond, List, [], ◌∷◌}
use Rattle.encode_spec.specs.Item.{word_address}

-- the next word is seen with its address
pub data Tree (A : Type 0) : Type 0 where
  ret : A → Tree A
  fail : Tree A
  more : (ℕ → ℕ → Tree A) → Tree A

-- what is read, how many words that took, and the words left; or the words end; or nothing reads
pub data Out (A : Type 0) : Type 0 where
  got : A → ℕ → List ℕ → Out A
  short : Out A
  none : Out A

module _ {A : Type 0} where
  -- a tree over words, of which n stand before, the first of all at a
  abbrev pub run : Tree A → ℕ → ℕ → List ℕ → Out A
  run (ret x) a n ws = got x n ws
  run fail a n ws = none
  run (more k) a n [] = short
  run (more k) a n (w ∷ ws) = run (k (word_address a n) w) a (n + 1) ws

  abbrev pub guard : Bool → Tree A → Tree A
  guard b t = cond b t fail

module _ {A B : Type 0} where
  abbrev pub bind : Tree A → (A → Tree B) → Tree B
  bind (ret x) f = f x
  bind fail f = fail
  bind (more k) f = more (λ at w. bind (k at w) f)
