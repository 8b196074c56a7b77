-- One tree after another, run by place.
use Rattle.std.specs.Prelude.{ℕ, ◌+◌, ◌≡◌, refl, Bool, true, false, cond, List, ltb, get_or, length}
use Rattle.encode_spec.specs.Item.{word_address}
use Rattle.read_spec.specs.Tree.{Tree, ret, fail, more, bind}
use Rattle.read_places.specs.RunAt.{At, found, ended, refused, run_at}

module _ {A B : Type 0} where
  -- the second tree from where the first ended
  abbrev pub after_at : ℕ → List ℕ → (A → Tree B) → At A → At B
  after_at a ws f (found x n) = run_at (f x) a ws n
  after_at a ws f ended = ended
  after_at a ws f refused = refused

  cond_after : (b : Bool) (a : ℕ) (ws : List ℕ) (f : A → Tree B) (x : At A) (y : At B) → y ≡ after_at a ws f x → cond b y ended ≡ after_at a ws f (cond b x ended)
  cond_after true a ws f x y e = e
  cond_after false a ws f x y e = refl

  pub run_at_bind : (t : Tree A) (f : A → Tree B) (a : ℕ) (ws : List ℕ) (n : ℕ) → run_at (bind t f) a ws n ≡ after_at a ws f (run_at t a ws n)
  run_at_bind (ret x) f a ws n = refl
  run_at_bind fail f a ws n = refl
  run_at_bind (more k) f a ws n =
      cond_after (ltb n (length ws)) a ws f _ _ (run_at_bind (k (word_address a n) (get_or ws n 0)) f a ws (n + 1))
