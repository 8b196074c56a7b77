-- One reading after another.
use Rattle.std.specs.Prelude.{ℕ, ◌≡◌, refl, Result, Ok, Err, Bool, true, false, cond, List, ltb, get_or, length, ◌+◌}
use Rattle.std.proofs.Common.{ap, sym, ◌∙◌}
use Rattle.encode_spec.specs.Item.{word_address}
use Rattle.read_spec.specs.declared.Unread.{Unread}
use Rattle.read_spec.specs.declared.Unread.TheVariants.{Short, Nothing}
use Rattle.read_spec.specs.Tree.{Tree, bind, more}
use Rattle.read_places.specs.RunAt.{At, found, ended, refused, run_at}
use Rattle.read_places.specs.RunAtLaws.{after_at, run_at_bind}
use Rattle.read_operands.specs.Read.{read_of_at, word_read}

module _ {A B : Type 0} where
  -- what a reading gives, read on, as `?` does
  abbrev pub then_read : Result (A × ℕ) Unread → (A → ℕ → Result (B × ℕ) Unread) → Result (B × ℕ) Unread
  then_read (Ok x) f = f x.0 x.1
  then_read (Err e) f = Err e

  read_after : (a : ℕ) (ws : List ℕ) (f : A → Tree B) (x : At A) → read_of_at (after_at a ws f x) ≡ then_read (read_of_at x) (λ y n. read_of_at (run_at (f y) a ws n))
  read_after a ws f (found y n) = refl
  read_after a ws f ended = refl
  read_after a ws f refused = refl

  pub read_bind : (t : Tree A) (f : A → Tree B) (a : ℕ) (ws : List ℕ) (n : ℕ) → read_of_at (run_at (bind t f) a ws n) ≡ then_read (read_of_at (run_at t a ws n)) (λ y m. read_of_at (run_at (f y) a ws m))
  read_bind t f a ws n = ap read_of_at (run_at_bind t f a ws n) ∙ read_after a ws f (run_at t a ws n)

module _ {B : Type 0} where
  more_cond : (t : Bool) (x : At B) (w n : ℕ) (f : ℕ → ℕ → Result (B × ℕ) Unread) → read_of_at x ≡ f w n → read_of_at (cond t x ended) ≡ then_read (cond t (Ok (w, n)) (Err Short)) f
  more_cond true x w n f e = e
  more_cond false x w n f e = refl

  pub read_more : (k : ℕ → ℕ → Tree B) (a : ℕ) (ws : List ℕ) (n : ℕ) → read_of_at (run_at (more k) a ws n) ≡ then_read (word_read ws n) (λ w m. read_of_at (run_at (k (word_address a n) w) a ws m))
  read_more k a ws n = more_cond (ltb n (length ws)) (run_at (k (word_address a n) (get_or ws n 0)) a ws (n + 1)) (get_or ws n 0) (n + 1) (λ w m. read_of_at (run_at (k (word_address a n) w) a ws m)) refl

module _ {A B : Type 0} (t : Tree A) (f : A → Tree B) (a : ℕ) (ws : List ℕ) (n : ℕ) where
  -- what reads on from a place reads the whole
  pub read_then : (x : A) (m : ℕ) → Ok (x, m) ≡ read_of_at (run_at t a ws n) → read_of_at (run_at (f x) a ws m) ≡ read_of_at (run_at (bind t f) a ws n)
  read_then x m e = sym (read_bind t f a ws n ∙ ap (λ r. then_read r (λ y k. read_of_at (run_at (f y) a ws k))) (sym e))

  pub read_refused : (e : Unread) → Err e ≡ read_of_at (run_at t a ws n) → read_of_at (run_at (bind t f) a ws n) ≡ Err e
  read_refused e h = read_bind t f a ws n ∙ ap (λ r. then_read r (λ y k. read_of_at (run_at (f y) a ws k))) (sym h)
