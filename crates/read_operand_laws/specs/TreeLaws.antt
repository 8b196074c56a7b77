-- What holds of every tree: a longer run of words reads alike, zeros complete what is short, and how the parts of a composed
-- reading read.
use Rattle.std.specs.Prelude.{ℕ, suc, ◌+◌, ◌≡◌, refl, Bool, true, false, List, [], ◌∷◌, ◌++◌, replicate}
use Rattle.std.proofs.Common.{ap, sym, ◌∙◌, subst}
use Rattle.encode_spec.specs.Item.{word_address}
use Rattle.read_spec.specs.Tree.{Tree, ret, fail, more, Out, got, short, none, run, guard, bind}
use Rattle.read_spec.specs.Accepted.{Words}

pub words_append : (us vs : List ℕ) → Words us → Words vs → Words (us ++ vs)
words_append [] vs h g = g
words_append (u ∷ us) vs h g = (h.0, words_append us vs h.1 g)

pub rest_words : (us vs : List ℕ) → Words (us ++ vs) → Words vs
rest_words [] vs h = h
rest_words (u ∷ us) vs h = rest_words us vs h.1

-- ---- outcomes
module _ {A : Type 0} where
  abbrev is_got : Out A → Type 0
  is_got (got x n ws) = Unit {0}
  is_got short = ⊥
  is_got none = ⊥

  abbrev is_short : Out A → Type 0
  is_short (got x n ws) = ⊥
  is_short short = Unit {0}
  is_short none = ⊥

  pub short_no : {C : Type 0} {x : A} {n : ℕ} {ws : List ℕ} → short ≡ got x n ws → C
  short_no e = absurd (subst is_got (sym e) tt)

  pub none_no : {C : Type 0} {x : A} {n : ℕ} {ws : List ℕ} → none ≡ got x n ws → C
  none_no e = absurd (subst is_got (sym e) tt)

  pub none-short : {C : Type 0} → ◌≡◌ {A = Out A} none short → C
  none-short e = absurd (subst is_short (sym e) tt)

  pub got_short : {C : Type 0} {x : A} {n : ℕ} {ws : List ℕ} → got x n ws ≡ short → C
  got_short e = absurd (subst is_got e tt)

  pub got_subst : (P : A → ℕ → List ℕ → Type 0) {x y : A} {m n : ℕ} {r s : List ℕ} → got x m r ≡ got y n s → P x m r → P y n s
  got_subst P {x} {y} {m} {n} {r} {s} e p =
      let a : x ≡ y = cc in
      let b : m ≡ n = cc in
      let c : r ≡ s = cc in
      subst (λ (l : List ℕ). P y n l) c (subst (λ (k : ℕ). P y k r) b (subst (λ (v : A). P v m r) a p))

-- ---- every tree
module _ {A : Type 0} where
  -- words of zero from here come to an end that reads
  abbrev pub Alive : Tree A → Type 0
  Alive (ret x) = Unit {0}
  Alive fail = ⊥
  Alive (more k) = (at : ℕ) → Alive (k at 0)

  -- wherever a word is wanted, zeros complete it
  abbrev pub Clean : Tree A → Type 0
  Clean (ret x) = Unit {0}
  Clean fail = Unit {0}
  Clean (more k) = ((at : ℕ) → Alive (k at 0)) × ((at w : ℕ) → Clean (k at w))

  pub longer_got : (t : Tree A) (a n : ℕ) (ws r : List ℕ) (x : A) (m : ℕ) (s : List ℕ)
      → run t a n ws ≡ got x m s
      → run t a n (ws ++ r) ≡ got x m (s ++ r)
  longer_got (ret y) a n ws r x m s e = got_subst (λ z k l. got y n (ws ++ r) ≡ got z k (l ++ r)) e refl
  longer_got fail a n ws r x m s e = none_no e
  longer_got (more k) a n [] r x m s e = short_no e
  longer_got (more k) a n (w ∷ ws) r x m s e = longer_got (k (word_address a n) w) a (n + 1) ws r x m s e

  pub longer_none : (t : Tree A) (a n : ℕ) (ws r : List ℕ) → run t a n ws ≡ none → run t a n (ws ++ r) ≡ none
  longer_none (ret y) a n ws r e = none_no (sym e)
  longer_none fail a n ws r e = refl
  longer_none (more k) a n [] r e = none-short (sym e)
  longer_none (more k) a n (w ∷ ws) r e = longer_none (k (word_address a n) w) a (n + 1) ws r e

  zeros : (t : Tree A) → Alive t → (a n : ℕ) → (k : ℕ) × (x : A) × (m : ℕ) × (run t a n (replicate k 0) ≡ got x m [])
  zeros (ret x) l a n = (0, x, n, refl)
  zeros fail l a n = absurd l
  zeros (more k) l a n = let h = zeros (k (word_address a n) 0) (l (word_address a n)) a (n + 1) in (suc h.0, h.1, h.2, h.3)

  pub completed : (t : Tree A) → Clean t → (a n : ℕ) (ws : List ℕ) → run t a n ws ≡ short
      → (k : ℕ) × (x : A) × (m : ℕ) × (run t a n (ws ++ (0 ∷ replicate k 0)) ≡ got x m [])
  completed (ret x) c a n ws e = got_short e
  completed fail c a n ws e = none-short e
  completed (more k) c a n [] e = zeros (k (word_address a n) 0) (c.0 (word_address a n)) a (n + 1)
  completed (more k) c a n (w ∷ ws) e = completed (k (word_address a n) w) (c.1 (word_address a n) w) a (n + 1) ws e

  -- ---- a guard
  pub guard_true : (b : Bool) (t : Tree A) → b ≡ true → guard b t ≡ t
  guard_true b t e = rw e

  pub guard_then : (b : Bool) (t : Tree A) (a n : ℕ) (ws : List ℕ) (x : A) (m : ℕ) (r : List ℕ) → run (guard b t) a n ws ≡ got x m r
      → (b ≡ true) × (run t a n ws ≡ got x m r)
  guard_then true t a n ws x m r e = (refl, e)
  guard_then false t a n ws x m r e = none_no e

  pub guard_clean : (b : Bool) (t : Tree A) → (b ≡ true → Clean t) → Clean (guard b t)
  guard_clean true t h = h refl
  guard_clean false t h = tt

  pub guard_alive : (b : Bool) (t : Tree A) → b ≡ true → Alive t → Alive (guard b t)
  guard_alive b t e l = rw e l

-- ---- one tree after another
module _ {A B : Type 0} where
  abbrev pub after : Out A → ℕ → (A → Tree B) → Out B
  after (got x m r) a f = run (f x) a m r
  after short a f = short
  after none a f = none

  pub run_bind : (t : Tree A) (f : A → Tree B) (a n : ℕ) (ws : List ℕ) → run (bind t f) a n ws ≡ after (run t a n ws) a f
  run_bind (ret x) f a n ws = refl
  run_bind fail f a n ws = refl
  run_bind (more k) f a n [] = refl
  run_bind (more k) f a n (w ∷ ws) = run_bind (k (word_address a n) w) f a (n + 1) ws

  -- the first reads, then the second
  pub bind_got : (t : Tree A) (f : A → Tree B) (a n : ℕ) (ws : List ℕ) (x : A) (m : ℕ) (s : List ℕ) → run t a n ws ≡ got x m s
      → run (bind t f) a n ws ≡ run (f x) a m s
  bind_got t f a n ws x m s e = run_bind t f a n ws ∙ ap (λ (o : Out A). after o a f) e

  bind_split : (t : Tree A) (f : A → Tree B) (a n : ℕ) (ws : List ℕ) (y : B) (m : ℕ) (r : List ℕ) → run (bind t f) a n ws ≡ got y m r
      → (x : A) × (j : ℕ) × (s : List ℕ) × (run t a n ws ≡ got x j s) × (run (f x) a j s ≡ got y m r)
  bind_split (ret x) f a n ws y m r e = (x, n, ws, refl, e)
  bind_split fail f a n ws y m r e = none_no e
  bind_split (more k) f a n [] y m r e = short_no e
  bind_split (more k) f a n (w ∷ ws) y m r e = bind_split (k (word_address a n) w) f a (n + 1) ws y m r e

  -- what the whole got, the first got something, and the second the rest
  pub bind_then : {C : Type 0} (t : Tree A) (f : A → Tree B) (a n : ℕ) (ws : List ℕ) (y : B) (m : ℕ) (r : List ℕ)
      → run (bind t f) a n ws ≡ got y m r
      → ((x : A) (j : ℕ) (s : List ℕ) → run t a n ws ≡ got x j s → run (f x) a j s ≡ got y m r → C)
      → C
  bind_then t f a n ws y m r e k = let g = bind_split t f a n ws y m r e in k g.0 g.1 g.2 g.3 g.4

  pub bind_alive : (t : Tree A) (f : A → Tree B) → Alive t → ((x : A) → Alive (f x)) → Alive (bind t f)
  bind_alive (ret x) f l h = h x
  bind_alive fail f l h = l
  bind_alive (more k) f l h = λ at. bind_alive (k at 0) f (l at) h

  pub bind_clean : (t : Tree A) (f : A → Tree B) → Clean t → ((x : A) → Alive (f x)) → ((x : A) → Clean (f x)) → Clean (bind t f)
  bind_clean (ret x) f c h g = g x
  bind_clean fail f c h g = tt
  bind_clean (more k) f c h g = (λ at. bind_alive (k at 0) f (c.0 at) h, λ at w. bind_clean (k at w) f (c.1 at w) h g)
