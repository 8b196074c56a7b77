-- Laws of a line that is explained, of the first and the last LF, and of bytes moved to the front. Assumes nothing.
use Prim.Native.Nat.{ℕ, suc, ◌+◌, ◌-◌, ◌≤◌, ◌<◌}
use mathlib.Core.Path.{◌≡◌, refl, sym, ap, ◌∙◌}
use mathlib.Core.Bool.{Bool, true, false, cond}
use mathlib.Core.List.{List, [], ◌∷◌, ◌++◌, append_assoc}
use native.Mathlib.Omega.{arith}
use lib.Dec.{eqb, leb}
use lib.ListN.{length, take, drop, get_or, length-take, length-drop, take-append-drop}
use lib.Seq.{take_all, paste, paste-zero, take-suc}
use borrow.Author.Tests.{eq-eqb, ne_eqb, lt-ltb, le-leb, lt-leb}
use Rattle.base_facts.specs.Tests.{Eq, same, other, eq?, cond_true, cond_false}
use Rattle.base_spec.specs.Written.{placed}
use Rattle.base_text.specs.Parts.{before}
use Rattle.explain_spec.specs.declared.Refusal.{Refusal}
use Rattle.explain_spec.specs.Refusal.{no_refusal, refusal_in}
use Rattle.explain_spec.specs.Sentence.{sentence_of, is_known, wrong_of}
use Rattle.explain_spec.specs.Explained.{explained_line}
use Rattle.explain_lines.specs.Cut.{ended_of, first_end, cut_from, cut_of, between}

pub line_sentence : (l : List ℕ) (r : Refusal) → r ≡ refusal_in l → length l < 65536 → explained_line l ≡ l ++ (10 ∷ []) ++ sentence_of r
unfolding explained_line
line_sentence l r e h = rw (lt-ltb (length l) 65536 h) (ap (λ (q : Refusal). l ++ (10 ∷ sentence_of q)) (sym e) ∙ sym (append_assoc l (10 ∷ []) (sentence_of r)))

pub empty_line : explained_line [] ≡ 10 ∷ []
unfolding explained_line refusal_in sentence_of is_known wrong_of no_refusal
empty_line = refl

-- a byte more at the end
ended_snoc : (a : List ℕ) (b : ℕ) → ended_of (a ++ (b ∷ [])) ≡ cond (eqb b 10) (suc (length a)) (ended_of a)
ended_snoc [] b = refl
ended_snoc (x ∷ a) b = ap (λ (e : ℕ). cond (eqb e 0) (cond (eqb x 10) 1 0) (suc e)) (ended_snoc a b) ∙ go (eqb b 10)
  where
    go : (t : Bool) → cond (eqb (cond t (suc (length a)) (ended_of a)) 0) (cond (eqb x 10) 1 0) (suc (cond t (suc (length a)) (ended_of a)))
        ≡ cond t (suc (suc (length a))) (cond (eqb (ended_of a) 0) (cond (eqb x 10) 1 0) (suc (ended_of a)))
    go true = rw (ne_eqb (suc (length a)) 0 (λ z. omega (arith, z)))
    go false = refl

module _ (t : List ℕ) (i : ℕ) (h : 0 < i) (g : i ≤ length t) where
  last_byte : ended_of (take i t) ≡ cond (eqb (get_or t (i - 1) 0) 10) i (ended_of (take (i - 1) t))
  last_byte =
      let q : i ≡ suc (i - 1) = omega arith in
      let n : suc (length (take (i - 1) t)) ≡ i = rw length-take (omega arith) in
      ap (λ (k : ℕ). ended_of (take k t)) q ∙ ap ended_of (take-suc t (i - 1) 0 (omega arith)) ∙ ended_snoc (take (i - 1) t) (get_or t (i - 1) 0)
      ∙ ap (λ (k : ℕ). cond (eqb (get_or t (i - 1) 0) 10) k (ended_of (take (i - 1) t))) n

  pub last_here : get_or t (i - 1) 0 ≡ 10 → ended_of (take i t) ≡ i
  last_here e = last_byte ∙ rw (eq-eqb (get_or t (i - 1) 0) 10 e)

  pub last_earlier : (get_or t (i - 1) 0 ≡ 10 → ⊥) → ended_of (take i t) ≡ ended_of (take (i - 1) t)
  last_earlier e = last_byte ∙ rw (ne_eqb (get_or t (i - 1) 0) 10 e)

pub first_at : (t : List ℕ) → length (before 10 t) < length t → first_end t ≡ length (before 10 t) + 1
first_at [] h = absurd (omega arith)
first_at (b ∷ t) h = go (eq? b 10) (λ k. first_at t k)
  where
    one : eqb b 10 ≡ true → first_end (b ∷ t) ≡ length (before 10 (b ∷ t)) + 1
    one g = rw g

    long : eqb b 10 ≡ false → length (before 10 (b ∷ t)) ≡ suc (length (before 10 t))
    long g = rw g

    more : eqb b 10 ≡ false → (first_end t ≡ 0 → ⊥) → first_end (b ∷ t) ≡ suc (first_end t)
    more g n = rw (g, ne_eqb (first_end t) 0 n)

    go : Eq b 10 → (length (before 10 t) < length t → first_end t ≡ length (before 10 t) + 1) → first_end (b ∷ t) ≡ length (before 10 (b ∷ t)) + 1
    go (same e g) i = one g
    go (other e g) i =
        let f = i (omega (arith, long g, h)) in
        more g (λ z. omega (arith, z, f)) ∙ omega (arith, long g, f)

pub first_not : (t : List ℕ) → length t ≤ length (before 10 t) → first_end t ≡ 0
first_not [] h = refl
first_not (b ∷ t) h = go (eq? b 10) (λ k. first_not t k)
  where
    none : eqb b 10 ≡ true → length (before 10 (b ∷ t)) ≡ 0
    none g = rw g

    long : eqb b 10 ≡ false → length (before 10 (b ∷ t)) ≡ suc (length (before 10 t))
    long g = rw g

    less : eqb b 10 ≡ false → first_end t ≡ 0 → first_end (b ∷ t) ≡ 0
    less g e = rw (g, eq-eqb (first_end t) 0 e)

    go : Eq b 10 → (length t ≤ length (before 10 t) → first_end t ≡ 0) → first_end (b ∷ t) ≡ 0
    go (same e g) i = absurd (omega (arith, none g, h))
    go (other e g) i = less g (i (omega (arith, long g, h)))

-- a part moved to the front
pub moved : (d : List ℕ) (from to : ℕ) → from ≤ to → to ≤ length d → paste d 0 (drop from d) (to - from) ≡ placed d 0 (between from to d)
moved d from to h g =
    let n : to - from ≡ length (take (to - from) (drop from d)) = rw (length-take, length-drop) (omega arith) in
    (λ j. take 0 d ++ take (to - from) (drop from d) ++ drop (0 + n j) d)

pub unmoved : (d : List ℕ) (from to : ℕ) → from ≡ 0 → to ≤ length d → d ≡ placed d 0 (between from to d)
unmoved d from to e h =
    let n : length (take (to - from) (drop from d)) ≡ to = rw (length-take, length-drop) (omega arith) in
    let q : to ≡ to - from = omega arith in
    let z : 0 ≡ from = sym e in
    let m : to ≡ 0 + length (take (to - from) (drop from d)) = omega (arith, n) in
    sym (take-append-drop to d) ∙ (λ j. take (q j) (drop (z j) d) ++ drop (m j) d)

-- a cut, case by case
module _ (t : List ℕ) (p e : ℕ) (h : p ≤ length t) (g : e ≡ ended_of (take (length t - p) (drop p t))) where
  ended_is : p + e ≡ p + ended_of (drop p t)
  ended_is = ap (λ (n : ℕ). p + n) (g ∙ ap ended_of (take_all (length t - p) (drop p t) (omega (arith, length-drop p t))))

  pub cut_long : 65536 ≤ length t - (p + e) → record { passed = p; ended = p + e; kept = length t; begun = true } ≡ cut_from t p
  unfolding cut_from
  cut_long k =
      let q = ended_is in
      (λ i. record { passed = p; ended = q i; kept = length t; begun = true })
      ∙ sym (cond_true (leb 65536 (length t - (p + ended_of (drop p t)))) _ _ (le-leb 65536 (length t - (p + ended_of (drop p t))) (omega (arith, q))))

  pub cut_short : length t - (p + e) < 65536 → record { passed = p; ended = p + e; kept = p + e; begun = false } ≡ cut_from t p
  unfolding cut_from
  cut_short k =
      let q = ended_is in
      (λ i. record { passed = p; ended = q i; kept = q i; begun = false })
      ∙ sym (cond_false (leb 65536 (length t - (p + ended_of (drop p t)))) _ _ (lt-leb 65536 (length t - (p + ended_of (drop p t))) (omega (arith, q))))

module _ (begun : Bool) (t : List ℕ) where
  pub cut_inside : begun ≡ true → first_end t ≡ 0 → record { passed = length t; ended = length t; kept = length t; begun = true } ≡ cut_of begun t
  unfolding cut_of
  cut_inside b e = rw (b, eq-eqb (first_end t) 0 e)

  pub cut_behind : begun ≡ true → (first_end t ≡ 0 → ⊥) → cut_from t (first_end t) ≡ cut_of begun t
  unfolding cut_of
  cut_behind b e = rw (b, ne_eqb (first_end t) 0 e)

  pub cut_whole : begun ≡ false → cut_from t 0 ≡ cut_of begun t
  unfolding cut_of
  cut_whole b = rw b

-- an empty text placed
pub nothing_placed : (buf : List ℕ) (at : ℕ) (t : List ℕ) → length t ≡ 0 → (at ≡ at + length t) × (buf ≡ placed buf at t)
nothing_placed buf at [] h = (omega arith, paste-zero buf at [])
nothing_placed buf at (x ∷ t) h = absurd (omega arith)
