-- Laws of a text that is cut. Assumes nothing.
use Rattle.std.specs.Prelude.{ℕ, zero, suc, ◌≤◌, ◌<◌, ◌≡◌, refl, Bool, true, false, cond, List, [], ◌∷◌, ◌++◌, eqb, length, take, drop}
use Rattle.std.proofs.Common.{sym, ap, subst, ◌∙◌, append_assoc, append-nil, arith, length-append, eq-eqb, eqb-true, le-ltb}
use Rattle.base_facts.specs.Tests.{Eq, same, other, eq?}
use Rattle.base_spec.specs.Parts.{onto, parts}
use Rattle.base_spec.specs.Lines.{lines_of, answers_to, answers_of}
use Rattle.base_text.specs.PartLaws.{parts_from, parts_first}
use Rattle.base_text.specs.Parts.{before}
use Rattle.explain_spec.specs.Explained.{explained_line, explained_parts, explained_from}
use Rattle.explain_lines.specs.Cut.{ended_of, first_end}

module _ (b : ℕ) (bs : List ℕ) where
  ended-one : eqb (ended_of bs) 0 ≡ true → eqb b 10 ≡ true → ended_of (b ∷ bs) ≡ 1
  ended-one e d = rw (e, d)

  ended-none : eqb (ended_of bs) 0 ≡ true → eqb b 10 ≡ false → ended_of (b ∷ bs) ≡ 0
  ended-none e d = rw (e, d)

  ended_more : eqb (ended_of bs) 0 ≡ false → ended_of (b ∷ bs) ≡ suc (ended_of bs)
  ended_more e = rw e

pub ended-fits : (t : List ℕ) → ended_of t ≤ length t
ended-fits [] = omega arith
ended-fits (b ∷ t) = go (eqb (ended_of t) 0) (eqb b 10) (ended-fits t)
  where
    go : (c d : Bool) → ended_of t ≤ length t → cond c (cond d 1 0) (suc (ended_of t)) ≤ suc (length t)
    go true true h = omega arith
    go true false h = omega arith
    go false d h = omega arith

-- no byte of it is LF
no_end : (b : ℕ) (bs : List ℕ) → ended_of (b ∷ bs) ≡ 0 → (eqb b 10 ≡ false) × (ended_of bs ≡ 0)
no_end b bs h = go (eq? (ended_of bs) 0) (eq? b 10)
  where
    go : Eq (ended_of bs) 0 → Eq b 10 → (eqb b 10 ≡ false) × (ended_of bs ≡ 0)
    go (same e f) (same d g) = absurd (omega (arith, ended-one b bs f g, h))
    go (same e f) (other d g) = (g, e)
    go (other e f) d = absurd (omega (arith, ended_more b bs f, h))

-- a text has a first part
parts_some : (f : List ℕ) → parts 10 f ≡ before 10 f ∷ parts_from 10 f (suc (length (before 10 f)))
parts_some f = parts_first 10 f

-- ---- inside a line that is passed on
onto_begun : (b : ℕ) (ps : List (List ℕ)) → explained_parts true (onto b ps) ≡ b ∷ explained_parts true ps
onto_begun b [] = refl
onto_begun b (l ∷ []) = refl
onto_begun b (l ∷ (m ∷ ls)) = refl

step_begun : (b : ℕ) (t : List ℕ) → eqb b 10 ≡ false → explained_from true (b ∷ t) ≡ b ∷ explained_from true t
unfolding explained_from
step_begun b t e = rw e (onto_begun b (parts 10 t))

pub begun_on : (a f : List ℕ) → ended_of a ≡ 0 → explained_from true (a ++ f) ≡ a ++ explained_from true f
begun_on [] f h = refl
begun_on (b ∷ a) f h =
    let n = no_end b a h in
    step_begun b (a ++ f) n.0 ∙ ap (λ (t : List ℕ). b ∷ t) (begun_on a f n.1)

-- a line begins behind an LF
part_ends : (begun : Bool) (l f : List ℕ) → explained_parts begun (l ∷ parts 10 f) ≡ cond begun (l ++ (10 ∷ [])) (explained_line l) ++ explained_parts false (parts 10 f)
part_ends begun l f =
    ap (λ (ps : List (List ℕ)). explained_parts begun (l ∷ ps)) (parts_some f)
    ∙ ap (λ (ps : List (List ℕ)). cond begun (l ++ (10 ∷ [])) (explained_line l) ++ explained_parts false ps) (sym (parts_some f))

ends_begun : (b : ℕ) (f : List ℕ) → eqb b 10 ≡ true → explained_from true (b ∷ f) ≡ b ∷ explained_from false f
unfolding explained_from
ends_begun b f e =
    let q : 10 ≡ b = sym (eqb-true b 10 e) in
    rw e (part_ends true [] f) ∙ ap (λ (d : ℕ). d ∷ explained_parts false (parts 10 f)) q

pub begun_first : (t f : List ℕ) → (first_end t ≡ 0 → ⊥) → explained_from true (t ++ f) ≡ take (first_end t) t ++ explained_from false (drop (first_end t) t ++ f)
begun_first [] f h = absurd (h refl)
begun_first (b ∷ t) f h = go (eq? b 10) (eq? (first_end t) 0) (λ e. begun_first t f e)
  where
    go : Eq b 10 → Eq (first_end t) 0
        → ((first_end t ≡ 0 → ⊥) → explained_from true (t ++ f) ≡ take (first_end t) t ++ explained_from false (drop (first_end t) t ++ f))
        → explained_from true (b ∷ (t ++ f)) ≡ take (first_end (b ∷ t)) (b ∷ t) ++ explained_from false (drop (first_end (b ∷ t)) (b ∷ t) ++ f)
    go (same d g) n i = rw g (ends_begun b (t ++ f) g)
    go (other d g) (same e k) i = absurd (h (rw (g, k)))
    go (other d g) (other e k) i = rw (g, k) (step_begun b (t ++ f) g ∙ ap (λ (x : List ℕ). b ∷ x) (i e))

-- an LF is first or last alike
pub first_none : (t : List ℕ) → first_end t ≡ 0 → ended_of t ≡ 0
first_none [] h = refl
first_none (b ∷ t) h = go (eq? b 10) (eq? (first_end t) 0) (λ e. first_none t e)
  where
    first_one : eqb b 10 ≡ true → first_end (b ∷ t) ≡ 1
    first_one g = rw g

    first_more : eqb b 10 ≡ false → eqb (first_end t) 0 ≡ false → first_end (b ∷ t) ≡ suc (first_end t)
    first_more g k = rw (g, k)

    go : Eq b 10 → Eq (first_end t) 0 → (first_end t ≡ 0 → ended_of t ≡ 0) → ended_of (b ∷ t) ≡ 0
    go (same d g) n i = absurd (omega (arith, first_one g, h))
    go (other d g) (same e k) i = ended-none b t (eq-eqb (ended_of t) 0 (i e)) g
    go (other d g) (other e k) i = absurd (omega (arith, first_more g k, h))

-- ---- a line that is too long
abbrev onto-all : List ℕ → List (List ℕ) → List (List ℕ)
onto-all [] ps = ps
onto-all (b ∷ a) ps = onto b (onto-all a ps)

parts-onto : (a f : List ℕ) → ended_of a ≡ 0 → parts 10 (a ++ f) ≡ onto-all a (parts 10 f)
parts-onto [] f h = refl
parts-onto (b ∷ a) f h = let n = no_end b a h in rw n.0 (ap (onto b) (parts-onto a f n.1))

onto_first : (a p : List ℕ) (ps : List (List ℕ)) → onto-all a (p ∷ ps) ≡ (a ++ p) ∷ ps
onto_first [] p ps = refl
onto_first (b ∷ a) p ps = ap (onto b) (onto_first a p ps)

pub line_long : (l : List ℕ) → 65536 ≤ length l → explained_line l ≡ l ++ (10 ∷ [])
unfolding explained_line
line_long l h = rw (le-ltb (length l) 65536 h)

first_long : (a p : List ℕ) (ps : List (List ℕ)) → 65536 ≤ length a → explained_parts false ((a ++ p) ∷ ps) ≡ a ++ explained_parts true (p ∷ ps)
first_long a p [] h = refl
first_long a p (m ∷ ls) h =
    ap (λ (t : List ℕ). t ++ explained_parts false (m ∷ ls)) (line_long (a ++ p) (omega (arith, length-append a p)) ∙ append_assoc a p (10 ∷ []))
    ∙ append_assoc a (p ++ (10 ∷ [])) (explained_parts false (m ∷ ls))

pub long_on : (a f : List ℕ) → ended_of a ≡ 0 → 65536 ≤ length a → explained_from false (a ++ f) ≡ a ++ explained_from true f
unfolding explained_from
long_on a f h g =
    let p = before 10 f in
    let ps = parts_from 10 f (suc (length (before 10 f))) in
    ap (explained_parts false) (parts-onto a f h ∙ ap (onto-all a) (parts_some f) ∙ onto_first a p ps)
    ∙ first_long a p ps g ∙ ap (λ (q : List (List ℕ)). a ++ explained_parts true q) (sym (parts_some f))

-- what no LF ends is passed on as it is
pub unended : (begun : Bool) (a : List ℕ) → ended_of a ≡ 0 → explained_from begun (a ++ []) ≡ a
unfolding explained_from
unended begun a h = ap (explained_parts begun) (parts-onto a [] h ∙ onto_first a [] []) ∙ append-nil a

-- ---- lines that are ended
lines_on : (b : ℕ) (ls ps : List (List ℕ)) → 0 < length ls → onto b (ls ++ ps) ≡ onto b ls ++ ps
lines_on b [] ps h = absurd (omega arith)
lines_on b (l ∷ ls) ps h = refl

onto_some : (b : ℕ) (ls : List (List ℕ)) → 0 < length (onto b ls)
onto_some b [] = omega arith
onto_some b (l ∷ ls) = omega arith

lines_some : (b : ℕ) (bs : List ℕ) → 0 < length (lines_of (b ∷ bs))
lines_some b bs = go (eqb b 10)
  where
    go : (t : Bool) → 0 < length (cond t ([] ∷ lines_of bs) (onto b (lines_of bs)))
    go true = omega arith
    go false = onto_some b (lines_of bs)

pub ended-lines : (t g : List ℕ) → parts 10 (take (ended_of t) t ++ g) ≡ lines_of (take (ended_of t) t) ++ parts 10 g
ended-lines [] g = refl
ended-lines (b ∷ t) g = go (eq? (ended_of t) 0) (eq? b 10) (ended-lines t g)
  where
    more : (x : List ℕ) → 0 < length (lines_of x) → parts 10 (x ++ g) ≡ lines_of x ++ parts 10 g → (d : Bool)
        → cond d ([] ∷ parts 10 (x ++ g)) (onto b (parts 10 (x ++ g))) ≡ cond d ([] ∷ lines_of x) (onto b (lines_of x)) ++ parts 10 g
    more x s e true = ap (λ (ps : List (List ℕ)). [] ∷ ps) e
    more x s e false = ap (onto b) e ∙ lines_on b (lines_of x) (parts 10 g) s

    taken_some : (n : ℕ) (x : List ℕ) → n ≤ length x → (n ≡ 0 → ⊥) → 0 < length (lines_of (take n x))
    taken_some zero x e h = absurd (h refl)
    taken_some (suc n) [] e h = absurd (omega arith)
    taken_some (suc n) (c ∷ x) e h = lines_some c (take n x)

    one : eqb b 10 ≡ true → parts 10 (b ∷ g) ≡ lines_of (b ∷ []) ++ parts 10 g
    one k = rw k

    go : Eq (ended_of t) 0 → Eq b 10 → parts 10 (take (ended_of t) t ++ g) ≡ lines_of (take (ended_of t) t) ++ parts 10 g
        → parts 10 (take (ended_of (b ∷ t)) (b ∷ t) ++ g) ≡ lines_of (take (ended_of (b ∷ t)) (b ∷ t)) ++ parts 10 g
    go (same e f) (same d k) h = subst (λ (n : ℕ). parts 10 (take n (b ∷ t) ++ g) ≡ lines_of (take n (b ∷ t)) ++ parts 10 g) (sym (ended-one b t f k)) (one k)
    go (same e f) (other d k) h = subst (λ (n : ℕ). parts 10 (take n (b ∷ t) ++ g) ≡ lines_of (take n (b ∷ t)) ++ parts 10 g) (sym (ended-none b t f k)) refl
    go (other e f) d h =
        subst (λ (n : ℕ). parts 10 (take n (b ∷ t) ++ g) ≡ lines_of (take n (b ∷ t)) ++ parts 10 g) (sym (ended_more b t f))
        (more (take (ended_of t) t) (taken_some (ended_of t) t (ended-fits t) e) h (eqb b 10))

answers_then : (ls : List (List ℕ)) (p : List ℕ) (ps : List (List ℕ)) → explained_parts false (ls ++ (p ∷ ps)) ≡ answers_to explained_line ls ++ explained_parts false (p ∷ ps)
answers_then [] p ps = refl
answers_then (l ∷ []) p ps = ap (λ (t : List ℕ). t ++ explained_parts false (p ∷ ps)) (sym (append-nil (explained_line l)))
answers_then (l ∷ (m ∷ ls)) p ps =
    ap (λ (t : List ℕ). explained_line l ++ t) (answers_then (m ∷ ls) p ps)
    ∙ sym (append_assoc (explained_line l) (answers_to explained_line (m ∷ ls)) (explained_parts false (p ∷ ps)))

pub lines_then : (t g : List ℕ) → explained_from false (take (ended_of t) t ++ g) ≡ answers_of explained_line (take (ended_of t) t) ++ explained_from false g
unfolding explained_from answers_of
lines_then t g =
    let ls = lines_of (take (ended_of t) t) in
    ap (explained_parts false) (ended-lines t g ∙ ap (λ (ps : List (List ℕ)). ls ++ ps) (parts_some g))
    ∙ answers_then ls (before 10 g) (parts_from 10 g (suc (length (before 10 g))))
    ∙ ap (λ (ps : List (List ℕ)). answers_to explained_line ls ++ explained_parts false ps) (sym (parts_some g))

-- nothing behind them is ended
pub ended_rest : (t : List ℕ) → ended_of (drop (ended_of t) t) ≡ 0
ended_rest [] = refl
ended_rest (b ∷ t) = go (eq? (ended_of t) 0) (eq? b 10) (ended_rest t)
  where
    go : Eq (ended_of t) 0 → Eq b 10 → ended_of (drop (ended_of t) t) ≡ 0 → ended_of (drop (ended_of (b ∷ t)) (b ∷ t)) ≡ 0
    go (same e f) (same d k) i = subst (λ (n : ℕ). ended_of (drop n (b ∷ t)) ≡ 0) (sym (ended-one b t f k)) e
    go (same e f) (other d k) i = subst (λ (n : ℕ). ended_of (drop n (b ∷ t)) ≡ 0) (sym (ended-none b t f k)) (ended-none b t f k)
    go (other e f) d i = subst (λ (n : ℕ). ended_of (drop n (b ∷ t)) ≡ 0) (sym (ended_more b t f)) i

pub first_fits : (t : List ℕ) → first_end t ≤ length t
first_fits [] = omega arith
first_fits (b ∷ t) = go (eqb b 10) (eqb (first_end t) 0) (first_fits t)
  where
    go : (c d : Bool) → first_end t ≤ length t → cond c 1 (cond d 0 (suc (first_end t))) ≤ suc (length t)
    go true d h = omega arith
    go false true h = omega arith
    go false false h = omega arith
