-- A line and its fields: each from the other. Assumes nothing.
use Rattle.std.specs.Prelude.{ℕ, ◌<◌, ◌≡◌, refl, Bool, true, false, cond, List, [], ◌∷◌, ◌++◌, eqb, ltb, length}
use Rattle.std.proofs.Common.{sym, ap, ◌∙◌, subst, append-nil, arith, eqb-true, ltb-true, ne_eqb}
use Rattle.base_spec.specs.Parts.{onto, parts, fields}
use Rattle.base_spec.specs.Lines.{lines_of}
use Rattle.sheet_spec.specs.Spell.{joined}
use Rattle.sheet_facts.specs.Names.{solid}
use Rattle.base_facts.specs.Tests.{and-true}

joined-onto : (b : ℕ) (ps : List (List ℕ)) → joined (onto b ps) ≡ b ∷ joined ps
joined-onto b [] = refl
joined-onto b (p ∷ []) = refl
joined-onto b (p ∷ (q ∷ ps)) = refl

joined-none : (ps : List (List ℕ)) → 0 < length ps → joined ([] ∷ ps) ≡ 9 ∷ joined ps
joined-none [] h = absurd (omega arith)
joined-none (p ∷ ps) h = refl

onto_some : (b : ℕ) (ps : List (List ℕ)) → 0 < length (onto b ps)
onto_some b [] = omega arith
onto_some b (p ∷ ps) = omega arith

parts_some : (t : List ℕ) → 0 < length (parts 9 t)
parts_some [] = omega arith
parts_some (b ∷ bs) = go (eqb b 9)
  where
    go : (t : Bool) → 0 < length (cond t ([] ∷ parts 9 bs) (onto b (parts 9 bs)))
    go true = omega arith
    go false = onto_some b (parts 9 bs)

pub joined-fields : (t : List ℕ) → joined (fields t) ≡ t
joined-fields [] = refl
joined-fields (b ∷ bs) = go (eqb b 9) refl (joined-fields bs)
  where
    go : (t : Bool) → eqb b 9 ≡ t → joined (parts 9 bs) ≡ bs → joined (cond t ([] ∷ parts 9 bs) (onto b (parts 9 bs))) ≡ b ∷ bs
    go true e h = let q : 9 ≡ b = sym (eqb-true b 9 e) in joined-none (parts 9 bs) (parts_some bs) ∙ (λ i. q i ∷ h i)
    go false e h = joined-onto b (parts 9 bs) ∙ ap (λ (l : List ℕ). b ∷ l) h

-- no field holds a tab or a line feed
abbrev pub Solid : List (List ℕ) → Type 0
Solid [] = Unit {0}
Solid (f ∷ fs) = (solid f ≡ true) × Solid fs

parts_last : (f : List ℕ) → solid f ≡ true → parts 9 f ≡ f ∷ []
parts_last [] e = refl
parts_last (b ∷ bs) e =
    let t = and-true (ltb 10 b) (solid bs) e in
    rw (ne_eqb b 9 (λ q. omega (arith, ltb-true 10 b t.0)), parts_last bs t.1)

parts_next : (f r : List ℕ) → solid f ≡ true → parts 9 (f ++ (9 ∷ r)) ≡ f ∷ parts 9 r
parts_next [] r e = refl
parts_next (b ∷ bs) r e =
    let t = and-true (ltb 10 b) (solid bs) e in
    rw (ne_eqb b 9 (λ q. omega (arith, ltb-true 10 b t.0)), parts_next bs r t.1)

pub fields-joined : (f : List ℕ) (fs : List (List ℕ)) → Solid (f ∷ fs) → fields (joined (f ∷ fs)) ≡ f ∷ fs
fields-joined f [] h = parts_last f h.0
fields-joined f (g ∷ fs) h = parts_next f (joined (g ∷ fs)) h.0 ∙ ap (λ (l : List (List ℕ)). f ∷ l) (fields-joined g fs h.1)

-- ---- in a text: fields parted by tabs, ended by a line feed, are a line of it
solid_line : (f t rest : List ℕ) → solid f ≡ true → lines_of (t ++ (10 ∷ rest)) ≡ t ∷ lines_of rest → lines_of (f ++ t ++ (10 ∷ rest)) ≡ (f ++ t) ∷ lines_of rest
solid_line [] t rest e h = h
solid_line (b ∷ bs) t rest e h =
    let u = and-true (ltb 10 b) (solid bs) e in
    rw (ne_eqb b 10 (λ q. omega (arith, ltb-true 10 b u.0)), solid_line bs t rest u.1 h)

pub joined_line : (fs : List (List ℕ)) (rest : List ℕ) → Solid fs → lines_of (joined fs ++ (10 ∷ rest)) ≡ joined fs ∷ lines_of rest
joined_line [] rest h = refl
joined_line (f ∷ []) rest h =
    let e : f ++ [] ≡ f = append-nil f in
    subst (λ (t : List ℕ). lines_of (t ++ (10 ∷ rest)) ≡ t ∷ lines_of rest) e (solid_line f [] rest h.0 refl)
joined_line (f ∷ (g ∷ fs)) rest h = solid_line f (9 ∷ joined (g ∷ fs)) rest h.0 (ap (onto 9) (joined_line (g ∷ fs) rest h.1))
