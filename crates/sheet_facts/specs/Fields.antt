-- What a field says suits its kind. Assumes nothing.
use Rattle.std.specs.Prelude.{ℕ, ◌+◌, ◌^◌, ◌<◌, ◌≡◌, refl, Bool, true, false, cond, ◌&&◌, List, [], ◌∷◌, ◌++◌, map, eqb, ltb, length}
use Rattle.std.proofs.Common.{sym, ap, ◌∙◌, arith, eqb-true, ltb-true}
use Rattle.std.proofs.lemmas.List.{length-map}
use Rattle.std.proofs.lemmas.Bool.{eqb-false}
use Rattle.base_spec.specs.Number as number
use Rattle.base_spec.specs.Number.{Number, is_decimal, value, unsigned_of, negated, number_of}
use Rattle.sheet_spec.specs.declared.Kind.{Kind}
use Rattle.sheet_spec.specs.declared.Kind.TheVariants as kind
use Rattle.sheet_spec.specs.Names.{bytes, names_of}
use Rattle.sheet_spec.specs.Line.{Token, literal, label, invalid, as_number, as_label, is_label, as_variant}
use Rattle.sheet_spec.specs.Line as line
use Rattle.sheet_spec.specs.Spell.{sign_text, name_text, Written, Labelled, Either, Variant, Suits}
use Rattle.sheet_spec.specs.Spell as spell
use Rattle.sheet_facts.specs.Names.{place_is}
use Rattle.base_facts.specs.Tests.{and-true}

-- ---- the kinds: a number, a line's name, either, or a variant's name
pub record Enumerated (k : Kind) : Type 0 where
  pub token : (f : List ℕ) → line.token k f ≡ as_variant k f
  pub spelled : (v : Token) → spell.spelled k v ≡ name_text k v
  pub suits : (v : Token) → Suits k v → Variant k v
  pub suited : (v : Token) → Variant k v → Suits k v

pub data Sorted : Kind → Type 0 where
  of_number : Sorted kind.Number
  of_target : Sorted kind.Target
  of_place : Sorted kind.Place
  of_variant : {k : Kind} → Enumerated k → Sorted k

pub sorted : (k : Kind) → Sorted k
sorted kind.Number = of_number
sorted kind.Target = of_target
sorted kind.Place = of_place
sorted kind.Size = of_variant (record { token = λ f. refl; spelled = λ v. refl; suits = λ v h. h; suited = λ v h. h })
sorted kind.TargetDirection = of_variant (record { token = λ f. refl; spelled = λ v. refl; suits = λ v h. h; suited = λ v h. h })
sorted kind.RegisterOperand = of_variant (record { token = λ f. refl; spelled = λ v. refl; suits = λ v h. h; suited = λ v h. h })
sorted kind.AddressWidth = of_variant (record { token = λ f. refl; spelled = λ v. refl; suits = λ v h. h; suited = λ v h. h })
sorted kind.Condition = of_variant (record { token = λ f. refl; spelled = λ v. refl; suits = λ v h. h; suited = λ v h. h })
sorted kind.BranchSize = of_variant (record { token = λ f. refl; spelled = λ v. refl; suits = λ v h. h; suited = λ v h. h })
sorted kind.ShiftDirection = of_variant (record { token = λ f. refl; spelled = λ v. refl; suits = λ v h. h; suited = λ v h. h })
sorted kind.Sign = of_variant (record { token = λ f. refl; spelled = λ v. refl; suits = λ v h. h; suited = λ v h. h })
sorted kind.BitFieldOperation = of_variant (record { token = λ f. refl; spelled = λ v. refl; suits = λ v h. h; suited = λ v h. h })
sorted kind.FieldValue = of_variant (record { token = λ f. refl; spelled = λ v. refl; suits = λ v h. h; suited = λ v h. h })
sorted kind.TrapOperand = of_variant (record { token = λ f. refl; spelled = λ v. refl; suits = λ v h. h; suited = λ v h. h })
sorted kind.RegisterChoice = of_variant (record { token = λ f. refl; spelled = λ v. refl; suits = λ v h. h; suited = λ v h. h })
sorted kind.Operand = of_variant (record { token = λ f. refl; spelled = λ v. refl; suits = λ v h. h; suited = λ v h. h })
sorted kind.Instruction = of_variant (record { token = λ f. refl; spelled = λ v. refl; suits = λ v h. h; suited = λ v h. h })

-- ---- a number: its sign, and digits in plain form
pub record Numbered (f : List ℕ) (s : Bool) (n : ℕ) : Type 0 where
  pub digits : List ℕ
  pub spells : f ≡ sign_text s ++ digits
  pub in_decimal : is_decimal digits ≡ true
  pub writes : value digits ≡ n
  pub written : Written (literal s n)

no_is : {s : Bool} {n : ℕ} → number.No ≡ number.Is s n → ⊥
no_is e = let z : ◌≡◌ {A = ℕ} 0 1 = cc in absurd (omega arith)

unsigned_is : (f : List ℕ) (s : Bool) (n : ℕ) → unsigned_of f ≡ number.Is s n → (s ≡ false) × (is_decimal f ≡ true) × (value f ≡ n) × (n < 2 ^ 64)
unsigned_is f s n = go (is_decimal f) (ltb (value f) (2 ^ 64)) refl refl
  where
    go : (p q : Bool) → is_decimal f ≡ p → ltb (value f) (2 ^ 64) ≡ q → cond (p && q) (number.Is false (value f)) number.No ≡ number.Is s n
        → (s ≡ false) × (is_decimal f ≡ true) × (value f ≡ n) × (n < 2 ^ 64)
    go true true p q e =
        let b : false ≡ s = cc in
        let v : value f ≡ n = cc in
        (sym b, p, v, rw v at (ltb-true (value f) (2 ^ 64) q))
    go true false p q e = absurd (no_is e)
    go false true p q e = absurd (no_is e)
    go false false p q e = absurd (no_is e)

pub number_is : (f : List ℕ) (s : Bool) (n : ℕ) → number_of f ≡ number.Is s n → Numbered f s n
number_is [] s n e = absurd (no_is e)
number_is (b ∷ bs) s n e = go (eqb b 45) refl e
  where
    minus : b ≡ 45 → (m : ℕ) (t : Bool) → is_decimal bs ≡ true → value bs ≡ m → m < 2 ^ 64 → eqb m 0 ≡ t → cond t number.No (number.Is true m) ≡ number.Is s n
        → Numbered (b ∷ bs) s n
    minus h m true p v l z e = absurd (no_is e)
    minus h m false p v l z e =
        let x : true ≡ s = cc in
        let y : m ≡ n = cc in
        rw (← x, ← y) (record { digits = bs; spells = λ i. h i ∷ bs; in_decimal = p; writes = v; written = (omega (arith, eqb-false m 0 z), l) })

    below : b ≡ 45 → (u : Number) → unsigned_of bs ≡ u → negated u ≡ number.Is s n → Numbered (b ∷ bs) s n
    below h (number.Is t m) w e = let d = unsigned_is bs t m w in minus h m (eqb m 0) d.1 d.2 d.3 refl e
    below h number.No w e = absurd (no_is e)

    go : (t : Bool) → eqb b 45 ≡ t → cond t (negated (unsigned_of bs)) (unsigned_of (b ∷ bs)) ≡ number.Is s n → Numbered (b ∷ bs) s n
    go true h e = below (eqb-true b 45 h) (unsigned_of bs) refl e
    go false h e =
        let d = unsigned_is (b ∷ bs) s n e in
        rw d.0 (record { digits = b ∷ bs; spells = refl; in_decimal = d.1; writes = d.2; written = d.3 })

-- ---- a field that says something
number_suits : (f : List ℕ) (v : Token) → as_number (number_of f) ≡ v → (v ≡ invalid → ⊥) → Either v × Written v
number_suits f v e h = go (number_of f) refl e
  where
    go : (u : Number) → number_of f ≡ u → as_number u ≡ v → Either v × Written v
    go (number.Is s n) w q = let d = (number_is f s n w).written in rw (← q) (d, d)
    go number.No w q = absurd (h (sym q))

-- a line's name: `@`, and digits in plain form
pub name_is : (f : List ℕ) (v : Token) → as_label f ≡ v → (v ≡ invalid → ⊥) → (g : List ℕ) × (f ≡ 64 ∷ g) × (is_decimal g ≡ true) × (v ≡ label (value g))
name_is [] v e h = absurd (h (sym e))
name_is (b ∷ bs) v e h = go (eqb b 64 && is_decimal bs) refl e
  where
    go : (t : Bool) → eqb b 64 && is_decimal bs ≡ t → cond t (label (value bs)) invalid ≡ v → (g : List ℕ) × (b ∷ bs ≡ 64 ∷ g) × (is_decimal g ≡ true) × (v ≡ label (value g))
    go true t q =
        let d = and-true (eqb b 64) (is_decimal bs) t in
        let x : b ≡ 64 = eqb-true b 64 d.0 in
        (bs, (λ i. x i ∷ bs), d.1, sym q)
    go false t q = absurd (h (sym q))

name_suits : (f : List ℕ) (v : Token) → as_label f ≡ v → (v ≡ invalid → ⊥) → Either v × Labelled v
name_suits f v e h = rw (name_is f v e h).3 (tt, tt)

place_suits : (f : List ℕ) (v : Token) → line.token kind.Place f ≡ v → (v ≡ invalid → ⊥) → Either v
place_suits f v e h = go (is_label f) e
  where
    go : (t : Bool) → cond t (as_label f) (as_number (number_of f)) ≡ v → Either v
    go true q = (name_suits f v q h).0
    go false q = (number_suits f v q h).0

-- a variant's name is the one at its place
pub variant-token : (k : Kind) (f : List ℕ) (v : Token) → as_variant k f ≡ v → (v ≡ invalid → ⊥) → (f ≡ name_text k v) × Variant k v
variant-token k f v e h =
    let p = place_is 0 f (map bytes (names_of k)) v e h in
    let z : 0 + p.at ≡ p.at = omega arith in
    let q : v ≡ literal false p.at = p.says ∙ ap (literal false) z in
    let l : p.at < length (names_of k) = omega (arith, p.here, length-map (names_of k) bytes) in
    rw q (p.name, (l, rw p.name at p.some))

pub token_suits : (k : Kind) (f : List ℕ) (v : Token) → line.token k f ≡ v → (v ≡ invalid → ⊥) → Suits k v
token_suits k f v = go (sorted k)
  where
    go : {k : Kind} → Sorted k → line.token k f ≡ v → (v ≡ invalid → ⊥) → Suits k v
    go of_number e h = (number_suits f v e h).1
    go of_target e h = (name_suits f v e h).1
    go of_place e h = place_suits f v e h
    go (of_variant {k} x) e h = x.suited v (variant-token k f v (sym (x.token f) ∙ e) h).1

-- nothing suits no kind
pub suits_some : (k : Kind) → Suits k invalid → ⊥
suits_some k = go (sorted k)
  where
    go : {k : Kind} → Sorted k → Suits k invalid → ⊥
    go of_number h = h
    go of_target h = h
    go of_place h = h
    go (of_variant x) h = x.suits invalid h
