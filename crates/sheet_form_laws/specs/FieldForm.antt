-- A field and what it says: each from the other. Assumes nothing.
use Rattle.std.specs.Prelude.{ℕ, ◌≡◌, refl, Bool, true, false, cond, List, [], ◌∷◌, ◌++◌}
use Rattle.std.proofs.Common.{sym, ap, ◌∙◌, arith, ne_eqb, lt-ltb}
use Rattle.base_spec.specs.Number as number
use Rattle.base_spec.specs.Number.{Number, is_digit, all_digits, value, is_decimal, number_of}
use Rattle.base_spec.specs.Written.{decimal_of}
use Rattle.sheet_spec.specs.declared.Kind.{Kind}
use Rattle.sheet_spec.specs.declared.Kind.TheVariants as kind
use Rattle.sheet_spec.specs.Line.{Token, literal, label, invalid, as_number, as_label, is_label, as_variant, token}
use Rattle.sheet_spec.specs.Spell.{sign_text, number_text, name_text, spelled, Written, Labelled, Either, Variant, Suits}
use Rattle.sheet_facts.specs.Names.{solid, name_back, name_solid}
use Rattle.sheet_facts.specs.Fields.{Sorted, of_number, of_target, of_place, of_variant, sorted, name_is, variant-token}
use Rattle.sheet_form_laws.specs.NumberForm.{digit, decimal_is, decimal_value, decimal_all, decimal_again, number_form, number_back}
use Rattle.base_facts.specs.Tests.{and-true, cond_true, cond_false}

-- digits are no tab, no line feed and no `@`
digits_solid : (l : List ℕ) → all_digits l ≡ true → solid l ≡ true
digits_solid [] e = refl
digits_solid (b ∷ bs) e =
    let t = and-true (is_digit b) (all_digits bs) e in
    let d = digit b t.0 in
    rw (lt-ltb 10 b (omega (arith, d))) (digits_solid bs t.1)

pub decimal_solid : (n : ℕ) → solid (decimal_of n) ≡ true
decimal_solid n = digits_solid (decimal_of n) (decimal_all (decimal_of n) (decimal_is n))

digits_name : (l : List ℕ) → all_digits l ≡ true → is_label l ≡ false
digits_name [] e = refl
digits_name (b ∷ bs) e = let d = digit b (and-true (is_digit b) (all_digits bs) e).0 in ne_eqb b 64 (λ q. omega (arith, d))

number_name : (s : Bool) (n : ℕ) → is_label (sign_text s ++ decimal_of n) ≡ false
number_name true n = refl
number_name false n = digits_name (decimal_of n) (decimal_all (decimal_of n) (decimal_is n))

-- what is spelled says what it was
label_back : (n : ℕ) → as_label (64 ∷ decimal_of n) ≡ label n
label_back n = cond_true (is_decimal (decimal_of n)) (label (value (decimal_of n))) invalid (decimal_is n) ∙ ap label (decimal_value n)

literal_back : (s : Bool) (n : ℕ) → Written (literal s n) → as_number (number_of (sign_text s ++ decimal_of n)) ≡ literal s n
literal_back s n h = ap as_number (number_back s n h)

written_back : (v : Token) → Written v → as_number (number_of (number_text v)) ≡ v
written_back (literal true n) h = literal_back true n h
written_back (literal false n) h = literal_back false n h
written_back (label n) h = absurd h
written_back invalid h = absurd h

named_back : (v : Token) → Labelled v → as_label (number_text v) ≡ v
named_back (literal s n) h = absurd h
named_back (label n) h = label_back n
named_back invalid h = absurd h

either_back : (v : Token) → Either v → token kind.Place (number_text v) ≡ v
either_back (literal s n) h =
    let f : List ℕ = sign_text s ++ decimal_of n in
    cond_false (is_label f) (as_label f) (as_number (number_of f)) (number_name s n) ∙ literal_back s n h
either_back (label n) h = label_back n
either_back invalid h = absurd h

variant_back : (k : Kind) (v : Token) → Variant k v → as_variant k (name_text k v) ≡ v
variant_back k (literal true n) h = absurd h
variant_back k (literal false n) h = name_back k n h.0 h.1
variant_back k (label n) h = absurd h
variant_back k invalid h = absurd h

pub token-spelled : (k : Kind) (v : Token) → Suits k v → token k (spelled k v) ≡ v
token-spelled k v = go (sorted k)
  where
    go : {k : Kind} → Sorted k → Suits k v → token k (spelled k v) ≡ v
    go of_number h = written_back v h
    go of_target h = named_back v h
    go of_place h = either_back v h
    go (of_variant {k} x) h = x.token (spelled k v) ∙ ap (as_variant k) (x.spelled v) ∙ variant_back k v (x.suits v h)

-- a field that says something is its spelling
number-token : (f : List ℕ) (v : Token) → as_number (number_of f) ≡ v → (v ≡ invalid → ⊥) → f ≡ number_text v
number-token f v e h = go (number_of f) refl e
  where
    go : (u : Number) → number_of f ≡ u → as_number u ≡ v → f ≡ number_text v
    go (number.Is s n) w q = rw (← q) (number_form f s n w).0
    go number.No w q = absurd (h (sym q))

name_token : (f : List ℕ) (v : Token) → as_label f ≡ v → (v ≡ invalid → ⊥) → f ≡ number_text v
name_token f v e h =
    let d = name_is f v e h in
    rw d.3 (d.1 ∙ ap (λ (g : List ℕ). 64 ∷ g) (sym (decimal_again d.0 d.2)))

either_token : (f : List ℕ) (v : Token) → token kind.Place f ≡ v → (v ≡ invalid → ⊥) → f ≡ number_text v
either_token f v e h = go (is_label f) e
  where
    go : (t : Bool) → cond t (as_label f) (as_number (number_of f)) ≡ v → f ≡ number_text v
    go true q = name_token f v q h
    go false q = number-token f v q h

pub token-is : (k : Kind) (f : List ℕ) (v : Token) → token k f ≡ v → (v ≡ invalid → ⊥) → f ≡ spelled k v
token-is k f v = go (sorted k)
  where
    go : {k : Kind} → Sorted k → token k f ≡ v → (v ≡ invalid → ⊥) → f ≡ spelled k v
    go of_number e h = number-token f v e h
    go of_target e h = name_token f v e h
    go of_place e h = either_token f v e h
    go (of_variant {k} x) e h = (variant-token k f v (sym (x.token f) ∙ e) h).0 ∙ sym (x.spelled v)

-- no spelling holds a tab
number-solid : (v : Token) → solid (number_text v) ≡ true
number-solid (literal true n) = decimal_solid n
number-solid (literal false n) = decimal_solid n
number-solid (label n) = decimal_solid n
number-solid invalid = refl

variant-solid : (k : Kind) (v : Token) → Variant k v → solid (name_text k v) ≡ true
variant-solid k (literal true n) h = absurd h
variant-solid k (literal false n) h = name_solid k n h.0
variant-solid k (label n) h = refl
variant-solid k invalid h = refl

pub field-solid : (k : Kind) (v : Token) → Suits k v → solid (spelled k v) ≡ true
field-solid k v = go (sorted k)
  where
    go : {k : Kind} → Sorted k → Suits k v → solid (spelled k v) ≡ true
    go of_number h = number-solid v
    go of_target h = number-solid v
    go of_place h = number-solid v
    go (of_variant {k} x) h = ap solid (x.spelled v) ∙ variant-solid k v (x.suits v h)
