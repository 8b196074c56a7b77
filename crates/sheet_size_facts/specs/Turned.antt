-- What a line's fields make when each label is made a number: the same values, but for the targets.
use Rattle.std.specs.Prelude.{ℕ, ◌^◌, ◌<◌, ◌≡◌, Bool, true, cond, List, ◌∷◌, ◌++◌, map, ℤ}
use Rattle.std.proofs.Math.Option.{Option, none, some}
use Rattle.numeric_spec.specs.Entry.{Entry, entry_number, Inside}
use Rattle.sheet_spec.specs.declared.Kind.{Kind}
use Rattle.sheet_spec.specs.Line.{Token}
use Rattle.sheet_spec.specs.Spell.{SuitAll}
use Rattle.sheet_spec.specs.Made.{number_as, resolves_all}

-- every label made what f says, and the labels of d alone
abbrev pub every : (ℕ → ℕ) → ℕ → Option ℕ
every f k = some (f k)

abbrev pub given : (ℕ → Bool) → (ℕ → ℕ) → ℕ → Option ℕ
given d f k = cond (d k) (some (f k)) none

-- the entries' numbers are what the fields say
abbrev pub Spelt : (ℕ → ℕ) → List Token → List Entry → Type 0
Spelt f vs es = map (number_as (every f)) vs ≡ map entry_number es

pub head_is : {x y : ℤ} {xs ys : List ℤ} → x ∷ xs ≡ y ∷ ys → x ≡ y
head_is e = cc

pub tail_is : {x y : ℤ} {xs ys : List ℤ} → x ∷ xs ≡ y ∷ ys → xs ≡ ys
tail_is e = cc

-- what a label is made is of 32 bits
abbrev pub Bounded : (ℕ → Bool) → (ℕ → ℕ) → Type 0
Bounded d f = (k : ℕ) → d k ≡ true → f k < 2 ^ 32

-- fields in the grammar that name lines, and the entries that they spell where labels are 0
pub record Input (d : ℕ → Bool) (ks : List Kind) (vs : List Token) (es : List Entry) : Type 0 where
  pub fits : SuitAll ks vs
  pub labels : resolves_all (given d (λ k. 0)) vs ≡ true
  pub zeros : Spelt (λ k. 0) vs es

-- a value in front, whatever labels are made, and what is left of the fields
pub record Turned (d : ℕ → Bool) (X : Type 0) (form : X → List Entry) (P : ((ℕ → ℕ) → X) → Type 0) (ks : List Kind) (vs : List Token) (es : List Entry) : Type 0 where
  pub rest : List Token
  pub left : Input d ks rest es
  pub made : (ℕ → ℕ) → X
  pub good : P made
  pub spells : (f : ℕ → ℕ) → Bounded d f → (us : List Entry) → Spelt f rest us → Spelt f vs (form (made f) ++ us)
  pub stays : (f : ℕ → ℕ) → Bounded d f → Inside (form (made f))

-- fields of these kinds that spell x make values that are x but for the targets, of which something is known
abbrev pub Turn : (d : ℕ → Bool) {X : Type 0} → (X → List Entry) → List Kind → (X → X) → (((ℕ → ℕ) → X) → Type 0) → X → Type 0
Turn d {X} form kinds untargeted Aims x =
    (ks : List Kind) (vs : List Token) (es : List Entry) → Input d (kinds ++ ks) vs (form x ++ es) → Inside (form x)
    → Turned d X form (λ y. ((f : ℕ → ℕ) → untargeted (y f) ≡ untargeted x) × Aims y) ks vs es
