-- A variant's place and its name: each from the other. Assumes nothing.
use Rattle.std.specs.Prelude.{ℕ, suc, ◌+◌, ◌<◌, ◌≡◌, refl, Bool, true, false, cond, not, ◌&&◌, ◌||◌, List, [], ◌∷◌, map, eqb, ltb, length, get_or}
use Rattle.std.proofs.Common.{sym, ap, ◌∙◌, arith, eqb-true}
use Rattle.std.proofs.lemmas.Bool.{false≢true}
use Rattle.sheet_spec.specs.declared.Kind.{Kind}
use Rattle.sheet_spec.specs.declared.Kind.TheVariants as kind
use Rattle.sheet_spec.specs.Names.{bytes, names_of}
use Rattle.sheet_spec.specs.Line.{Token, literal, label, invalid, equal, is_none, place_from, as_variant}
use Rattle.sheet_facts.specs.Facts.{equal_is}
use Rattle.base_facts.specs.Tests.{and-true, below, all}

-- every byte is above 10, so none is a tab or a line feed
abbrev pub solid : List ℕ → Bool
solid [] = true
solid (b ∷ bs) = ltb 10 b && solid bs

some_is : (f : List ℕ) → not (is_none f) ≡ true → 0 < length f
some_is [] e = absurd (false≢true e)
some_is (b ∷ bs) e = omega arith

-- a field that says a place is the name there
pub record Place (k : ℕ) (f : List ℕ) (ns : List (List ℕ)) (v : Token) : Type 0 where
  pub at : ℕ
  pub says : v ≡ literal false (k + at)
  pub here : at < length ns
  pub name : f ≡ get_or ns at []
  pub some : 0 < length f

pub place_is : (k : ℕ) (f : List ℕ) (ns : List (List ℕ)) (v : Token) → place_from k f ns ≡ v → (v ≡ invalid → ⊥) → Place k f ns v
place_is k f [] v e h = absurd (h (sym e))
place_is k f (n ∷ ns) v e h = go (equal f n && not (is_none f)) refl e (λ q. place_is (suc k) f ns v q h)
  where
    go : (t : Bool) → equal f n && not (is_none f) ≡ t → cond t (literal false k) (place_from (suc k) f ns) ≡ v → (place_from (suc k) f ns ≡ v → Place (suc k) f ns v) → Place k f (n ∷ ns) v
    go true t q next =
        let b = and-true (equal f n) (not (is_none f)) t in
        let z : k ≡ k + 0 = omega arith in
        record { at = 0; says = sym q ∙ ap (literal false) z; here = omega arith; name = equal_is f n b.0; some = some_is f b.1 }
    go false t q next =
        let p = next q in
        let z : suc k + p.at ≡ k + suc p.at = omega arith in
        record { at = suc p.at; says = p.says ∙ ap (literal false) z; here = omega (arith, p.here); name = p.name; some = p.some }

-- the names are distinct and hold no tab and no line feed: a computed test
abbrev is : ℕ → Token → Bool
is n (literal true m) = false
is n (literal false m) = eqb m n
is n (label m) = false
is n invalid = false

abbrev test : Kind → ℕ → Bool
test k n =
    let f = get_or (map bytes (names_of k)) n [] in
    (is_none f || is n (as_variant k f)) && solid f

tested : (k : Kind) → all (test k) (length (names_of k)) ≡ true
tested kind.Number = refl
tested kind.Target = refl
tested kind.Place = refl
tested kind.Size = refl
tested kind.TargetDirection = refl
tested kind.RegisterOperand = refl
tested kind.AddressWidth = refl
tested kind.Condition = refl
tested kind.BranchSize = refl
tested kind.ShiftDirection = refl
tested kind.Sign = refl
tested kind.BitFieldOperation = refl
tested kind.FieldValue = refl
tested kind.TrapOperand = refl
tested kind.RegisterChoice = refl
tested kind.Operand = refl
tested kind.Instruction = refl

is-place : (n : ℕ) (v : Token) → is n v ≡ true → v ≡ literal false n
is-place n (literal true m) e = absurd (false≢true e)
is-place n (literal false m) e = ap (literal false) (eqb-true m n e)
is-place n (label m) e = absurd (false≢true e)
is-place n invalid e = absurd (false≢true e)

pub some_or : (f : List ℕ) (b : Bool) → 0 < length f → is_none f || b ≡ true → b ≡ true
some_or [] b h e = absurd (omega arith)
some_or (x ∷ xs) b h e = e

module _ (k : Kind) (n : ℕ) (h : n < length (names_of k)) where
  computed : (is_none (get_or (map bytes (names_of k)) n []) || is n (as_variant k (get_or (map bytes (names_of k)) n [])) ≡ true) × (solid (get_or (map bytes (names_of k)) n []) ≡ true)
  computed =
      let f = get_or (map bytes (names_of k)) n [] in
      and-true (is_none f || is n (as_variant k f)) (solid f) (below (test k) (length (names_of k)) (tested k) n h)

  pub name_back : 0 < length (get_or (map bytes (names_of k)) n []) → as_variant k (get_or (map bytes (names_of k)) n []) ≡ literal false n
  name_back g =
      let f = get_or (map bytes (names_of k)) n [] in
      is-place n (as_variant k f) (some_or f (is n (as_variant k f)) g computed.0)

  pub name_solid : solid (get_or (map bytes (names_of k)) n []) ≡ true
  name_solid = computed.1
