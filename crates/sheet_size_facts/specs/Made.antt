-- A line that `size` accepts, whatever its labels are made.
use Prim.Native.Nat.{ℕ, ◌^◌, ◌<◌}
use Rattle.std.specs.Prelude.{◌≡◌, refl, Bool, true, false, cond, ◌&&◌}
use Rattle.std.proofs.Math.Path.{sym, subst}
use Rattle.std.proofs.Common.{ap, ◌∙◌, arith}
use mathlib.Core.List.{List, [], ◌∷◌, map, append-nil}
use Rattle.std.proofs.Math.Option.{none, some, get_or}
use Rattle.isa.specs.declared.Instruction.{Instruction}
use Rattle.encode_spec.specs.Encode.{size_of}
use Rattle.numeric_spec.specs.Form.{form_of, numbers_of}
use Rattle.sheet_spec.specs.Line.{Token, literal, label, invalid, Parsed, says}
use Rattle.sheet_spec.specs.Spell.{SuitAll}
use Rattle.sheet_spec.specs.Made.{number_as, is_some, resolves, resolves_all, Line, Made, makes, turned_back, made}
use Rattle.sheet_spec.specs.Sheet.{sized_as}
use Rattle.sheet_spec.specs.Promises.{InGrammar}
use Rattle.sheet_facts.specs.Made.{made_back}
use Rattle.sheet_size_facts.specs.Says.{entries, line_says_lem, line_makes}
use Rattle.sheet_size_facts.specs.Turned.{every, given, Spelt, Bounded, Turned}
use Rattle.sheet_size_facts.specs.Lawful.{Follows, Goes, quietly, aimed}
use Rattle.sheet_size_facts.specs.Renamed.{instruction_turned}

-- ---- labels of d, made what g says

-- all labels made numbers, those outside d 0
abbrev zeroed : (ℕ → Bool) → (ℕ → ℕ) → ℕ → ℕ
zeroed d g k = get_or (given d g k) 0

numbers_given : (d : ℕ → Bool) (g : ℕ → ℕ) (vs : List Token) → map (number_as (given d g)) vs ≡ map (number_as (every (zeroed d g))) vs
numbers_given d g [] = refl
numbers_given d g (literal true n ∷ vs) = λ i. number_as (given d g) (literal true n) ∷ numbers_given d g vs i
numbers_given d g (literal false n ∷ vs) = λ i. number_as (given d g) (literal false n) ∷ numbers_given d g vs i
numbers_given d g (label n ∷ vs) = λ i. number_as (given d g) (label n) ∷ numbers_given d g vs i
numbers_given d g (invalid ∷ vs) = λ i. number_as (given d g) invalid ∷ numbers_given d g vs i

-- which labels there are does not depend on what they are made
some_either : (b : Bool) (m n : ℕ) → is_some (cond b (some m) none) ≡ is_some (cond b (some n) none)
some_either true m n = refl
some_either false m n = refl

names_either : (d : ℕ → Bool) (f g : ℕ → ℕ) (v : Token) → resolves (given d f) v ≡ resolves (given d g) v
names_either d f g (literal s n) = refl
names_either d f g (label n) = some_either (d n) (f n) (g n)
names_either d f g invalid = refl

pub names-all : (d : ℕ → Bool) (f g : ℕ → ℕ) (vs : List Token) → resolves_all (given d f) vs ≡ resolves_all (given d g) vs
names-all d f g [] = refl
names-all d f g (v ∷ vs) = λ i. names_either d f g v i && names-all d f g vs i

zeroed_at : (d : ℕ → Bool) (g : ℕ → ℕ) (m : ℕ) → d m ≡ true → zeroed d g m ≡ g m
zeroed_at d g m e = ap (λ (b : Bool). get_or (cond b (some (g m)) none) 0) e

zeroed_bounded : (d : ℕ → Bool) (g : ℕ → ℕ) → Bounded d g → Bounded d (zeroed d g)
zeroed_bounded d g b k h = subst (λ (x : ℕ). x < 2 ^ 32) (sym (zeroed_at d g k h)) (b k h)

zeroed-goes : (d : ℕ → Bool) (y : (ℕ → ℕ) → Instruction) → Goes d y → Goes d (λ g. y (zeroed d g))
zeroed-goes d y (quietly q) = quietly (λ g. q (zeroed d g))
zeroed-goes d y (aimed (m, p, e)) = aimed (m, p, λ g. e (zeroed d g) ∙ zeroed_at d g m p)

zeroed-follows : (d : ℕ → Bool) (i : Instruction) (y : (ℕ → ℕ) → Instruction) → Follows d i y → Follows d i (λ g. y (zeroed d g))
zeroed-follows d i y w =
    record {
      size = λ g. w.size (zeroed d g);
      plain = λ g. w.plain (zeroed d g);
      ordinary = λ g. w.ordinary (zeroed d g);
      goes = zeroed-goes d y w.goes;
    }

-- ---- the line
pub record LineMade (d : ℕ → Bool) (p : Parsed) : Type 0 where
  pub tokens : List Token
  pub parsed : p ≡ says tokens
  pub first : Instruction
  pub measured : sized_as (made (given d (λ k. 0)) p) ≡ size_of first
  pub number : (size_of first).number ≡ 0
  pub instruction : (ℕ → ℕ) → Instruction
  pub follows : Follows d first instruction
  pub line : (g : ℕ → ℕ) → Bounded d g → Line (given d g) tokens (instruction g)

empty_spelt : (f : ℕ → ℕ) (vs : List Token) → SuitAll [] vs → Spelt f vs []
empty_spelt f [] h = refl
empty_spelt f (v ∷ vs) h = absurd h

module _ (d : ℕ → Bool) (i : Instruction) (vs : List Token) (l : Line (given d (λ k. 0)) vs i) where
  abbrev Turn : Type 0
  Turn = Turned d Instruction entries (Follows d i) [] vs []

  zero_zero : (b : Bool) → ◌≡◌ {A = ℕ} (get_or (cond b (some 0) none) 0) 0
  zero_zero true = refl
  zero_zero false = refl

  zeros : Spelt (λ k. 0) vs (entries i)
  unfolding numbers_of form_of
  zeros = sym (ap (λ (f : ℕ → ℕ). map (number_as (every f)) vs) (λ j k. zero_zero (d k) j)) ∙ sym (numbers_given d (λ k. 0) vs) ∙ l.numbers

  line_turned : Turn
  unfolding form_of
  line_turned = instruction_turned i vs (record { fits = l.grammar; labels = l.labels; zeros = subst (Spelt (λ k. 0) vs) (sym (append-nil (entries i))) zeros }) l.inside

  line_again : (g : ℕ → ℕ) → Bounded d g → Line (given d g) vs (line_turned.made (zeroed d g))
  unfolding numbers_of form_of
  line_again g b =
      let t = line_turned in
      let h = zeroed_bounded d g b in
      let f = zeroed d g in
      let spelt = subst (Spelt f vs) (append-nil (entries (t.made f))) (t.spells f h [] (empty_spelt f t.rest t.left.fits)) in
      record { grammar = l.grammar; labels = names-all d g (λ k. 0) vs ∙ l.labels; numbers = numbers_given d g vs ∙ spelt; inside = t.stays f h }

pub line_made : (d : ℕ → Bool) (p : Parsed) → InGrammar p → (sized_as (made (given d (λ k. 0)) p)).number ≡ 0 → LineMade d p
line_made d p g h = go (made (given d (λ k. 0)) p) refl h
  where
    go : (m : Made) → made (given d (λ k. 0)) p ≡ m → (sized_as m).number ≡ 0 → LineMade d p
    go (makes i) e n =
        let s = line_says_lem (given d (λ k. 0)) p i g e in
        let t = line_turned d i s.0 s.2 in
        record {
          tokens = s.0;
          parsed = s.1;
          first = i;
          measured = ap sized_as e;
          number = n;
          instruction = λ f. t.made (zeroed d f);
          follows = zeroed-follows d i t.made t.good;
          line = λ f b. line_again d i s.0 s.2 f b;
        }
    go (turned_back k) e n = absurd (omega (arith, made_back (given d (λ k. 0)) p k e))

-- a line of u where every label is made 0, and of i where labels are made numbers of 32 bits, is measured as i
pub line_size : (d : ℕ → Bool) (g : ℕ → ℕ) → Bounded d g → (vs : List Token) (u i : Instruction) → Line (every (λ k. 0)) vs u → Line (given d g) vs i
    → sized_as (made (given d (λ k. 0)) (says vs)) ≡ size_of i
line_size d g b vs u i l m =
    let none : (t : Bool) → ◌≡◌ {A = ℕ} (get_or (cond t (some 0) none) 0) 0 = elim [ true ↦ refl | false ↦ refl ] in
    let z : Line (given d (λ k. 0)) vs u = record {
      grammar = l.grammar;
      labels = names-all d (λ k. 0) g vs ∙ m.labels;
      numbers = numbers_given d (λ k. 0) vs ∙ ap (λ (f : ℕ → ℕ). map (number_as (every f)) vs) (λ j k. none (d k) j) ∙ l.numbers;
      inside = l.inside;
    } in
    let t = line_turned d u vs z in
    let e : makes (t.made (zeroed d g)) ≡ makes i = sym (line_makes (given d g) vs (t.made (zeroed d g)) (line_again d u vs z g b)) ∙ line_makes (given d g) vs i m in
    let q : t.made (zeroed d g) ≡ i = cc in
    ap sized_as (line_makes (given d (λ k. 0)) vs u z) ∙ sym (t.good.size (zeroed d g)) ∙ ap size_of q
