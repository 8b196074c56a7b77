-- The numbers that C lends: signs, magnitudes and a count. Assumes nothing.
use Rattle.std.specs.Prelude.{ℕ, zero, suc, ◌+◌, ◌-◌, ◌≤◌, ◌<◌, ◌≡◌, refl, Bool, true, false, List, [], ◌∷◌, ◌++◌, length, take, drop, get_or, set, ℤ, cond, leb, ◌&&◌}
use Rattle.std.proofs.Common.{sym, ap, ◌∙◌, arith, take-suc, add-one}
use Rattle.std.proofs.Common.{le-leb}
use Rattle.std.proofs.Math.Decide.{dec_le}
use Rattle.std.proofs.lemmas.Bool.{lt-leb}
use Rattle.std.proofs.lemmas.List.{drop-take}
use Rattle.std.proofs.lemmas.Grind.{take-set_at}
use Rattle.base_facts.specs.Tests.{cond_true, cond_false, leb-true, leb_not}
use Rattle.numeric_spec.specs.declared.Built.{Built}
use Rattle.numeric_spec.specs.declared.Built.TheVariants.{NotInForm}
use Rattle.numeric_spec.specs.Take.{take_unsigned}
use Rattle.numeric_spec.specs.Build.{take_instruction, built_of}
use Rattle.base_spec.specs.declared.Literal.{Literal}
use Rattle.numeric_form.specs.Numbers as form
use Rattle.numeric_form.specs.Places.{signed_from, numbers_take, numbers_drop}

pub record Numbers : Type 0 where
  pub count : ℕ
  pub negative : List Bool
  pub magnitude : List ℕ

abbrev pub numbers_in : ℕ → List Bool → List ℕ → Numbers
numbers_in count negative magnitude = record { count = count; negative = negative; magnitude = magnitude }

unfoldable pub numbers_held : Numbers → List ℤ
numbers_held ns = take ns.count (signed_from ns.negative ns.magnitude)

-- what is built of the numbers from a place on
abbrev pub built_from : Numbers → ℕ → Built
built_from ns k = cond (leb ns.count 24) (built_of (drop k (numbers_held ns))) NotInForm

abbrev pub literals_from : List Bool → List ℕ → List Literal
literals_from [] ms = []
literals_from (s ∷ ss) [] = []
literals_from (s ∷ ss) (m ∷ ms) = record { negative = s; magnitude = m } ∷ literals_from ss ms

pub literals_length : (ss : List Bool) (ms : List ℕ) → length ss ≡ length ms → length (literals_from ss ms) ≡ length ms
literals_length [] [] e = refl
literals_length [] (m ∷ ms) e = absurd (omega arith)
literals_length (s ∷ ss) [] e = refl
literals_length (s ∷ ss) (m ∷ ms) e = ap suc (literals_length ss ms (omega arith))

abbrev nothing : Literal
nothing = record { negative = false; magnitude = 0 }

literal_at : (ss : List Bool) (ms : List ℕ) (k : ℕ) → k < length ss → k < length ms → get_or (literals_from ss ms) k nothing ≡ record { negative = get_or ss k false; magnitude = get_or ms k 0 }
literal_at [] ms k h g = absurd (omega arith)
literal_at (s ∷ ss) [] k h g = absurd (omega arith)
literal_at (s ∷ ss) (m ∷ ms) zero h g = refl
literal_at (s ∷ ss) (m ∷ ms) (suc k) h g = literal_at ss ms k (omega arith) (omega arith)

-- one more
pub literals_more : (ls : List Literal) (ss : List Bool) (ms : List ℕ) (k : ℕ) → k < length ls → length ss ≡ length ms → k < length ms → take k ls ≡ take k (literals_from ss ms)
    → take (k + 1) (set ls k (record { negative = get_or ss k false; magnitude = get_or ms k 0 })) ≡ take (k + 1) (literals_from ss ms)
literals_more ls ss ms k l w g e =
    let h : k < length ss = omega arith in
    let inside : k < length (literals_from ss ms) = omega (arith, literals_length ss ms w) in
    take-set_at ls k (k + 1) (record { negative = get_or ss k false; magnitude = get_or ms k 0 }) refl l
    ∙ ap (λ t. t ++ (record { negative = get_or ss k false; magnitude = get_or ms k 0 } ∷ [])) e
    ∙ ap (λ v. take k (literals_from ss ms) ++ (v ∷ [])) (sym (literal_at ss ms k h g))
    ∙ rw add-one (sym (take-suc (literals_from ss ms) k nothing inside))

take_whole : {A : Type 0} (n : ℕ) (l : List A) → length l ≡ n → take n l ≡ l
take_whole zero [] e = refl
take_whole zero (x ∷ l) e = absurd (omega arith)
take_whole (suc n) [] e = absurd (omega arith)
take_whole (suc n) (x ∷ l) e = ap (λ t. x ∷ t) (take_whole n l (omega arith))

-- all
pub literals_whole : (ls : List Literal) (ss : List Bool) (ms : List ℕ) (k : ℕ) → k ≡ 24 → length ls ≡ 24 → length ss ≡ 24 → length ms ≡ 24 → take k ls ≡ take k (literals_from ss ms) → ls ≡ literals_from ss ms
literals_whole ls ss ms k e l a b p =
    sym (take_whole k ls (l ∙ sym e)) ∙ p ∙ take_whole k (literals_from ss ms) (omega (arith, literals_length ss ms (a ∙ sym b)))

take_few : {A : Type 0} (n : ℕ) (l : List A) → length (take n l) ≤ n
take_few zero l = omega arith
take_few (suc n) [] = omega arith
take_few (suc n) (x ∷ l) = omega (arith, take_few n l)

drop_past : {A : Type 0} (n : ℕ) (l : List A) → length l ≤ n → [] ≡ drop n l
drop_past zero [] h = refl
drop_past zero (x ∷ l) h = absurd (omega arith)
drop_past (suc n) [] h = refl
drop_past (suc n) (x ∷ l) h = drop_past n l (omega arith)

-- the numbers of literals
numbers_literals : (ss : List Bool) (ms : List ℕ) → form.numbers_in (literals_from ss ms) ≡ signed_from ss ms
numbers_literals [] ms = refl
numbers_literals (s ∷ ss) [] = refl
numbers_literals (s ∷ ss) (m ∷ ms) = ap (λ t. form.number_of (record { negative = s; magnitude = m }) ∷ t) (numbers_literals ss ms)

module _ (count : ℕ) (ss : List Bool) (ms : List ℕ) (k : ℕ) where
  abbrev ns : Numbers
  ns = numbers_in count ss ms

  pub build_between : k ≤ count → count ≤ 24 → built_of (form.numbers_in (take (count - k) (drop k (literals_from ss ms)))) ≡ built_from ns k
  unfolding numbers_held
  build_between h g =
      let whole : k + (count - k) ≡ count = omega arith in
      ap built_of (
      ap form.numbers_in (sym (drop-take k (count - k) (literals_from ss ms)))
      ∙ numbers_drop k (take (k + (count - k)) (literals_from ss ms))
      ∙ ap (drop k) (numbers_take (k + (count - k)) (literals_from ss ms))
      ∙ rw (whole, numbers_literals ss ms) refl
      )
      ∙ sym (cond_true (leb count 24) _ _ (leb-true count 24 g))

  pub build_past : count < k → NotInForm ≡ built_from ns k
  unfolding numbers_held built_of take_instruction take_unsigned
  build_past h =
      let e : length (take count (signed_from ss ms)) ≤ k = omega (arith, take_few count (signed_from ss ms)) in
      go (leb count 24) (drop_past k (take count (signed_from ss ms)) e)
    where
      go : (t : Bool) → [] ≡ drop k (take count (signed_from ss ms)) → NotInForm ≡ cond t (built_of (drop k (take count (signed_from ss ms)))) NotInForm
      go true p = ap built_of p
      go false p = refl

  pub build_many : 24 < count → NotInForm ≡ built_from ns k
  build_many h = sym (cond_false (leb count 24) _ _ (leb_not count 24 h))

-- what the code builds of the literals from a place on is what the numbers there say
abbrev pub build_of : Numbers → ℕ → Built
build_of ns k =
    cond (leb k ns.count && leb ns.count 24)
    (built_of (form.numbers_in (take (ns.count - k) (drop k (literals_from ns.negative ns.magnitude)))))
    NotInForm

module _ (ns : Numbers) (k : ℕ) where
  abbrev within : Bool
  within = leb k ns.count && leb ns.count 24

  pub build_there : k ≤ ns.count → ns.count ≤ 24 → built_of (form.numbers_in (take (ns.count - k) (drop k (literals_from ns.negative ns.magnitude)))) ≡ build_of ns k
  build_there h g = sym (cond_true within _ _ (rw (le-leb k ns.count h, le-leb ns.count 24 g) refl))

  pub build_over : 24 < ns.count → NotInForm ≡ build_of ns k
  build_over g = sym (cond_false within _ _ (go (leb k ns.count) (leb ns.count 24) (lt-leb ns.count 24 g)))
    where
      go : (s t : Bool) → t ≡ false → s && t ≡ false
      go true t e = e
      go false t e = refl

  pub build_beyond : ns.count < k → NotInForm ≡ build_of ns k
  build_beyond h = sym (cond_false within _ _ (rw (lt-leb k ns.count h) refl))

pub build_is : (ns : Numbers) (k : ℕ) → build_of ns k ≡ built_from ns k
build_is ns k = go (dec_le k ns.count) (dec_le ns.count 24)
  where
    go : Dec (k ≤ ns.count) → Dec (ns.count ≤ 24) → build_of ns k ≡ built_from ns k
    go (yes h) (yes g) = sym (build_there ns k h g) ∙ build_between ns.count ns.negative ns.magnitude k h g
    go (yes h) (no g) = sym (build_over ns k (omega arith)) ∙ build_many ns.count ns.negative ns.magnitude k (omega arith)
    go (no h) d = sym (build_beyond ns k (omega arith)) ∙ build_past ns.count ns.negative ns.magnitude k (omega arith)
