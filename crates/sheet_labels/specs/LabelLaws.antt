-- What the values of a line's fields say is what the line says. Assumes nothing.
use Rattle.std.specs.Prelude.{ℕ, zero, suc, ◌≤◌, ◌<◌, ◌≡◌, refl, Bool, true, false, cond, ◌&&◌, ◌||◌, List, [], ◌∷◌, ◌++◌, map, leb, length, take, set, get_or, pos}
use Rattle.std.proofs.Common.{sym, ap, ◌∙◌, arith, le-leb, leb-false}
use Rattle.std.proofs.Math.Option
use Rattle.std.proofs.Math.Option.{Option, none, some}
use Rattle.std.proofs.lemmas.List.{length-map}
use Rattle.std.proofs.Math.ListN.{get_or-eq_default}
use Rattle.std.proofs.lemmas.Bool.{lt-leb}
use Rattle.base_facts.specs.Lists.{pad, map_more}
use Rattle.base_facts.specs.Tests.{and_yes, cond_true, cond_false, never}
use Rattle.base_spec.specs.Signed.{minus}
use Rattle.numeric_spec.specs.Build.{built_of}
use Rattle.numeric_places.specs.declared.Numbers.{Numbers}
use Rattle.numeric_places.specs.Places.{signed_from, numbers_held, built_from}
use Rattle.sheet_spec.specs.Line.{Token, literal, label, invalid, says}
use Rattle.sheet_spec.specs.Made.{number_as, is_some, resolves, resolves_all, built_as, of_lines}
use Rattle.sheet_tokens.specs.Values.{capped, value_of}
use Rattle.sheet_labels.specs.Labels.{address_in, number_in, own_number, below_zero, says_label, names_line, listed, aimed, aimed_to, labelled_all}

-- by whether a number is above 4,096
capped_cases : (P : ℕ → Type 0) (k : ℕ) → P k → (4096 < k → P 4097) → P (capped k)
capped_cases P k low high = go (leb k 4096) refl
  where
    go : (t : Bool) → leb k 4096 ≡ t → P (cond t k 4097)
    go true e = low
    go false e = high (leb-false k 4096 e)

-- ---- a number above 4,096 names no line
module _ (n : ℕ) (few : n ≤ 4096) (g : ℕ → ℕ) where
  some_is : (b : Bool) (k : ℕ) → is_some (cond b (some k) none) ≡ b
  some_is true k = refl
  some_is false k = refl

  names-capped : (k : ℕ) → leb 1 (capped k) && leb (capped k) n ≡ leb 1 k && leb k n
  names-capped k =
      capped_cases (λ x. leb 1 x && leb x n ≡ leb 1 k && leb k n) k refl
      (λ h. rw (lt-leb 4097 n (omega arith), le-leb 1 k (omega arith), lt-leb k n (omega arith)))

  pub names-token : (v : Token) → names_line n (value_of v) ≡ resolves (of_lines n g) v
  names-token (literal s k) = refl
  names-token (label k) = names-capped k ∙ sym (some_is (leb 1 k && leb k n) (g k))
  names-token invalid = refl

-- ---- one value more
pub and_assoc : (a b c : Bool) → a && (b && c) ≡ (a && b) && c
and_assoc true b c = refl
and_assoc false b c = refl

pub resolves_more : (f : ℕ → Option ℕ) (vs : List Token) (v : Token) → resolves_all f (vs ++ (v ∷ [])) ≡ resolves_all f vs && resolves f v
resolves_more f [] v = and_yes (resolves f v)
resolves_more f (x ∷ xs) v = ap (λ (t : Bool). resolves f x && t) (resolves_more f xs v) ∙ and_assoc (resolves f x) (resolves_all f xs) (resolves f v)

module _ {A : Type 0} where
  pad_more : (n : ℕ) (z : A) (l : List A) (k : ℕ) (a : A) → length l ≡ k → k < n → set (pad n z l) k a ≡ pad n z (l ++ (a ∷ []))
  pad_more zero z l k a e h = absurd (omega arith)
  pad_more (suc n) z [] zero a e h = refl
  pad_more (suc n) z [] (suc k) a e h = absurd (omega arith)
  pad_more (suc n) z (x ∷ xs) zero a e h = absurd (omega arith)
  pad_more (suc n) z (x ∷ xs) (suc k) a e h = ap (λ (t : List A). x ∷ t) (pad_more n z xs k a (omega arith) (omega arith))

  pub length_pad : (n : ℕ) (z : A) (l : List A) → length (pad n z l) ≡ n
  length_pad zero z l = refl
  length_pad (suc n) z [] = ap suc (length_pad n z [])
  length_pad (suc n) z (x ∷ xs) = ap suc (length_pad n z xs)

-- a list of what tokens say, in 24 places
module _ {A : Type 0} (z : A) (f : Token → A) where
  abbrev pub in_places : List Token → List A
  in_places vs = pad 24 z (map f vs)

  pub in_places_more : (vs : List Token) (v : Token) (k : ℕ) → k ≡ length vs → k < 24 → set (in_places vs) k (f v) ≡ in_places (vs ++ (v ∷ []))
  in_places_more vs v k e h = pad_more 24 z (map f vs) k (f v) (length-map vs f ∙ sym e) h ∙ ap (pad 24 z) (sym (map_more f vs v))

-- ---- the numbers of a line's values are what its tokens say
abbrev pub negative_as : Token → Bool
negative_as v = below_zero (value_of v)

abbrev pub magnitude_as : List ℕ → Token → ℕ
magnitude_as addresses v = number_in addresses (value_of v)

abbrev pub own_as : Token → ℕ
own_as v = own_number (value_of v)

abbrev pub label_as : Token → Bool
label_as v = says_label (value_of v)

abbrev pub held_by : List ℕ → List Token → Numbers
held_by addresses vs = record { count = length vs; negative = in_places false negative_as vs; magnitude = in_places 0 (magnitude_as addresses) vs }

module _ (addresses : List ℕ) (few : length addresses ≤ 4096) where
  listed-is : (k : ℕ) → address_in addresses k ≡ Option.get_or (listed addresses k) 0
  listed-is zero = refl
  listed-is (suc k) = rw (le-leb 1 (suc k) (omega arith)) (go (leb (suc k) (length addresses)) refl)
    where
      go : (b : Bool) → leb (suc k) (length addresses) ≡ b → get_or addresses k 0 ≡ Option.get_or (cond b (some (get_or addresses k 0)) none) 0
      go true e = refl
      go false e = get_or-eq_default addresses 0 {n = k} (omega (arith, leb-false (suc k) (length addresses) e))

  beyond : (k : ℕ) → 4096 < k → address_in addresses k ≡ 0
  beyond k h = get_or-eq_default (0 ∷ addresses) 0 {n = k} (omega arith)

  address_capped : (k : ℕ) → address_in addresses (capped k) ≡ address_in addresses k
  address_capped k = capped_cases (λ x. address_in addresses x ≡ address_in addresses k) k refl (λ h. beyond 4097 (omega arith) ∙ sym (beyond k h))

  number-token : (v : Token) → cond (negative_as v) (minus (magnitude_as addresses v)) (pos (magnitude_as addresses v)) ≡ number_as (listed addresses) v
  number-token (literal true n) = refl
  number-token (literal false n) = refl
  number-token (label k) = ap pos (address_capped k ∙ listed-is k)
  number-token invalid = refl

  numbers_pad : (m : ℕ) (vs : List Token) → length vs ≤ m
      → take (length vs) (signed_from (pad m false (map negative_as vs)) (pad m 0 (map (magnitude_as addresses) vs))) ≡ map (number_as (listed addresses)) vs
  numbers_pad zero [] h = refl
  numbers_pad zero (v ∷ vs) h = absurd (omega arith)
  numbers_pad (suc m) [] h = refl
  numbers_pad (suc m) (v ∷ vs) h = λ i. number-token v i ∷ numbers_pad m vs (omega arith) i

  numbers_held_lem : (vs : List Token) → length vs ≤ 24 → numbers_held (held_by addresses vs) ≡ map (number_as (listed addresses)) vs
  unfolding numbers_held
  numbers_held_lem vs h = numbers_pad 24 vs h

  pub built_held : (vs : List Token) → length vs ≤ 24 → built_from (held_by addresses vs) 0 ≡ built_as (listed addresses) (says vs)
  built_held vs h = cond_true (leb (length vs) 24) _ _ (le-leb (length vs) 24 h) ∙ ap built_of (numbers_held_lem vs h)

-- ---- a line with a label
or_assoc : (a b c : Bool) → a || (b || c) ≡ (a || b) || c
or_assoc true b c = refl
or_assoc false b c = refl

or_none : (a : Bool) → a || false ≡ a
or_none true = refl
or_none false = refl

or_neither : (a b : Bool) → a || b ≡ false → (a ≡ false) × (b ≡ false)
or_neither true b h = never (sym h)
or_neither false b h = (refl, h)

pub labelled_more : (vs : List Token) (v : Token) → labelled_all (vs ++ (v ∷ [])) ≡ labelled_all vs || says_label (value_of v)
labelled_more [] v = or_none (says_label (value_of v))
labelled_more (x ∷ xs) v = ap (λ (t : Bool). says_label (value_of x) || t) (labelled_more xs v) ∙ or_assoc (says_label (value_of x)) (labelled_all xs) (says_label (value_of v))

-- ---- labels made what f says
set_same : (ms : List ℕ) (k : ℕ) → set ms k (get_or ms k 0) ≡ ms
set_same [] k = refl
set_same (m ∷ ms) zero = refl
set_same (m ∷ ms) (suc k) = ap (λ (t : List ℕ). m ∷ t) (set_same ms k)

module _ (f : ℕ → ℕ) where
  -- one place more
  pub aimed_more : (bs : List Bool) (ms : List ℕ) (k : ℕ)
      → set (aimed_to k f bs ms) k (cond (get_or bs k false) (f (get_or (aimed_to k f bs ms) k 0)) (get_or (aimed_to k f bs ms) k 0)) ≡ aimed_to (suc k) f bs ms
  aimed_more [] ms zero = set_same ms zero
  aimed_more [] ms (suc k) = set_same ms (suc k)
  aimed_more (b ∷ bs) [] zero = refl
  aimed_more (b ∷ bs) [] (suc k) = refl
  aimed_more (b ∷ bs) (m ∷ ms) zero = refl
  aimed_more (b ∷ bs) (m ∷ ms) (suc k) = ap (λ (t : List ℕ). cond b (f m) m ∷ t) (aimed_more bs ms k)

  -- past what is said there is no label
  aimed-none : (n : ℕ) → aimed f (pad n false []) (pad n 0 []) ≡ pad n 0 []
  aimed-none zero = refl
  aimed-none (suc n) = ap (λ (t : List ℕ). 0 ∷ t) (aimed-none n)

  aimed-pad : (n : ℕ) (vs : List Token) → aimed_to (length vs) f (pad n false (map label_as vs)) (pad n 0 (map own_as vs)) ≡ aimed f (pad n false (map label_as vs)) (pad n 0 (map own_as vs))
  aimed-pad zero [] = refl
  aimed-pad zero (v ∷ vs) = refl
  aimed-pad (suc n) [] = sym (aimed-none (suc n))
  aimed-pad (suc n) (v ∷ vs) = ap (λ (t : List ℕ). cond (label_as v) (f (own_as v)) (own_as v) ∷ t) (aimed-pad n vs)

  pub aimed-all : (vs : List Token) → aimed_to (length vs) f (in_places false label_as vs) (in_places 0 own_as vs) ≡ aimed f (in_places false label_as vs) (in_places 0 own_as vs)
  aimed-all = aimed-pad 24

  -- a line without a label
  unlabelled-pad : (n : ℕ) (vs : List Token) → labelled_all vs ≡ false → aimed f (pad n false (map label_as vs)) (pad n 0 (map own_as vs)) ≡ pad n 0 (map own_as vs)
  unlabelled-pad zero vs h = refl
  unlabelled-pad (suc n) [] h = aimed-none (suc n)
  unlabelled-pad (suc n) (v ∷ vs) h =
      let b = or_neither (label_as v) (labelled_all vs) h in
      λ i. cond_false (label_as v) (f (own_as v)) (own_as v) b.0 i ∷ unlabelled-pad n vs b.1 i

  pub aimed-unlabelled : (vs : List Token) → labelled_all vs ≡ false → aimed f (in_places false label_as vs) (in_places 0 own_as vs) ≡ in_places 0 own_as vs
  aimed-unlabelled = unlabelled-pad 24

-- made addresses of a list
module _ (addresses : List ℕ) where
  aimed-token : (v : Token) → cond (label_as v) (address_in addresses (own_as v)) (own_as v) ≡ magnitude_as addresses v
  aimed-token (literal s n) = refl
  aimed-token (label k) = refl
  aimed-token invalid = refl

  listed-pad : (n : ℕ) (vs : List Token) → aimed (address_in addresses) (pad n false (map label_as vs)) (pad n 0 (map own_as vs)) ≡ pad n 0 (map (magnitude_as addresses) vs)
  listed-pad zero vs = refl
  listed-pad (suc n) [] = aimed-none (address_in addresses) (suc n)
  listed-pad (suc n) (v ∷ vs) = λ i. aimed-token v i ∷ listed-pad n vs i

  pub aimed-listed : (vs : List Token) → aimed (address_in addresses) (in_places false label_as vs) (in_places 0 own_as vs) ≡ in_places 0 (magnitude_as addresses) vs
  aimed-listed = listed-pad 24
