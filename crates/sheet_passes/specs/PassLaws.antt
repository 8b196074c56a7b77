-- Laws of the passes: how many words a line counts, and when the scratch holds the addresses of the lines.
use Rattle.std.specs.Prelude.{◌≡◌, ℕ, suc, ◌+◌, ◌*◌, ◌%◌, ◌^◌, ◌≤◌, true, List, [], ◌∷◌, map, length, refl}
use Rattle.std.proofs.Common.{arith, length-take, eq-eqb}
use Rattle.sheet_spec.specs.Line.{Parsed}
use Rattle.sheet_spec.specs.Made.{Made, makes, turned_back, made, resolves_in, of_lines}
use Rattle.sheet_spec.specs.Sheet.{sized_as, sized_of, half_of, total, addresses_from, encoded_line, encoded_words}
use Rattle.sheet_spec.specs.Translate.{in_order, in_turn, size_outcome}
use Rattle.sheet_facts.specs.Listing.{both_in_order, in_order_zero}
use Rattle.sheet_facts.specs.Made.{made_back}
use Rattle.m68k_facts.specs.Sizes.{size_least, size-most}
use Rattle.m68k_facts.specs.Laws.{places_law, encode_most}
use Rattle.sheet_labels.specs.Labels.{listed}
use Rattle.sheet_passes.specs.Passes.{filled_of, line_encoded}

-- ---- an encoded line has eleven places, and so many words count
pub as_places : (m : Made) (a : ℕ) → length (encoded_line a m).words ≡ 11
as_places (makes i) a = places_law i a
as_places (turned_back k) a = refl

pub as_most : (m : Made) (a : ℕ) → (encoded_line a m).count ≤ 11
as_most (makes i) a = omega (arith, encode_most i a)
as_most (turned_back k) a = omega arith

pub as_words : (m : Made) (a : ℕ) → length (encoded_words (encoded_line a m)) ≡ (encoded_line a m).count
as_words m a = omega (arith, as_places m a, as_most m a, length-take (encoded_line a m).count (encoded_line a m).words)

-- where its labels have been looked at, it is the line encoded
pub line_is : (addresses : List ℕ) (p : Parsed) (a : ℕ) → resolves_in (listed addresses) p ≡ true → line_encoded addresses p a ≡ encoded_line a (made (listed addresses) p)
unfolding line_encoded made
line_is addresses p a h = rw h

-- ---- a line counts at most eleven words, and at least one where it is not refused
sized_most : (m : Made) → (sized_as m).size ≤ 22
sized_most (makes i) = size-most i
sized_most (turned_back k) = omega arith

pub sized_least : (n : ℕ) (p : Parsed) → (sized_of n p).number ≡ 0 → 2 ≤ (sized_of n p).size
unfolding sized_of
sized_least n p h = go (made (of_lines n (λ k. 0)) p) refl h
  where
    go : (m : Made) → made (of_lines n (λ k. 0)) p ≡ m → (sized_as m).number ≡ 0 → 2 ≤ (sized_as m).size
    go (makes i) e z = size_least i z
    go (turned_back k) e z = absurd (omega (arith, made_back (of_lines n (λ k. 0)) p k e))

module _ (n : ℕ) where
  pub counted_most : (p : Parsed) → half_of (sized_of n p) ≤ 11
  unfolding sized_of
  counted_most p = omega (arith, sized_most (made (of_lines n (λ k. 0)) p))

  pub total-most : (ps : List Parsed) → total (map half_of (map (sized_of n) ps)) ≤ 11 * length ps
  total-most [] = omega arith
  total-most (p ∷ ps) = omega (arith, counted_most p, total-most ps)

  -- the scratch of lines that are not refused, and which end in time, holds the addresses
  pub filled-addresses : (k a : ℕ) (ps : List Parsed) → in_turn size_outcome k (map (sized_of n) ps) ≡ in_order → a + 2 * total (map half_of (map (sized_of n) ps)) ≤ 2 ^ 32
      → filled_of a (map (sized_of n) ps) ≡ addresses_from a (map half_of (map (sized_of n) ps))
  filled-addresses k a [] e h = refl
  filled-addresses k a (p ∷ ps) e h =
      let m = sized_of n p in
      let f = both_in_order (size_outcome k m) (in_turn size_outcome (suc k) (map (sized_of n) ps)) e in
      let z = in_order_zero k m.number m.detail m.value f.0 in
      let low : a % 2 ^ 32 ≡ a = omega (arith, sized_least n p z) in
      let rest = filled-addresses (suc k) (a + 2 * half_of m) ps f.1 (omega arith) in
      rw (eq-eqb m.number 0 z, low, rest)
