-- The pairs that sign and width give are those of the definition.
use Rattle.std.specs.Prelude.{ℕ, zero, suc, ◌+◌, ◌-◌, ◌<◌, ◌≡◌, refl, List, [], ◌∷◌, map, get_or, pos}
use Rattle.std.proofs.Common.{sym, ap, ◌∙◌, arith}
use Rattle.isa.specs.declared.Range.{Range}
use Rattle.isa.specs.declared.Size.{Size}
use Rattle.isa.specs.declared.Size.TheVariants.{Byte, Word, Long}
use Rattle.isa_spec.specs.Field.{between, ranges, top_of}
use Rattle.isa_values.specs.Pairs.{unsigned_pair, pair_of_number}
use Rattle.isa_values.specs.Size.{bit_count}

-- k and the numbers after it, so many
abbrev pub up_from : ℕ → ℕ → List ℕ
up_from k zero = []
up_from k (suc n) = k ∷ up_from (suc k) n

-- one computed test of the 20 pairs
pub by_number : map pair_of_number (up_from 1 20) ≡ ranges
unfolding ranges
by_number = refl

at_place : (k n i : ℕ) (d : Range) → i < n → get_or (map pair_of_number (up_from k n)) i d ≡ pair_of_number (k + i)
at_place k zero i d h = absurd (omega arith)
at_place k (suc n) zero d h = let e : k ≡ k + 0 = omega arith in ap pair_of_number e
at_place k (suc n) (suc i) d h =
    let e : suc k + i ≡ k + suc i = omega arith in
    at_place (suc k) n i d (omega arith) ∙ ap pair_of_number e

pub number_pair : (n : ℕ) → 0 < n → n < 21 → pair_of_number n ≡ get_or ranges (n - 1) (between (pos 0) (pos 0))
number_pair n h g =
    let e : 1 + (n - 1) ≡ n = omega arith in
    rw (← by_number, at_place 1 20 (n - 1) (between (pos 0) (pos 0)) (omega arith)) (ap pair_of_number (sym e))

-- an Immediate has the bits of its size
pub size_pair : (s : Size) → unsigned_pair (bit_count s) 0 ≡ between (pos 0) (pos (top_of s))
size_pair Byte = refl
size_pair Word = refl
size_pair Long = refl
