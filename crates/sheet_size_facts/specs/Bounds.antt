-- Measured lines: each counts at least one word, and the addresses are of 32 bits.
use Rattle.std.specs.Prelude.{ℕ, suc, pred, ◌+◌, ◌*◌, ◌^◌, ◌≤◌, ◌<◌, ◌≡◌, Bool, true, ◌&&◌, leb, take}
use Rattle.std.proofs.Math.Path.{ap}
use Rattle.std.proofs.Common.{◌∙◌, arith, leb-true}
use Rattle.isa.specs.declared.Instruction.{Instruction}
use Rattle.encode_spec.specs.Encode.{size_of}
use Rattle.base_facts.specs.Tests.{and-true}
use Rattle.sheet_spec.specs.Sheet.{total, sized_of, half_of, Sheet, line_count, counts, line_at, count_of_line, address_of_line, resolved}
use Rattle.sheet_spec.specs.Made.{Line, makes, made}
use Rattle.sheet_spec.specs.Follow.{next_of, line_next, next_with}
use Rattle.sheet_spec.specs.Promises.{InGrammar, MeasuredSheet}
use Rattle.sheet_size_facts.specs.Says.{line_makes}
use Rattle.sheet_size_facts.specs.Image.{addresses_are, total_part, total_some}
use Rattle.sheet_size_facts.specs.Outcomes.{counts_length, count_half}
use Rattle.sheet_size_facts.specs.Turned.{Bounded}
use Rattle.sheet_size_facts.specs.Made.{LineMade, line_made}
use Rattle.m68k_facts.specs.Sizes.{size_least}

-- the labels of n lines
abbrev pub up_to : ℕ → ℕ → Bool
up_to n k = leb 1 k && leb k n

pub up_to_lem : (n k : ℕ) → up_to n k ≡ true → (1 ≤ k) × (k ≤ n)
up_to_lem n k e = let b = and-true (leb 1 k) (leb k n) e in (leb-true 1 k b.0, leb-true k n b.1)

-- the words before line n
abbrev pub before : Sheet → ℕ → ℕ
before s n = total (take (pred n) (counts s))

module _ (s : Sheet) where
  pub address_is : (n : ℕ) → 1 ≤ n → n ≤ line_count s → address_of_line s n ≡ s.start + 2 * before s n
  address_is n h g = addresses_are s.start (counts s) (pred n) (omega (arith, counts_length s))

  module _ (grammar : (n : ℕ) → InGrammar (line_at s n)) (ok : MeasuredSheet s) where
    pub line_at_lem : (n : ℕ) → 1 ≤ n → n ≤ line_count s → LineMade (up_to (line_count s)) (line_at s n)
    unfolding sized_of
    line_at_lem n h g = line_made (up_to (line_count s)) (line_at s n) (grammar n) (ok.sized n h g)

    pub count_size : (n : ℕ) (h : 1 ≤ n) (g : n ≤ line_count s) → count_of_line s n ≡ half_of (size_of (line_at_lem n h g).first)
    unfolding sized_of
    count_size n h g = count_half s n h g ∙ ap half_of (line_at_lem n h g).measured

    pub count_some : (n : ℕ) → 1 ≤ n → n ≤ line_count s → 1 ≤ count_of_line s n
    count_some n h g = omega (arith, count_size n h g, size_least (line_at_lem n h g).first (line_at_lem n h g).number)

    -- labels are made numbers of 32 bits
    pub names_bounded : Bounded (up_to (line_count s)) (λ k. k)
    names_bounded k e =
        let u = up_to_lem (line_count s) k e in
        omega (arith, u.0, u.1, ok.ends, counts_length s, total_some (counts s) (λ j q. count_some (suc j) (omega arith) (omega (arith, counts_length s))))

    pub address_low : (n : ℕ) → 1 ≤ n → n ≤ line_count s → address_of_line s n < 2 ^ 32
    address_low n h g = omega (arith, ok.ends, count_some n h g, address_is n h g, total_part (counts s) (pred n) (omega (arith, counts_length s)))

    pub addresses_bounded : Bounded (up_to (line_count s)) (address_of_line s)
    addresses_bounded k e = let u = up_to_lem (line_count s) k e in address_low k u.0 u.1

    module _ (n : ℕ) (h : 1 ≤ n) (g : n ≤ line_count s) where
      -- the line's instruction, its labels made addresses
      abbrev pub instruction_at : Instruction
      instruction_at = (line_at_lem n h g).instruction (address_of_line s)

      pub line_there : Line (resolved s) (line_at_lem n h g).tokens instruction_at
      line_there = (line_at_lem n h g).line (address_of_line s) addresses_bounded

      pub makes_there : made (resolved s) (line_at s n) ≡ makes instruction_at
      makes_there = ap (made (resolved s)) (line_at_lem n h g).parsed ∙ line_makes (resolved s) (line_at_lem n h g).tokens instruction_at line_there

      pub next_there : next_with (resolved s) s n ≡ next_of instruction_at
      next_there = ap line_next makes_there ∙ (line_at_lem n h g).follows.plain (address_of_line s)
