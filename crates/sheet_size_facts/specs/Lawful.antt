-- What is used of the instructions that a line makes.
use Rattle.std.specs.Prelude.{ℕ, ◌≡◌, Bool, true, false}
use Rattle.isa.specs.declared.Instruction.{Instruction}
use Rattle.isa_spec.specs.Ordinary.{Ordinary}
use Rattle.encode_spec.specs.Encode.{size_of}
use Rattle.read_spec.specs.Plain as plain
use Rattle.sheet_spec.specs.Follow.{Next, on, to, either, stop, next_of, target}
use Rattle.sheet_size_facts.specs.Sorts.{Aimed}

-- where it goes without a target
abbrev pub quiet : Next → Bool
quiet on = true
quiet (to t) = false
quiet (either t) = false
quiet stop = true

-- so, or to a line that is named
pub data Goes (d : ℕ → Bool) (y : (ℕ → ℕ) → Instruction) : Type 0 where
  quietly : ((f : ℕ → ℕ) → quiet (next_of (y f)) ≡ true) → Goes d y
  aimed : Aimed d (λ f. target (next_of (y f))) → Goes d y

-- instructions for i, whatever labels are made: of its size, their plain forms go alike, and they are ordinary
pub record Follows (d : ℕ → Bool) (i : Instruction) (y : (ℕ → ℕ) → Instruction) : Type 0 where
  pub size : (f : ℕ → ℕ) → size_of (y f) ≡ size_of i
  pub plain : (f : ℕ → ℕ) → next_of (plain.plain (y f)) ≡ next_of (y f)
  pub ordinary : (f : ℕ → ℕ) → Ordinary (y f)
  pub goes : Goes d y
