-- What is written for a refusal, and what it is to write a text into a buffer.
use Rattle.std.specs.Prelude.{◌≡◌, List, ℕ, ◌+◌, length}
use Rattle.base_spec.specs.Written.{placed}

-- t stands in buf from place `at` on, which makes it out; r is the next place
pub record Wrote (buf : List ℕ) (at : ℕ) (t : List ℕ) (out : List ℕ) (r : ℕ) : Type 0 where
  pub next : r ≡ at + length t
  pub image : out ≡ placed buf at t
