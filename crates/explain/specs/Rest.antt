-- What is kept of a text that was cut and printed.
use Rattle.std.specs.Prelude.{ℕ, ◌≡◌, ◌<◌, Bool, List, take, drop}
use Rattle.explain_lines.specs.Cut.{cut_of}
use Rattle.explain.specs.declared.State.{State}

-- the rest stands in the front of the buffer, which has room for a byte more
pub record Rest (begun : Bool) (t text' : List ℕ) (s : State) : Type 0 where
  pub begun_is : s.begun ≡ (cut_of begun t).begun
  pub kept : take s.have text' ≡ drop (cut_of begun t).kept t
  pub room : s.have < 65536
