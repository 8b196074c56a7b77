-- What an outcome gives, for the functions that take the stages of `unsheet` one by one.
use Rattle.std.specs.Prelude.{ℕ, ◌≡◌, List, length}
use Rattle.sheet_spec.specs.Translate.{Outcome, image_as}
use Rattle.unsheet_spec.specs.declared.Unsheeted.{Unsheeted}
use Rattle.unsheet_spec.specs.Unsheet.{unsheeted_as}

-- an outcome for a text of so many lines, with the lent bytes t: the answer r and the bytes t'
pub record Gives (o : Outcome) (text : List ℕ) (lines : ℕ) (t t' : List ℕ) (r : Unsheeted) : Type 0 where
  pub answer : r ≡ unsheeted_as o (length text) lines
  pub bytes : t' ≡ image_as o text t
