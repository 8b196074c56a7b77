-- A case that is answered, and one that is not. Assumes nothing.
use Rattle.std.specs.Prelude.{Some, None}
use Rattle.std.proofs.Common.{◌≡◌, ◌≤◌, Bool, true, false, List, ℕ, length}
use Rattle.base_spec.specs.Written.{placed}
use Rattle.list_program.specs.Cases.{Answered}

pub answered : {b : Bool} (t : List ℕ) {out out' : List ℕ} (n : ℕ) → b ≡ true → n ≡ length t → out' ≡ placed out 0 t → n ≤ length out
    → Answered b t out out' (Some n)
answered t n e c w h = record { answer = rw (e, c); buffer = rw e w; few = h }

pub unanswered : {b : Bool} (t : List ℕ) {out : List ℕ} → b ≡ false → Answered b t out out None
unanswered t e = record { answer = rw e; buffer = rw e; few = tt }
