-- What the START line says, in places.
use Rattle.std.specs.Prelude.{true, false, ℕ}
use Rattle.std.proofs.Math.Option.{Option, none, some}
use Rattle.sheet_start.specs.declared.StartAt.{StartAt}

abbrev pub not_at : StartAt
not_at = record { ok = false; address = 0 }

abbrev pub start_at : Option ℕ → StartAt
start_at (some n) = record { ok = true; address = n }
start_at none = not_at
