use mathlib.Core.Path.{◌≡◌}
use Prim.Native.Nat.{◌+◌, ◌≤◌}
use lib.ListN.{drop}
use Rattle.sheet_spec.specs.Sheet.{feeds}
use Rattle.sheet_start.proofs.feeds.Given as goal

abbrev pub invariant-loop-b : goal.invariant-loop-b
invariant-loop-b l = (l.n ≤ l.b-index) × (feeds l.text ≡ l.n + feeds (drop l.b-index l.text))
