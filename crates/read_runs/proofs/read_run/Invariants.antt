use mathlib.Core.Path.{◌≡◌}
use Prim.Native.Nat.{◌+◌, ◌-◌, ◌≤◌}
use lib.ListN.{length}
use Rattle.read_runs.specs.Kept.{run_of}
use Rattle.read_runs.specs.RunLaws.{run_on, words_from}
use Rattle.read_runs.proofs.read_run.Given as goal

abbrev pub invariant-loop-from : goal.invariant-loop-from
invariant-loop-from l = (l.from ≤ length l.line + 1) × (run_of l.line ≡ run_on l.r (words_from l.line l.from))

abbrev pub decreases-loop-from : goal.decreases-loop-from
decreases-loop-from l = length l.line + 1 - l.from
