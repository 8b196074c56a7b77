use Prim.Native.Nat.{◌+◌, ◌-◌, ◌≤◌}
use lib.ListN.{length}
use Rattle.sheet_line.specs.Reading.{Reading}
use Rattle.sheet_line.proofs.read_fields.Given as goal

abbrev pub invariant-loop-from : goal.invariant-loop-from
invariant-loop-from l = (l.from ≤ length l.line + 1) × Reading l.lines l.line l.r l.negative l.magnitude l.label l.kinds l.from

abbrev pub decreases-loop-from : goal.decreases-loop-from
decreases-loop-from l = length l.line + 1 - l.from
