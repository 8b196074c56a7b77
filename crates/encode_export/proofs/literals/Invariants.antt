use Rattle.std.specs.Prelude.{◌≡◌, ◌≤◌, ◌-◌, take, length}
use Rattle.encode_export.specs.Places.{literals_from}
use Rattle.encode_export.proofs.literals.Given as goal

abbrev pub invariant-loop-i : goal.invariant-loop-i
invariant-loop-i l = (l.i ≤ 24) × (length l.literals ≡ 24) × (take l.i l.literals ≡ take l.i (literals_from l.negative l.magnitude))

abbrev pub decreases-loop-i : goal.decreases-loop-i
decreases-loop-i l = 24 - l.i
