use Rattle.std.specs.Prelude.{◌≡◌, ◌≤◌, ◌-◌, take, length}
use Rattle.numeric_form.specs.Places.{negatives, magnitudes}
use Rattle.numeric_build.proofs.in_places.Given as goal

abbrev pub invariant-loop-i : goal.invariant-loop-i
invariant-loop-i l =
    (l.i ≤ 24) × (length l.negative ≡ 24) × (length l.magnitude ≡ 24)
    × (take l.i l.negative ≡ take l.i (negatives l.places)) × (take l.i l.magnitude ≡ take l.i (magnitudes l.places))

abbrev pub decreases-loop-i : goal.decreases-loop-i
decreases-loop-i l = 24 - l.i
