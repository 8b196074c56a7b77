use Prim.Native.Nat.{◌≤◌, ◌-◌}
use mathlib.Core.Path.{◌≡◌}
use Rattle.sheet_labels.specs.Labels.{address_in, aimed_to}
use Rattle.sheet_line.proofs.aim_all.Given as goal

abbrev pub invariant-loop-i : goal.invariant-loop-i
invariant-loop-i l = (l.i ≤ l.count) × (l.magnitude ≡ aimed_to l.i (address_in l.addresses) l.label l.initial.magnitude)

abbrev pub decreases-loop-i : goal.decreases-loop-i
decreases-loop-i l = l.count - l.i
