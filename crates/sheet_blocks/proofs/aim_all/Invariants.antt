use Rattle.std.proofs.Common.{◌≡◌, ◌-◌, ◌≤◌}
use Rattle.sheet_spec.specs.Sheet.{sheet_in, addresses}
use Rattle.sheet_labels.specs.Labels.{address_in, aimed_to}
use Rattle.sheet_blocks.proofs.aim_all.Given as goal

abbrev pub invariant-loop-i : goal.invariant-loop-i
invariant-loop-i l = (l.i ≤ l.count) × (l.magnitude ≡ aimed_to l.i (address_in (addresses (sheet_in l.text))) l.label l.initial.magnitude)

abbrev pub decreases-loop-i : goal.decreases-loop-i
decreases-loop-i l = l.count - l.i
