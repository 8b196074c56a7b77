use Rattle.std.proofs.Common.{◌≡◌, ◌-◌, ◌≤◌, map, length, take}
use Rattle.sheet_spec.specs.Translate.{over}
use Rattle.sheet_blocks.specs.Blocks.{address_held}
use Rattle.sheet_blocks.proofs.put_addresses.Given as goal

abbrev pub invariant-loop-i : goal.invariant-loop-i
invariant-loop-i l = (l.i ≤ l.blocks) × (length l.places ≡ length l.initial.places) × (l.places ≡ over (map (address_held l.start) (take l.i l.initial.places)) l.initial.places)

abbrev pub decreases-loop-i : goal.decreases-loop-i
decreases-loop-i l = l.blocks - l.i
