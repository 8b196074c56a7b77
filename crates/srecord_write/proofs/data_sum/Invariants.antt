use mathlib.Core.Path.{◌≡◌}
use Prim.Native.Nat.{◌*◌, ◌-◌, ◌≤◌}
use lib.ListN.{length, take}
use Rattle.encode_spec.specs.Encode.{bytes_in}
use Rattle.sheet_spec.specs.Sheet.{total}
use Rattle.srecord_write.proofs.data_sum.Given as goal

abbrev pub invariant-loop-i : goal.invariant-loop-i
invariant-loop-i l = (l.i ≤ length l.words) × (l.sum ≤ 510 * l.i) × (l.sum ≡ total (bytes_in (take l.i l.words)))

abbrev pub decreases-loop-i : goal.decreases-loop-i
decreases-loop-i l = length l.words - l.i
