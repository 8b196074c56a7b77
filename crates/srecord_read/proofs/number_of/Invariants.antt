use mathlib.Core.Path.{◌≡◌}
use Prim.Native.Nat.{◌-◌, ◌%◌, ◌^◌, ◌≤◌, ◌<◌}
use lib.ListN.{length, drop}
use Rattle.srecord_spec.specs.Record.{pair_bytes, number_from}
use Rattle.srecord_read.proofs.number_of.Given as goal

abbrev pub invariant-loop-i : goal.invariant-loop-i
invariant-loop-i l = (l.i ≤ length l.digits) × (l.n < 2 ^ 32) × (number_from 0 (pair_bytes l.digits) % 2 ^ 32 ≡ number_from l.n (pair_bytes (drop l.i l.digits)) % 2 ^ 32)

abbrev pub decreases-loop-i : goal.decreases-loop-i
decreases-loop-i l = length l.digits - l.i
