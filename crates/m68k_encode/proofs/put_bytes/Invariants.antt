use Prim.Native.Nat.{◌≤◌, ◌*◌, ◌-◌}
use mathlib.Core.Path.{◌≡◌}
use mathlib.Core.List.{◌++◌}
use lib.ListN.{take, drop, length}
use Rattle.encode_spec.specs.Encode.{bytes_in}
use Rattle.m68k_encode.proofs.put_bytes.Given as goal

abbrev pub invariant-loop-k : goal.invariant-loop-k
invariant-loop-k l = (l.k ≤ l.count) × (length l.lent ≡ length l.initial.lent) × (l.lent ≡ bytes_in (take l.k l.words) ++ drop (2 * l.k) l.initial.lent)

abbrev pub decreases-loop-k : goal.decreases-loop-k
decreases-loop-k l = l.count - l.k
