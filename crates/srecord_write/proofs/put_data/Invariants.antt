use mathlib.Core.Path.{◌≡◌}
use Prim.Native.Nat.{◌+◌, ◌*◌, ◌-◌, ◌≤◌}
use lib.ListN.{length, take}
use Rattle.base_text.specs.Wrote.{Wrote}
use Rattle.encode_spec.specs.Encode.{bytes_in}
use Rattle.srecord_spec.specs.Record.{digits_of}
use Rattle.srecord_write.proofs.put_data.Given as goal

abbrev pub invariant-loop-i : goal.invariant-loop-i
invariant-loop-i l = (l.i ≤ length l.words) × (length l.out ≡ length l.initial.out) × (l.next ≡ l.at + 4 * l.i) × Wrote l.initial.out l.at (digits_of (bytes_in (take l.i l.words))) l.out l.next

abbrev pub decreases-loop-i : goal.decreases-loop-i
decreases-loop-i l = length l.words - l.i
