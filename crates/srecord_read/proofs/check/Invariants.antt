use mathlib.Core.Path.{◌≡◌}
use Prim.Native.Nat.{◌-◌, ◌^◌, ◌≤◌}
use lib.ListN.{length}
use Rattle.base_text.specs.PartLaws.{parts_from}
use Rattle.srecord_read.specs.Text.{checked_of, checked_from}
use Rattle.srecord_read.proofs.check.Given as goal

abbrev pub invariant-loop-from : goal.invariant-loop-from
invariant-loop-from l = (l.from ≤ length l.text) × (l.k ≤ l.from) × (l.start ≤ l.next) × (l.next ≤ 2 ^ 32) × (checked_of l.text ≡ checked_from l.start l.next l.k (parts_from 10 l.text l.from))

abbrev pub decreases-loop-from : goal.decreases-loop-from
decreases-loop-from l = length l.text - l.from
