use mathlib.Core.Path.{◌≡◌}
use Prim.Native.Nat.{◌+◌, ◌-◌, ◌≤◌}
use lib.ListN.{length}
use Rattle.base_text.specs.PartLaws.{parts_from}
use Rattle.srecord_read.specs.Words.{data_of, data_in}
use Rattle.srecord_facts.specs.Writing.{Writing}
use Rattle.srecord_read.proofs.fill.Given as goal

abbrev pub invariant-loop-from : goal.invariant-loop-from
invariant-loop-from l = (l.from ≤ length l.text + 1) × (l.at ≤ length l.initial.image) × (length l.image ≡ length l.initial.image) × Writing (data_in l.text) l.initial.image (data_of (parts_from 10 l.text l.from)) l.at l.image

abbrev pub decreases-loop-from : goal.decreases-loop-from
decreases-loop-from l = length l.text + 1 - l.from
