use mathlib.Core.Path.{◌≡◌}
use mathlib.Core.List.{List, ◌++◌}
use Prim.Native.Nat.{ℕ, ◌+◌, ◌*◌, ◌-◌, ◌≤◌}
use lib.ListN.{length, drop}
use Rattle.base_text.specs.Wrote.{Wrote}
use Rattle.srecord_spec.specs.Write.{image_text}
use Rattle.srecord_write.specs.Text.{rest_text, text_length}
use Rattle.srecord_write.proofs.put_records.Given as goal

abbrev pub invariant-loop-from : goal.invariant-loop-from
invariant-loop-from l =
    (l.from ≤ length l.image) × (length l.out ≡ length l.initial.out) × (l.at + text_length (length l.image - l.from) ≤ length l.initial.out)
    × (done : List ℕ) × Wrote l.initial.out 0 done l.out l.at × (image_text l.start l.image ≡ done ++ rest_text l.start (l.start + 2 * l.from) (drop l.from l.image))

abbrev pub decreases-loop-from : goal.decreases-loop-from
decreases-loop-from l = length l.image - l.from
