use mathlib.Core.Path.{◌≡◌}
use Prim.Native.Nat.{◌+◌, ◌≤◌}
use lib.ListN.{length, drop}
use Rattle.base_spec.specs.Parts.{fields}
use Rattle.base_text.specs.PartLaws.{parts_from}
use Rattle.explain_sentence.proofs.rows.row_start.Given as goal

abbrev pub invariant-loop-left : goal.invariant-loop-left
invariant-loop-left l = (l.from ≤ length l.rows + 1) × (drop l.n (fields l.rows) ≡ drop l.left (parts_from 9 l.rows l.from))

abbrev pub decreases-loop-left : goal.decreases-loop-left
decreases-loop-left l = l.left
