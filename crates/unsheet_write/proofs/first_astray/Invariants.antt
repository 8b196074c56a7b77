use Prim.Native.Nat.{◌-◌}
use lib.ListN.{length}
use Rattle.unsheet_line.specs.Table.{lands_in}
use Rattle.unsheet_write.specs.SurveyLaws.{Landing}
use Rattle.unsheet_write.proofs.first_astray.Given as goal

abbrev pub invariant-loop-place : goal.invariant-loop-place
invariant-loop-place l = Landing l.start l.image (lands_in l.start l.lines) l.place

abbrev pub decreases-loop-place : goal.decreases-loop-place
decreases-loop-place l =
    length l.image - l.place
