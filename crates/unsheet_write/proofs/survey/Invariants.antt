use Prim.Native.Nat.{◌-◌}
use lib.ListN.{length}
use Rattle.unsheet_write.specs.SurveyLaws.{Surveying}
use Rattle.unsheet_write.proofs.survey.Given as goal

abbrev pub invariant-loop-place : goal.invariant-loop-place
invariant-loop-place l = Surveying l.start l.image l.initial.lines l.place l.count l.lines

abbrev pub decreases-loop-place : goal.decreases-loop-place
decreases-loop-place l =
    length l.image - l.place
