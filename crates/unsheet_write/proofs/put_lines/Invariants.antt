use Prim.Native.Nat.{◌-◌}
use lib.ListN.{length}
use Rattle.unsheet_line.specs.Table.{lands_in}
use Rattle.unsheet_write.specs.WritingLaws.{Writing}
use Rattle.unsheet_write.proofs.put_lines.Given as goal

abbrev pub invariant-loop-place : goal.invariant-loop-place
invariant-loop-place l = Writing l.start l.image (lands_in l.start l.lines) l.initial.out l.from l.place l.at l.out

abbrev pub decreases-loop-place : goal.decreases-loop-place
decreases-loop-place l =
    length l.image - l.place
