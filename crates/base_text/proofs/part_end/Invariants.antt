use Rattle.std.proofs.Common.{◌≡◌, ◌≤◌, length}
use Rattle.base_text.specs.Parts.{part_end}
use Rattle.base_text.proofs.part_end.Given as goal

abbrev pub invariant-loop-i : goal.invariant-loop-i
invariant-loop-i l = part_end l.stop l.s l.from ≡ part_end l.stop l.s l.i
