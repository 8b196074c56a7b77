use Rattle.sheet_blocks.proofs.Laws.{Summing}
use Rattle.sheet_blocks.proofs.words_of.Given as goal

abbrev pub invariant-loop-left : goal.invariant-loop-left
invariant-loop-left l = Summing l.text l.from l.count l.lines l.next l.left l.words

abbrev pub decreases-loop-left : goal.decreases-loop-left
decreases-loop-left l = l.left
