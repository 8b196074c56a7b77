use Rattle.std.proofs.Common.{◌∙◌}
use Rattle.sheet_blocks.proofs.Laws.{measured_line}
use Rattle.sheet_blocks.proofs.measure.Goals as goal

pub returns : goal.returns
returns c = let a = c.args in c.sized_as.ensures ∙ measured_line a.lines a.line.now c.read_line-made.ensures
