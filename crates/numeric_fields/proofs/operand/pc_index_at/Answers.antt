use Rattle.numeric_fields.specs.Operand.{pc_index_at}
use Rattle.numeric_fields.proofs.operand.pc_index_at.Goals as goal

pub returns : goal.returns
unfolding pc_index_at
returns c = rw (c.index_at-b.ensures, c.long_at-a.ensures)
