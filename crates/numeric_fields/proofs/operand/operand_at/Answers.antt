use Rattle.numeric_fields.specs.Operand.{operand_at}
use Rattle.numeric_fields.proofs.operand.operand_at.Goals as goal

pub returns : goal.returns
unfolding operand_at
returns c = rw (c.operand_of-b.ensures, c.unsigned_at-a.ensures)
