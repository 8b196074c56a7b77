use Rattle.numeric_fields.specs.Operand.{register_operand_at}
use Rattle.numeric_fields.proofs.operand.register_operand_at.Goals as goal

pub returns : goal.returns
unfolding register_operand_at
returns c = rw c.register_at-a.ensures
