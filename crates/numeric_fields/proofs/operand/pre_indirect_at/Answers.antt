use Rattle.numeric_fields.specs.Operand.{pre_indirect_at}
use Rattle.numeric_fields.proofs.operand.pre_indirect_at.Goals as goal

pub returns : goal.returns
unfolding pre_indirect_at
returns c = rw c.byte_at-a.ensures
