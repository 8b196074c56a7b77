use Rattle.numeric_fields.specs.Operand.{indirect_at}
use Rattle.numeric_fields.proofs.operand.indirect_at.Goals as goal

pub returns : goal.returns
unfolding indirect_at
returns c = rw c.byte_at-a.ensures
