use Rattle.numeric_fields.specs.Operand.{post_indirect_at}
use Rattle.numeric_fields.proofs.operand.post_indirect_at.Goals as goal

pub returns : goal.returns
unfolding post_indirect_at
returns c = rw c.byte_at-a.ensures
