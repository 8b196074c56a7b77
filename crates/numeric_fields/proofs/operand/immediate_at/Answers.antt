use Rattle.numeric_fields.specs.Operand.{immediate_at}
use Rattle.numeric_fields.proofs.operand.immediate_at.Goals as goal

pub returns : goal.returns
unfolding immediate_at
returns c = rw c.long_at-a.ensures
