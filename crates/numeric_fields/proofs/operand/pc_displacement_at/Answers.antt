use Rattle.numeric_fields.specs.Operand.{pc_displacement_at}
use Rattle.numeric_fields.proofs.operand.pc_displacement_at.Goals as goal

pub returns : goal.returns
unfolding pc_displacement_at
returns c = rw c.long_at-a.ensures
