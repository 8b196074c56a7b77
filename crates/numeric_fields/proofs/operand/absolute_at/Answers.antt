use Rattle.numeric_fields.specs.Operand.{absolute_at}
use Rattle.numeric_fields.proofs.operand.absolute_at.Goals as goal

pub returns : goal.returns
unfolding absolute_at
returns c = rw (c.address_width_at-b.ensures, c.unsigned_at-a.ensures)
