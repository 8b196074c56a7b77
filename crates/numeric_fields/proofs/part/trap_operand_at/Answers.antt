use Rattle.numeric_fields.specs.Part.{trap_operand_at}
use Rattle.numeric_fields.proofs.part.trap_operand_at.Goals as goal

pub returns : goal.returns
unfolding trap_operand_at
returns c = rw (c.trap_operand_of-b.ensures, c.unsigned_at-a.ensures)
