use Rattle.numeric_fields.specs.Part.{address_width_at}
use Rattle.numeric_fields.proofs.part.address_width_at.Goals as goal

pub returns : goal.returns
unfolding address_width_at
returns c = rw (c.address_width_of-width.ensures, c.unsigned_at-n.ensures)
