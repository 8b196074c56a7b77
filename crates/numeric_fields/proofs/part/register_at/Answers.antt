use Rattle.numeric_fields.specs.Part.{register_at}
use Rattle.numeric_fields.proofs.part.register_at.Goals as goal

pub returns : goal.returns
unfolding register_at
returns c = rw (c.register_of-register.ensures, c.byte_at-b.ensures, c.unsigned_at-a.ensures)
