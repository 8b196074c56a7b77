use Rattle.numeric_fields.specs.Part.{size_at}
use Rattle.numeric_fields.proofs.part.size_at.Goals as goal

pub returns : goal.returns
unfolding size_at
returns c = rw (c.size_of-size.ensures, c.unsigned_at-n.ensures)
