use Rattle.numeric_fields.specs.Part.{index_at}
use Rattle.numeric_fields.proofs.part.index_at.Goals as goal

pub returns : goal.returns
unfolding index_at
returns c = rw (c.size_at-b.ensures, c.register_at-a.ensures)
