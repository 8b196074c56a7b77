use Rattle.numeric_fields.specs.Part.{register_choice_at}
use Rattle.numeric_fields.proofs.part.register_choice_at.Goals as goal

pub returns : goal.returns
unfolding register_choice_at
returns c = rw (c.register_choice_of-b.ensures, c.unsigned_at-a.ensures)
