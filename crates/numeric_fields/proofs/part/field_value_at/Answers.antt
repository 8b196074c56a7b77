use Rattle.numeric_fields.specs.Part.{field_value_at}
use Rattle.numeric_fields.proofs.part.field_value_at.Goals as goal

pub returns : goal.returns
unfolding field_value_at
returns c = rw (c.field_value_of-value.ensures, c.byte_at-b.ensures, c.unsigned_at-a.ensures)
