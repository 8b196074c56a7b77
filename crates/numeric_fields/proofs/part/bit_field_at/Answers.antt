use Rattle.numeric_fields.specs.Part.{bit_field_at}
use Rattle.numeric_fields.proofs.part.bit_field_at.Goals as goal

pub returns : goal.returns
unfolding bit_field_at
returns c = rw (c.field_value_at-b.ensures, c.field_value_at-a.ensures)
