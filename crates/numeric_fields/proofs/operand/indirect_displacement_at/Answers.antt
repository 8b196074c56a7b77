use mir.Facts.{to_z-of_z}
use mir.Syntax.{w32}
use Rattle.numeric_fields.specs.Operand.{indirect_displacement_at}
use borrow.Author.Rules.{rules}
use Rattle.numeric_fields.proofs.operand.indirect_displacement_at.Goals as goal

pub returns : goal.returns
unfolding indirect_displacement_at
returns c = rw (to_z-of_z {w = w32} {z = c.signed_at-a.result.value} (search rules), c.register_at-b.ensures, c.signed_at-a.ensures)
