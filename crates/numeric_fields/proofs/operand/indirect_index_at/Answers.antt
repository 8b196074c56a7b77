use mir.Facts.{to_z-of_z}
use mir.Syntax.{w32}
use Rattle.numeric_fields.specs.Operand.{indirect_index_at}
use borrow.Author.Rules.{rules}
use Rattle.numeric_fields.proofs.operand.indirect_index_at.Goals as goal

pub returns : goal.returns
unfolding indirect_index_at
returns c = rw (to_z-of_z {w = w32} {z = c.signed_at-b.result.value} (search rules), c.index_at-c.ensures, c.signed_at-b.ensures, c.register_at-a.ensures)
