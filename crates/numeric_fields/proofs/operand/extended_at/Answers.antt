use mir.Facts.{to_z-of_z}
use mir.Syntax.{w32}
use Rattle.numeric_fields.specs.Operand.{extended_at}
use borrow.Author.Rules.{rules}
use Rattle.numeric_fields.proofs.operand.extended_at.Goals as goal

pub returns : goal.returns
unfolding extended_at
returns c = rw (to_z-of_z {w = w32} {z = c.signed_at-d.result.value} (search rules), to_z-of_z {w = w32} {z = c.signed_at-c.result.value} (search rules), c.signed_at-d.ensures, c.signed_at-c.ensures, c.word_at-b.ensures, c.byte_at-a.ensures)
