use Rattle.read_operands.proofs.displacement.displacement.Goals as goal

pub returns-in-Word : goal.returns-in-Word
returns-in-Word c a = rw (c.word_displacement.ensures a, c.in-Word.is)

pub returns-in-Long : goal.returns-in-Long
returns-in-Long c a = rw (c.long_displacement.ensures a, c.in-Long.is)
