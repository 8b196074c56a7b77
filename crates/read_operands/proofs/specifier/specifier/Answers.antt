use Rattle.read_operands.proofs.specifier.specifier.Goals as goal

pub returns-in-Word : goal.returns-in-Word
returns-in-Word c a = rw (c.one_word.ensures a, c.in-Word.is)

pub returns-in-Long : goal.returns-in-Long
returns-in-Long c a = rw (c.two_words.ensures a, c.in-Long.is)
