use Rattle.read_operands.proofs.operand.with_words.Goals as goal

pub returns-in-5 : goal.returns-in-5
returns-in-5 c h = rw c.in-5.is (c.displaced.ensures c.args.address)
