use Rattle.read_operands.proofs.operand.special.Goals as goal

pub returns-in-0 : goal.returns-in-0
returns-in-0 c = rw c.in-0.is (c.short_address.ensures c.args.address)

pub returns-in-1 : goal.returns-in-1
returns-in-1 c = rw c.in-1.is (c.long_address.ensures c.args.address)
