use Rattle.srecord_line.specs.Line.{address_or}
use Rattle.srecord_line.proofs.address_in.Goals as goal

pub returns-then-literal : goal.returns-then-literal
unfolding address_or
returns-then-literal c = rw (c.in-Some.is, c.if-literal.true)

pub returns-else-literal : goal.returns-else-literal
unfolding address_or
returns-else-literal c = rw (c.in-Some.is, c.if-literal.false)

pub returns-in-None : goal.returns-in-None
unfolding address_or
returns-in-None c = rw c.in-None.is
