use Rattle.std.proofs.Common.{arith}
use Rattle.list_program.proofs.Lined.{lined}
use Rattle.list_program.proofs.answer_line.Goals as goal

pub returns-clause-answered : goal.returns-clause-answered
returns-clause-answered g c = lined _ _ c.args.out.now c.answer.new.out c.in_ok-n.n (omega arith) c.in_ok-n.ensures.answered
