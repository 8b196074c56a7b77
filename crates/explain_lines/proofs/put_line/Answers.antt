use native.Mathlib.Omega.{arith}
use Rattle.explain_lines.proofs.Laws.{nothing_placed}
use Rattle.explain_lines.proofs.put_line.Goals as goal

pub returns-then-line-eq0 : goal.returns-then-line-eq0
returns-then-line-eq0 c = nothing_placed c.args.out.now c.args.at c.args.line.now (omega arith)
