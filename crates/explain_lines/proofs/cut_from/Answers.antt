use native.Mathlib.Omega.{arith}
use Rattle.explain_lines.proofs.Laws.{cut_long, cut_short}
use Rattle.explain_lines.proofs.cut_from.Goals as goal

pub returns-then-text-ended-ge65536 : goal.returns-then-text-ended-ge65536
returns-then-text-ended-ge65536 c = cut_long c.args.text.now c.args.passed c.last_end.result (omega arith) c.last_end.ensures.0 (omega arith)

pub returns : goal.returns
returns c = cut_short c.args.text.now c.args.passed c.last_end.result (omega arith) c.last_end.ensures.0 (omega arith)
