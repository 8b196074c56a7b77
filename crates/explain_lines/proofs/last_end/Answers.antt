use mathlib.Core.Path.{sym, ◌∙◌}
use native.Mathlib.Omega.{arith}
use Rattle.explain_lines.proofs.Laws.{last_here, last_earlier}
use Rattle.explain_lines.proofs.last_end.Goals as goal

pub returns-then-text-i-eq10 : goal.returns-then-text-i-eq10
returns-then-text-i-eq10 c =
    let l = c.loop-i in
    (sym (l.invariant.1 ∙ last_here c.args.text.now l.i (omega arith) (omega arith) c.if-text-i-eq10.true), omega arith)

pub loop-i-preserved : goal.loop-i-preserved
loop-i-preserved c =
    let l = c.loop-i in
    (omega arith, l.invariant.1 ∙ last_earlier c.args.text.now l.i (omega arith) (omega arith) c.if-text-i-eq10.false)
