use mathlib.Core.Path.{sym, ◌∙◌}
use native.Mathlib.Omega.{arith}
use Rattle.explain_lines.proofs.Laws.{first_at, first_not}
use Rattle.explain_lines.proofs.first_end.Goals as goal

pub returns-then-e-text : goal.returns-then-e-text
returns-then-e-text c = (sym (first_at c.args.text.now (omega (arith, c.line_end-e.ensures.0, c.if-e-text.true)) ∙ omega (arith, c.line_end-e.ensures.0)), omega arith)

pub returns-else-e-text : goal.returns-else-e-text
returns-else-e-text c = (sym (first_not c.args.text.now (omega (arith, c.line_end-e.ensures.0, c.if-e-text.false))), omega arith)
