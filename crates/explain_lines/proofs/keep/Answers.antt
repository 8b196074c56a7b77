use Rattle.std.proofs.Common.{refl, ◌∙◌, arith}
use Rattle.explain_lines.proofs.Laws.{moved, unmoved}
use Rattle.explain_lines.proofs.keep.Goals as goal

pub returns-then-from-eq0 : goal.returns-then-from-eq0
returns-then-from-eq0 c = (omega arith, unmoved c.args.text.now c.args.from c.args.to (omega arith) (omega arith))

pub returns : goal.returns
returns c = (refl, c.copy_within.ensures.after ∙ moved c.args.text.now c.args.from c.args.to (omega arith) (omega arith))
