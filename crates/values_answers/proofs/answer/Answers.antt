use mathlib.Core.Path.{sym, ◌∙◌}
use native.Mathlib.Omega.{arith}
use Rattle.values_answers.specs.AskedLaws.{answer_yes, answer_no}
use Rattle.values_answers.proofs.answer.Goals as goal

pub returns-then-is_asked : goal.returns-then-is_asked
returns-then-is_asked c =
    let r = c.put_asked.ensures in
    rw (answer_yes c.args.line.now c.read_numbers-n.result c.read_numbers-n.ensures (sym c.is_asked.ensures ∙ c.if-is_asked.true)) (r.0.next, r.0.image, omega arith)

pub returns-else-is_asked : goal.returns-else-is_asked
returns-else-is_asked c =
    let r = c.put_not_in_form.ensures in
    rw (answer_no c.args.line.now c.read_numbers-n.result c.read_numbers-n.ensures (sym c.is_asked.ensures ∙ c.if-is_asked.false)) (r.0.next, r.0.image, omega arith)
