use native.Mathlib.Omega.{arith}
use Rattle.encode_answers.specs.AnswerLaws.{answer_yes, answer_no}
use Rattle.encode_answers.proofs.answer.Goals as goal

pub returns-then-n : goal.returns-then-n
returns-then-n c =
    let line = c.args.line.now in
    let n = c.read_numbers-n in
    let m = c.numbers_in in
    let r = c.put_numbers.ensures in
    rw (answer_yes line n.result n.ensures m.result m.ensures c.if-n.true) (r.0.next, r.0.image, omega arith)

pub returns-else-n : goal.returns-else-n
returns-else-n c =
    let line = c.args.line.now in
    let n = c.read_numbers-n in
    let r = c.put_not_in_form.ensures in
    rw (answer_no line n.result n.ensures c.if-n.false) (r.0.next, r.0.image, omega arith)
