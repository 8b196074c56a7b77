use native.Mathlib.Omega.{arith}
use Rattle.bytes_answers.specs.BytesLaws.{bytes_yes, bytes_no}
use Rattle.bytes_answers.proofs.answer.Goals as goal

pub returns-then-n : goal.returns-then-n
returns-then-n c =
    let n = c.read_numbers-n in
    let m = c.numbers_in in
    let r = c.put_numbers.ensures in
    rw (bytes_yes c.args.line.now n.result n.ensures m.result m.ensures c.if-n.true) (r.0.next, r.0.image, omega arith)

pub returns-else-n : goal.returns-else-n
returns-else-n c =
    let n = c.read_numbers-n in
    let r = c.put_not_in_form.ensures in
    rw (bytes_no c.args.line.now n.result n.ensures c.if-n.false) (r.0.next, r.0.image, omega arith)
