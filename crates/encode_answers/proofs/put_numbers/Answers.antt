use native.Mathlib.Omega.{arith}
use Rattle.encode_answers.specs.AnswerLaws.{numbers_yes, numbers_no}
use Rattle.encode_answers.proofs.put_numbers.Goals as goal

pub returns-then-address : goal.returns-then-address
returns-then-address c =
    let ns = c.args.numbers in
    let l = c.long_in-address in
    let b = c.build in
    rw (numbers_yes ns l.result l.ensures b.result b.ensures c.if-address.true) c.put_built.ensures

pub returns-else-address : goal.returns-else-address
returns-else-address c =
    let ns = c.args.numbers in
    let l = c.long_in-address in
    rw (numbers_no ns l.result l.ensures c.if-address.false) (c.put_not_in_form.ensures.0, omega arith)
