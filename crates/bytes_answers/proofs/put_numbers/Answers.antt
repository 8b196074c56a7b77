use native.Mathlib.Omega.{arith}
use Rattle.bytes_answers.specs.BytesLaws.{lent_yes, lent_no, lent_most}
use Rattle.bytes_answers.proofs.put_numbers.Goals as goal

pub put_built-requires : goal.put_built-requires
put_built-requires c = (omega arith, omega (arith, lent_most c.args.numbers c.lent_in-lent.result c.lent_in-lent.ensures c.long_in-address.result c.long_in-address.ensures))

pub returns-then-lent-address : goal.returns-then-lent-address
returns-then-lent-address c =
    let l = c.lent_in-lent in
    let a = c.long_in-address in
    let b = c.build-built in
    rw (lent_yes c.args.numbers l.result l.ensures a.result a.ensures b.result b.ensures c.if-lent-address.true) c.put_built.ensures

pub returns-else-lent-address : goal.returns-else-lent-address
returns-else-lent-address c =
    let l = c.lent_in-lent in
    let a = c.long_in-address in
    rw (lent_no c.args.numbers l.result l.ensures a.result a.ensures c.if-lent-address.false) (c.put_not_in_form.ensures.0, omega arith)
