use Rattle.std.proofs.Common.{◌∙◌}
use Rattle.numeric_fields.specs.Number.{numbers_in}
use Rattle.numeric_build.specs.Literals.{literals_from, taken_between, build_there, build_over, build_beyond, build_is}
use Rattle.numeric_build.proofs.build_in.Goals as goal
use Rattle.numeric_build.proofs.build_in.Goals.{else-from-count-via-then-from-count+else-count-le24, else-from-count-via-else-from-count}

pub returns-then-count-le24 : goal.returns-then-count-le24
returns-then-count-le24 c =
    let a = c.args in
    let ns = numbers_in a.count a.negative.now a.magnitude.now in
    let e = taken_between c.write_literals.new.literals (literals_from a.negative.now a.magnitude.now) a.from a.count c.if-from-count.true c.write_literals.ensures.1 in
    rw (c.built.ensures, e) (build_there ns a.from c.if-from-count.true c.if-count-le24.true ∙ build_is ns a.from)

pub returns-else-from-count : goal.returns-else-from-count
returns-else-from-count c =
    let a = c.args in
    let ns = numbers_in a.count a.negative.now a.magnitude.now in
    elim c.else-from-count.branch [
      | else-from-count-via-then-from-count+else-count-le24 w ↦ build_over ns a.from w.if-count-le24.false ∙ build_is ns a.from
      | else-from-count-via-else-from-count w ↦ build_beyond ns a.from w.if-from-count.false ∙ build_is ns a.from
    ]
