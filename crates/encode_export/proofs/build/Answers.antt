use Rattle.std.proofs.Common.{◌∙◌}
use Rattle.encode_export.specs.Places.{numbers_in, build_there, build_over, build_beyond, build_is}
use Rattle.encode_export.proofs.build.Goals as goal
use Rattle.encode_export.proofs.build.Goals.{else-from-count-via-then-from-count+else-count-le24, else-from-count-via-else-from-count}

pub returns-then-count-le24 : goal.returns-then-count-le24
returns-then-count-le24 c =
    let a = c.args in
    let ns = numbers_in a.count a.negative.now a.magnitude.now in
    rw (c.build.ensures, c.literals-literals.ensures) (build_there ns a.from c.if-from-count.true c.if-count-le24.true ∙ build_is ns a.from)

pub returns-else-from-count : goal.returns-else-from-count
returns-else-from-count c =
    let a = c.args in
    let ns = numbers_in a.count a.negative.now a.magnitude.now in
    elim c.else-from-count.branch [
      | else-from-count-via-then-from-count+else-count-le24 w ↦ build_over ns a.from w.if-count-le24.false ∙ build_is ns a.from
      | else-from-count-via-else-from-count w ↦ build_beyond ns a.from w.if-from-count.false ∙ build_is ns a.from
    ]
