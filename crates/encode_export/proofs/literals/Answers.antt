use Rattle.std.specs.Prelude.{◌≡◌, ◌+◌, ◌<◌, length}
use Rattle.std.proofs.Common.{sym, ◌∙◌, arith}
use Rattle.std.proofs.lemmas.List.{length-set}
use Rattle.encode_export.specs.Places.{literals_length, literals_more, literals_whole}
use Rattle.encode_export.proofs.literals.Goals as goal

pub loop-i-preserved : goal.loop-i-preserved
loop-i-preserved c =
    let a = c.args in
    let l = c.loop-i in
    (omega arith, rw length-set (l.invariant.1), literals_more l.literals a.negative.now a.magnitude.now l.i (omega (arith, l.invariant.1)) (c.requires.0 ∙ sym c.requires.1) (omega (arith, c.requires.1)) l.invariant.2)

pub returns : goal.returns
returns c =
    let a = c.args in
    let l = c.loop-i in
    let e : l.i ≡ 24 = omega arith in
    literals_whole l.literals a.negative.now a.magnitude.now l.i e l.invariant.1 c.requires.0 c.requires.1 l.invariant.2
