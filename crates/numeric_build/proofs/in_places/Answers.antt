use Rattle.std.specs.Prelude.{◌≡◌, ◌<◌, length}
use Rattle.std.proofs.Common.{arith}
use Rattle.std.proofs.lemmas.List.{length-set}
use Rattle.base_spec.specs.declared.Literal.{Literal}
use Rattle.numeric_build.specs.Places.{copied_more, copied_whole}
use Rattle.numeric_build.proofs.in_places.Goals as goal

pub loop-i-preserved : goal.loop-i-preserved
loop-i-preserved c =
    let l = c.loop-i in
    let v = l.invariant in
    let ls = c.args.literals.places in
    (omega arith, rw length-set v.1, rw length-set v.2, copied_more (λ (x : Literal). x.negative) l.negative ls l.i (omega (arith, v.1)) (omega (arith, c.requires)) v.3, copied_more (λ (x : Literal). x.magnitude) l.magnitude ls l.i (omega (arith, v.2)) (omega (arith, c.requires)) v.4)

pub returns : goal.returns
returns c =
    let l = c.loop-i in
    let v = l.invariant in
    let ls = c.args.literals.places in
    let e : l.i ≡ 24 = omega (arith, v.0) in
    let n = copied_whole (λ (x : Literal). x.negative) l.negative ls l.i e v.1 c.requires v.3 in
    let m = copied_whole (λ (x : Literal). x.magnitude) l.magnitude ls l.i e v.2 c.requires v.4 in
    rw (n, m)
