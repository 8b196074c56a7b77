use native.Mathlib.Omega.{arith}
use mathlib.Core.Path.{sym, ◌∙◌}
use Rattle.srecord_read.specs.PairLaws.{number_on, number_end}
use Rattle.srecord_read.proofs.number_of.Goals as goal

pub loop-i-preserved : goal.loop-i-preserved
loop-i-preserved c =
    let l = c.loop-i in
    let ds = c.args.digits.now in
    (omega arith, omega arith, rw c.byte_of.ensures.0 (l.invariant.2 ∙ number_on ds l.i l.n (omega arith)))

pub returns : goal.returns
returns c =
    let l = c.loop-i in
    sym (l.invariant.2 ∙ number_end c.args.digits.now l.i l.n (omega arith) (omega arith))
