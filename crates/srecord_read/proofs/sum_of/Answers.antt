use native.Mathlib.Omega.{arith}
use mathlib.Core.Path.{sym, ◌∙◌}
use Prim.Native.Nat.{◌+◌}
use lib.ListN.{get_or}
use Rattle.srecord_read.specs.PairLaws.{hex_both, sum_on, sum_odd}
use Rattle.srecord_read.proofs.sum_of.Goals as goal

pub loop-i-preserved : goal.loop-i-preserved
loop-i-preserved c =
    let l = c.loop-i in
    let ds = c.args.digits.now in
    let x = c.digit_value-high in
    let y = c.digit_value-low in
    let t = hex_both (get_or ds l.i 0) (get_or ds (l.i + 1) 0) x.result y.result x.ensures.0 y.ensures.0 in
    (omega arith, omega arith, rw (x.ensures.0, y.ensures.0) (l.invariant.2 ∙ sum_on ds l.i l.sum (omega arith) (sym t ∙ c.if-not-high-low.false)))

pub returns-then-i-digits : goal.returns-then-i-digits
returns-then-i-digits c =
    let l = c.loop-i in
    sym (l.invariant.2 ∙ sum_odd c.args.digits.now l.i l.sum (omega arith) (omega arith))
