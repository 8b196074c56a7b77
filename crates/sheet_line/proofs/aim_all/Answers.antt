use native.Mathlib.Omega.{arith}
use native.Mathlib.Numerals.{add-one}
use Rattle.sheet_labels.specs.Labels.{address_in}
use Rattle.sheet_labels.specs.LabelLaws.{aimed_more}
use Rattle.sheet_line.proofs.aim_all.Goals as goal

pub loop-i-preserved : goal.loop-i-preserved
loop-i-preserved c =
    let a = c.args in
    let l = c.loop-i in
    (omega arith, rw (c.aim.ensures, l.invariant.1, add-one) (aimed_more (address_in a.addresses.now) a.label.now a.magnitude.now l.i))
