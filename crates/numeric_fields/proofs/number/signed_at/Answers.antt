use mir.Facts.{to_z-of_z, to_z_pos}
use mir.Syntax.{w32}
use mathlib.Core.Bool.{false}
use lib.Dec.{ltb}
use lib.ListN.{get_or}
use native.Mathlib.Omega.{arith}
use Rattle.numeric_fields.specs.Number.{numbers_in}
use Rattle.numeric_fields.proofs.Laws.{plus_bound, signed-minus, signed_plus, signed_no, signed_out}
use borrow.Author.Rules.{rules}
use Rattle.numeric_fields.proofs.number.signed_at.Goals as goal

pub returns-then-there-minus : goal.returns-then-there-minus
returns-then-there-minus c =
    let a = c.args in
    rw (to_z-of_z {w = w32} {z = c.negated.result} (search rules), c.negated.ensures) (signed-minus (numbers_in a.count a.negative.now a.magnitude.now) a.k c.if-k-lt24.true c.if-there-minus.true)

pub returns-then-there-m : goal.returns-then-there-m
returns-then-there-m c =
    let a = c.args in
    rw (to_z_pos w32 {n = get_or a.magnitude.now a.k 0} (omega (arith, plus_bound (ltb a.k a.count) (get_or a.magnitude.now a.k 0) (get_or a.negative.now a.k false) c.if-there-m.true))) (signed_plus (numbers_in a.count a.negative.now a.magnitude.now) a.k c.if-k-lt24.true c.if-there-m.true)

pub returns-else-there-m : goal.returns-else-there-m
returns-else-there-m c =
    let a = c.args in
    signed_no (numbers_in a.count a.negative.now a.magnitude.now) a.k c.if-k-lt24.true c.if-there-minus.false c.if-there-m.false

pub returns-else-k-lt24 : goal.returns-else-k-lt24
returns-else-k-lt24 c =
    let a = c.args in
    signed_out (numbers_in a.count a.negative.now a.magnitude.now) a.k c.if-k-lt24.false
