use Rattle.numeric_fields.specs.Number.{numbers_in}
use Rattle.numeric_fields.proofs.Laws.{unsigned_yes, unsigned_no, unsigned_out}
use Rattle.numeric_fields.proofs.number.unsigned_at.Goals as goal

pub returns-then-k-count : goal.returns-then-k-count
returns-then-k-count c =
    let a = c.args in
    unsigned_yes a.top (numbers_in a.count a.negative.now a.magnitude.now) a.k c.if-k-lt24.true c.if-k-count.true

pub returns-else-k-count : goal.returns-else-k-count
returns-else-k-count c =
    let a = c.args in
    unsigned_no a.top (numbers_in a.count a.negative.now a.magnitude.now) a.k c.if-k-lt24.true c.if-k-count.false

pub returns-else-k-lt24 : goal.returns-else-k-lt24
returns-else-k-lt24 c =
    let a = c.args in
    unsigned_out a.top (numbers_in a.count a.negative.now a.magnitude.now) a.k c.if-k-lt24.false
