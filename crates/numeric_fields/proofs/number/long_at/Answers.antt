use native.Mathlib.Omega.{arith}
use Rattle.numeric_fields.specs.Number.{long_at, numbers_in}
use Rattle.numeric_fields.specs.NumberLaws.{unsigned_le}
use Rattle.numeric_fields.proofs.number.long_at.Goals as goal

pub overflow_cast-result : goal.overflow_cast-result
overflow_cast-result c = rw c.unsigned_at-n.ensures (omega (arith, unsigned_le 4294967295 (numbers_in c.args.count c.args.negative.now c.args.magnitude.now) c.args.k))

pub returns : goal.returns
unfolding long_at
returns c = rw c.unsigned_at-n.ensures
