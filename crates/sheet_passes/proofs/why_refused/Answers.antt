use Rattle.std.proofs.Common.{to_z-of_z, w64, rules}
use Rattle.sheet_passes.proofs.Laws.{range_looked, range_passed}
use Rattle.sheet_passes.proofs.why_refused.Goals as goal

pub returns-then-has_at-settled : goal.returns-then-has_at-settled
returns-then-has_at-settled c =
    let a = c.args in
    let e = c.encoded-e in
    rw (to_z-of_z {w = w64} {z = e.result.value} (search rules))
    (range_looked a.addresses.now a.line.now a.address a.settled c.has_at.result c.has_at.ensures e.result e.ensures c.if-has_at-settled.true)

pub returns : goal.returns
returns c =
    let a = c.args in
    range_passed a.addresses.now a.line.now a.address a.settled c.has_at.result c.has_at.ensures c.not_refused.result c.not_refused.ensures c.if-has_at-settled.false
