use native.Mathlib.Omega.{arith}
use Rattle.explain_refusal.proofs.Laws.{fields_at}
use Rattle.explain_refusal.proofs.first_number.Goals as goal

pub returns : goal.returns
returns c =
    let a = c.args in
    let e = c.field_end-e in
    rw (fields_at a.line.now a.from e.result (omega arith) e.ensures.0) c.read_number.ensures
