use native.Mathlib.Omega.{arith}
use mathlib.Core.Path.{sym, ap}
use Rattle.explain_refusal.proofs.Laws.{fields_at}
use Rattle.explain_spec.specs.Refusal.{others}
use Rattle.explain_refusal.proofs.next_field.Goals as goal

pub returns : goal.returns
returns c =
    let a = c.args in
    let e = c.field_end in
    sym (ap others (fields_at a.line.now a.from e.result (omega arith) e.ensures.0))
