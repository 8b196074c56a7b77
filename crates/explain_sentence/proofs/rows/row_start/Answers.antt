use mathlib.Core.Path.{◌∙◌}
use native.Mathlib.Omega.{arith}
use Rattle.explain_sentence.proofs.Laws.{rows_next}
use Rattle.explain_sentence.proofs.rows.row_start.Goals as goal

pub loop-left-preserved : goal.loop-left-preserved
loop-left-preserved c =
    let l = c.loop-left in
    let e = c.field_end-from in
    (omega (arith, e.ensures.1), l.invariant.1 ∙ rows_next c.args.rows.now l.from e.result l.left (omega arith) e.ensures.0 (omega arith))
