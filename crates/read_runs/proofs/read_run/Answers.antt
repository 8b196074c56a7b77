use mathlib.Core.Path.{sym, ap, ◌∙◌}
use Prim.Native.Nat.{◌+◌}
use native.Mathlib.Omega.{arith}
use Rattle.read_runs.specs.declared.Run.{Run}
use Rattle.read_runs.specs.Step.{start_of, with_word}
use Rattle.read_runs.specs.RunLaws.{run_on, words_from, run-start, run_next}
use Rattle.read_runs.proofs.read_run.Goals as goal

pub loop-from-init : goal.loop-from-init
loop-from-init c =
    let line = c.args.line.now in
    let e = c.field_end-first in
    let n = c.start-r.ensures ∙ ap start_of c.read_number.ensures in
    (omega arith, run-start line e.result e.ensures.0 ∙ ap (λ (r : Run). run_on r (words_from line (e.result + 1))) (sym n))

pub loop-from-preserved : goal.loop-from-preserved
loop-from-preserved c =
    let line = c.args.line.now in
    let e = c.field_end-e in
    let w = c.with_word-r.ensures ∙ ap (with_word c.loop-from.r) c.read_word-w.ensures in (
      omega arith,
      c.loop-from.invariant.1 ∙ run_next line c.loop-from.from e.result c.loop-from.r (omega arith) e.ensures.0
          ∙ ap (λ (r : Run). run_on r (words_from line (e.result + 1))) (sym w),
    )
