use Rattle.base_text.specs.declared.LineNumbers.{LineNumbers}
use mathlib.Core.Path.{sym, ap, ◌∙◌}
use Prim.Native.Nat.{◌+◌}
use native.Mathlib.Omega.{arith}
use Rattle.base_text.specs.Numbers.{with_number}
use Rattle.base_text.specs.NumbersLaws.{gathered_on, numbers_from, numbers_start, numbers_on}
use Rattle.base_text.proofs.read_numbers.Goals as goal

pub loop-from-init : goal.loop-from-init
loop-from-init c = (omega arith, numbers_start c.args.line.now)

pub loop-from-preserved : goal.loop-from-preserved
loop-from-preserved c =
    let line = c.args.line.now in
    let e = c.field_end-e in
    let w = c.with_number-r.ensures ∙ ap (with_number c.loop-from.r) c.read_number-n.ensures in (
      omega arith,
      c.loop-from.invariant.1 ∙ numbers_on line c.loop-from.from e.result c.loop-from.r (omega arith) e.ensures.0
          ∙ ap (λ (r : LineNumbers). gathered_on r (numbers_from line (e.result + 1))) (sym w),
    )
