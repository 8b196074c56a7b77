use native.Mathlib.Omega.{arith}
use mathlib.Core.Path.{sym, ◌∙◌}
use Rattle.srecord_read.specs.TextLaws.{check_first, check_last, check_refused, check_closed, check_on, check_next, check_end}
use Rattle.srecord_read.proofs.check.Goals as goal

pub loop-from-init : goal.loop-from-init
loop-from-init c =
    let e = c.line_end-first in
    (omega arith, omega arith, omega arith, omega arith, check_first c.args.text.now e.result e.ensures.0 c.record_in-opening.result c.record_in-opening.ensures)

pub returns-then-e-text : goal.returns-then-e-text
returns-then-e-text c =
    let l = c.loop-from in
    let e = c.line_end-e in
    c.refused_at.ensures ∙ sym (l.invariant.4 ∙ check_last c.args.text.now _ l.next l.k l.from e.result (omega arith) e.ensures.0 (omega arith))

pub returns-then-number-ne0 : goal.returns-then-number-ne0
returns-then-number-ne0 c =
    let l = c.loop-from in
    let e = c.line_end-e in
    let r = c.record_in-r in
    let n = c.refusal-number in
    c.refused_at-then-number-ne0.ensures
    ∙ sym (l.invariant.4 ∙ check_refused c.args.text.now _ l.next l.k l.from e.result (omega arith) e.ensures.0 (omega arith) r.result r.ensures n.result n.ensures c.if-number-ne0.true)

pub returns-then-r : goal.returns-then-r
returns-then-r c =
    let l = c.loop-from in
    let e = c.line_end-e in
    let r = c.record_in-r in
    let n = c.refusal-number in
    c.closed.ensures
    ∙ sym (l.invariant.4 ∙ check_closed c.args.text.now _ l.next l.k l.from e.result (omega arith) e.ensures.0 (omega arith) r.result r.ensures n.result n.ensures (omega arith) c.if-r.true)

pub overflow_add-next : goal.overflow_add-next
overflow_add-next c =
    let l = c.loop-from in
    let e = c.line_end-e in
    let r = c.record_in-r in
    let n = c.refusal-number in
    omega (arith, check_next c.args.text.now _ l.next l.k l.from e.result (omega arith) e.ensures.0 (omega arith) r.result r.ensures n.result n.ensures (omega arith) c.if-r.false)

pub loop-from-preserved : goal.loop-from-preserved
loop-from-preserved c =
    let l = c.loop-from in
    let e = c.line_end-e in
    let r = c.record_in-r in
    let n = c.refusal-number in
    let t = c.args.text.now in
    let m = check_next t _ l.next l.k l.from e.result (omega arith) e.ensures.0 (omega arith) r.result r.ensures n.result n.ensures (omega arith) c.if-r.false in (
      omega arith,
      omega arith,
      omega arith,
      m,
      l.invariant.4 ∙ check_on t _ l.next l.k l.from e.result (omega arith) e.ensures.0 (omega arith) r.result r.ensures n.result n.ensures (omega arith) c.if-r.false (omega arith),
    )

pub returns : goal.returns
returns c =
    let l = c.loop-from in
    c.refused_at-2.ensures ∙ sym (l.invariant.4 ∙ check_end c.args.text.now _ l.next l.k l.from (omega arith) (omega arith))
