use mathlib.Core.Path.{sym, ap, ◌∙◌}
use native.Mathlib.Omega.{arith}
use Rattle.explain_spec.specs.Sentence.{filled}
use Rattle.explain_sentence.proofs.Laws.{wrote_as}
use Rattle.explain_sentence.proofs.SentenceLaws.{row_same, line_room, sheet_room, wrong_outside, wrong_line}
use Rattle.explain_sentence.proofs.put_wrong.Goals as goal

pub returns-then-is_outside : goal.returns-then-is_outside
returns-then-is_outside c =
    let r = c.args.r in
    let e = c.sheet_texts.ensures.0 in
    let w = c.put_row.ensures in
    (wrote_as (ap (filled r) (wrong_outside r (sym c.is_outside.ensures ∙ c.if-is_outside.true) ∙ sym (row_same e r.number))) w.0, omega (arith, w.1, sheet_room e r.number))

pub returns : goal.returns
returns c =
    let r = c.args.r in
    let e = c.line_texts.ensures.0 in
    let w = c.put_row-2.ensures in
    (wrote_as (ap (filled r) (wrong_line r (sym c.is_outside.ensures ∙ c.if-is_outside.false) ∙ sym (row_same e r.number))) w.0, omega (arith, w.1, line_room e r.number))
