use mathlib.Core.Path.{sym, ap, ◌∙◌}
use native.Mathlib.Omega.{arith}
use Rattle.base_text.specs.WroteLaws.{wrote_none}
use Rattle.explain_spec.specs.Sentence.{filled}
use Rattle.explain_sentence.proofs.Laws.{wrote_as}
use Rattle.explain_sentence.proofs.SentenceLaws.{row_same, field_room, reason_room, detail_field, detail_reason, detail_none}
use Rattle.explain_sentence.proofs.put_detail.Goals as goal

pub returns-then-r-eq2 : goal.returns-then-r-eq2
returns-then-r-eq2 c =
    let r = c.args.r in
    let e = c.field_texts.ensures.0 in
    let w = c.put_row.ensures in
    (wrote_as (ap (filled r) (detail_field r c.if-r-eq2.true ∙ sym (row_same e r.detail))) w.0, omega (arith, w.1, field_room e r.detail))

pub put_row-requires-then-r-eq3 : goal.put_row-requires-then-r-eq3
put_row-requires-then-r-eq3 c = omega (arith, reason_room c.reason_texts.ensures.0 c.args.r.detail)

pub returns-then-r-eq3 : goal.returns-then-r-eq3
returns-then-r-eq3 c =
    let r = c.args.r in
    let e = c.reason_texts.ensures.0 in
    let w = c.put_row-then-r-eq3.ensures in
    (wrote_as (ap (filled r) (detail_reason r c.if-r-eq2.false c.if-r-eq3.true ∙ sym (row_same e r.detail))) w.0, omega (arith, w.1, reason_room e r.detail))

pub returns : goal.returns
returns c =
    let a = c.args in
    (wrote_as (ap (filled a.r) (detail_none a.r c.if-r-eq2.false c.if-r-eq3.false)) (wrote_none a.out.now a.at), omega arith)
