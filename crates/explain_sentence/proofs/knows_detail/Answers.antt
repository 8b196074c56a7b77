use mathlib.Core.Path.{sym, ◌∙◌}
use Rattle.explain_sentence.proofs.SentenceLaws.{row-known, has_field, has_reason}
use Rattle.explain_sentence.proofs.knows_detail.Goals as goal

pub returns-then-r-eq2 : goal.returns-then-r-eq2
returns-then-r-eq2 c = c.is_row.ensures ∙ row-known c.field_texts.ensures.0 c.args.r.detail ∙ sym (has_field c.args.r c.if-r-eq2.true)

pub returns-then-r-eq3 : goal.returns-then-r-eq3
returns-then-r-eq3 c = c.is_row-then-r-eq3.ensures ∙ row-known c.reason_texts.ensures.0 c.args.r.detail ∙ sym (has_reason c.args.r c.if-r-eq2.false c.if-r-eq3.true)
