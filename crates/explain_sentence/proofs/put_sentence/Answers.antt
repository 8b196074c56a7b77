use mathlib.Core.Path.{sym, ◌∙◌}
use native.Mathlib.Omega.{arith}
use Rattle.base_text.specs.WroteLaws.{wrote_none}
use Rattle.explain_sentence.proofs.Laws.{wrote_as}
use Rattle.explain_sentence.proofs.SentenceLaws.{sentence_zero, sentence_none}
use Rattle.explain_sentence.proofs.put_sentence.Goals as goal

pub returns-then-r-eq0 : goal.returns-then-r-eq0
returns-then-r-eq0 c =
    let a = c.args in
    (wrote_as (sentence_zero a.r c.if-r-eq0.true) (wrote_none a.out.now a.at), omega arith)

pub returns : goal.returns
returns c =
    let a = c.args in
    (wrote_as (sentence_none a.r (sym c.is_known.ensures ∙ c.if-is_known.false)) (wrote_none a.out.now a.at), omega arith)
