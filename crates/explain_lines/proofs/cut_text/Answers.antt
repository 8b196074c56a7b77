use mathlib.Core.Path.{sym, ap, ◌∙◌}
use Rattle.explain_lines.specs.Cut.{cut_from}
use Rattle.explain_lines.proofs.Laws.{cut_inside, cut_behind, cut_whole}
use Rattle.explain_lines.proofs.cut_text.Goals as goal

pub returns-then-first-eq0 : goal.returns-then-first-eq0
returns-then-first-eq0 c = cut_inside c.args.begun c.args.text.now c.if-begun.true (sym c.first_end-first.ensures.0 ∙ c.if-first-eq0.true)

pub returns-then-begun : goal.returns-then-begun
returns-then-begun c =
    let a = c.args in
    let f = c.first_end-first in
    c.cut_from.ensures ∙ ap (cut_from a.text.now) f.ensures.0 ∙ cut_behind a.begun a.text.now c.if-begun.true (λ e. c.if-first-eq0.false (f.ensures.0 ∙ e))

pub returns : goal.returns
returns c = c.cut_from-2.ensures ∙ cut_whole c.args.begun c.args.text.now c.if-begun.false
