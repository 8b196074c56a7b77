use Rattle.std.proofs.Common.{◌∙◌}
use Rattle.sheet_passes.proofs.Laws.{judged_labelled, judged-unlabelled}
use Rattle.sheet_passes.proofs.judge.Goals as goal

pub returns-then-made : goal.returns-then-made
returns-then-made c =
    let a = c.args in
    let m = c.read_line-made in
    judged_labelled a.lines a.line.now m.ensures a.address c.sized_as-measured.result c.sized_as-measured.ensures c.if-made.true

pub returns : goal.returns
returns c =
    let a = c.args in
    let m = c.read_line-made in
    c.judge_unlabelled.ensures ∙ judged-unlabelled a.lines a.line.now m.ensures a.address c.if-made.false
