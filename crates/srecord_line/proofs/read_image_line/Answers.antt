use mathlib.Core.Path.{◌∙◌}
use Rattle.srecord_line.specs.LineLaws.{line_empty, line_unended, line_ended}
use Rattle.srecord_line.proofs.read_image_line.Goals as goal

pub returns-then-n-eq0 : goal.returns-then-n-eq0
returns-then-n-eq0 c =
    let a = c.args in
    let r = line_empty a.line.now a.words.now c.if-n-eq0.true in
    (c.no_line.ensures ∙ r.0, r.1)

pub returns-then-line-n-ne10 : goal.returns-then-line-n-ne10
returns-then-line-n-ne10 c =
    let a = c.args in
    let r = line_unended a.line.now a.words.now c.if-n-eq0.false c.if-line-n-ne10.true in
    (c.no_line-then-line-n-ne10.ensures ∙ r.0, r.1)

pub returns : goal.returns
returns c =
    let a = c.args in
    let r = line_ended a.line.now a.words.now c.if-n-eq0.false c.if-line-n-ne10.false in
    let body = c.read_body.ensures in
    (body.0 ∙ r.0, body.1 ∙ r.1)
