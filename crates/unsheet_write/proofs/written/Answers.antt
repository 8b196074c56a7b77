use native.Mathlib.Omega.{arith}
use Rattle.unsheet_spec.specs.Lines.{lines_in}
use Rattle.unsheet_line.specs.Table.{lands_in}
use Rattle.unsheet_write.specs.Answers.{too_long, too_few, in_full}
use Rattle.unsheet_write.proofs.written.Goals as goal

pub returns-then-n-gt65536 : goal.returns-then-n-gt65536
returns-then-n-gt65536 c = (let a = c.args in too_long (lands_in a.start a.lines.now) a.start (lines_in a.start a.image.now) a.count a.text.now c.put_start-from.ensures.0 c.put_lines-n.ensures.0 (omega (arith, c.put_lines-n.ensures.1, c.text_places-out.ensures.1)) c.if-n-gt65536.true c.refusal.ensures)

pub returns-then-text-n : goal.returns-then-text-n
returns-then-text-n c = (let a = c.args in too_few (lands_in a.start a.lines.now) a.start (lines_in a.start a.image.now) a.count a.text.now c.put_start-from.ensures.0 c.put_lines-n.ensures.0 (omega (arith, c.put_lines-n.ensures.1, c.text_places-out.ensures.1)) c.if-n-gt65536.false c.if-text-n.true c.refusal-then-text-n.ensures)

pub returns : goal.returns
returns c = (let a = c.args in in_full (lands_in a.start a.lines.now) a.start (lines_in a.start a.image.now) a.count a.text.now c.put_start-from.ensures.0 c.put_lines-n.ensures.0 (omega (arith, c.put_lines-n.ensures.1, c.text_places-out.ensures.1)) c.if-n-gt65536.false c.if-text-n.false c.put.ensures.1)
