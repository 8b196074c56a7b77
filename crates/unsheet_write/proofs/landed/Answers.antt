use Rattle.unsheet_line.specs.Table.{lands_in}
use Rattle.unsheet_write.specs.Answers.{is-astray, none-astray}
use Rattle.unsheet_write.proofs.landed.Goals as goal

pub returns-then-place-image : goal.returns-then-place-image
returns-then-place-image c = let a = c.args in is-astray (lands_in a.start a.lines.now) a.start a.image.now a.text.now a.count c.first_astray-place.ensures.0 c.if-place-image.true c.refusal.ensures

pub returns : goal.returns
returns c = let a = c.args in none-astray (lands_in a.start a.lines.now) a.start a.image.now a.text.now a.count c.first_astray-place.ensures.0 c.if-place-image.false c.written.ensures
