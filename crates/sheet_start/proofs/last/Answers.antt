use mathlib.Core.Path.{sym}
use Rattle.sheet_start.proofs.Laws.{last_some}
use Rattle.sheet_start.proofs.last.Goals as goal

pub returns : goal.returns
returns c = sym (last_some c.args.text.now c.if-text-eq0.false)
