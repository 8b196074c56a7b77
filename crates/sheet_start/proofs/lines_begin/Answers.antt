use native.Mathlib.Omega.{arith}
use Rattle.sheet_facts.specs.SheetLaws.{start_length}
use Rattle.sheet_start.proofs.lines_begin.Goals as goal

pub returns : goal.returns
returns c = omega (arith, start_length c.args.text.now, c.line_end.ensures.0)
