use mathlib.Core.Path.{refl}
use Rattle.sheet_line.specs.LineMade.{not_made}
use Rattle.sheet_line.proofs.not_made.Goals as goal

pub returns : goal.returns
unfolding not_made
returns c = refl
