use mathlib.Core.Path.{refl}
use Rattle.srecord_line.specs.Line.{no_line}
use Rattle.srecord_line.proofs.no_line.Goals as goal

pub returns : goal.returns
unfolding no_line
returns c = refl
