use mathlib.Core.Path.{refl}
use Rattle.sheet_line.specs.LineRead.{not_read}
use Rattle.sheet_line.proofs.not_read.Goals as goal

pub returns : goal.returns
unfolding not_read
returns c = record { read = refl; negatives = refl; magnitudes = refl; labels = refl }
