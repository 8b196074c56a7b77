use mathlib.Core.Path.{refl}
use Rattle.base_text.specs.Numbers.{no_numbers}
use Rattle.base_text.proofs.no_numbers.Goals as goal

pub returns : goal.returns
unfolding no_numbers
returns c = refl
