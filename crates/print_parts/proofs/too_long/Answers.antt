use mathlib.Core.Path.{refl}
use Rattle.base_spec.specs.Written.{decimal_of}
use Rattle.print_spec.specs.Printed.{line_refusal}
use Rattle.print_parts.proofs.too_long.Goals as goal

pub returns : goal.returns
unfolding line_refusal decimal_of
returns c = refl
