use mathlib.Core.Path.{refl}
use Rattle.base_spec.specs.Refused.{refused_text}
use Rattle.base_spec.specs.Written.{decimal_of}
use Rattle.base_text.proofs.too_long.Goals as goal

pub returns : goal.returns
unfolding refused_text decimal_of
returns c = refl
