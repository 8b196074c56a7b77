use native.Mathlib.Omega.{arith}
use Rattle.base_text.specs.WroteLaws.{wrote, wrote_then}
use Rattle.values_answers.specs.Asked.{values_text}
use Rattle.values_answers.proofs.put_values.Goals as goal

pub returns : goal.returns
unfolding values_text
returns c = (wrote_then (wrote_then (wrote c.put-next.ensures) c.put_listed-next.ensures.0 (omega arith)) (wrote c.put_byte.ensures) (omega arith), omega arith)
