use native.Mathlib.Omega.{arith}
use Rattle.base_text.specs.WroteLaws.{wrote, wrote_then}
use Rattle.print_spec.specs.BytesAnswer.{bytes_text}
use Rattle.bytes_answers.proofs.put_returned.Goals as goal

pub returns : goal.returns
unfolding bytes_text
returns c = (wrote_then (wrote_then (wrote_then c.put_measured-next.ensures.0 (wrote c.put-next.ensures) (omega arith)) c.put_lent-next.ensures.0 (omega arith)) (wrote c.put_byte.ensures) (omega arith), omega arith)
