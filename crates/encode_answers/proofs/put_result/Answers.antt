use native.Mathlib.Omega.{arith}
use Rattle.print_spec.specs.EncodeAnswer.{result_text}
use Rattle.base_text.specs.WroteLaws.{wrote, wrote_then}
use Rattle.encode_answers.proofs.put_result.Goals as goal

pub returns : goal.returns
unfolding result_text
returns c =
    let words = c.put_encoded-next.ensures.0 in
    let arrow = wrote c.put-next.ensures in
    let size = c.put_measured-next.ensures.0 in
    let end = wrote c.put_byte.ensures in
    (wrote_then (wrote_then (wrote_then words arrow (omega arith)) size (omega arith)) end (omega arith), omega arith)
