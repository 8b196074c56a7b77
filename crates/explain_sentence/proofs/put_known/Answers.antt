use native.Mathlib.Omega.{arith}
use Rattle.base_text.specs.WroteLaws.{wrote, wrote_then}
use Rattle.explain_sentence.proofs.Laws.{wrote_as}
use Rattle.explain_sentence.proofs.SentenceLaws.{sentence_known}
use Rattle.explain_sentence.proofs.put_known.Goals as goal

pub returns : goal.returns
returns c =
    let place = c.put_where-next.ensures in
    let wrong = c.put_wrong-next.ensures in
    let detail = c.put_detail-next.ensures in
    let w = wrote_then (wrote_then (wrote_then place.0 wrong.0 (omega arith)) detail.0 (omega arith)) (wrote c.put_byte.ensures) (omega arith) in
    (wrote_as (sentence_known c.args.r c.requires.1) w, omega arith)
