use native.Mathlib.Omega.{arith}
use Rattle.base_text.specs.WroteLaws.{wrote, wrote_then}
use Rattle.encode_answers.specs.AnswerLaws.{words_next}
use Rattle.encode_answers.proofs.put_words.Goals as goal

pub loop-i-preserved : goal.loop-i-preserved
loop-i-preserved c =
    let l = c.loop-i in
    let a = c.args in
    let word = wrote_then (wrote c.put_hex4-next.ensures) (wrote c.put_byte-next.ensures) (omega arith) in
    (omega arith, omega arith, omega arith, rw (words_next a.words l.i (omega arith)) (wrote_then l.invariant.3 word (omega arith)))
