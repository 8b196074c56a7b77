use native.Mathlib.Omega.{arith}
use Rattle.base_text.specs.WroteLaws.{wrote, wrote_then}
use Rattle.print_parts.specs.WordsLaws.{words_next}
use Rattle.print_parts.proofs.put_words.Goals as goal

pub loop-i-preserved : goal.loop-i-preserved
loop-i-preserved c =
    let l = c.loop-i in
    let a = c.args in
    let word = wrote_then (wrote c.put_byte-next.ensures) (wrote c.put_hex4-next.ensures) (omega arith) in
    (omega arith, omega arith, omega arith, rw (words_next a.words.now l.i (omega arith)) (wrote_then l.invariant.3 word (omega arith)))
