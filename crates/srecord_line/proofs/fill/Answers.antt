use Prim.Native.Nat.{◌-◌}
use native.Mathlib.Omega.{arith}
use lib.ListN.{take, drop}
use Rattle.srecord_line.specs.LineLaws.{filling_on, field-word, word_or-below}
use Rattle.srecord_line.proofs.fill.Goals as goal

pub overflow_cast-words : goal.overflow_cast-words
overflow_cast-words c =
    let a = c.args in
    let e = c.field_end-e in
    let k = word_or-below (take (e.result - c.loop-at.at) (drop c.loop-at.at a.body.now)) (field-word a.body.now a.from a.words.now c.loop-at.invariant.1 e.result (omega arith) e.ensures.0) in
    omega (arith, k, c.read_word.ensures.0)

pub loop-at-preserved : goal.loop-at-preserved
loop-at-preserved c =
    let a = c.args in
    let e = c.field_end-e in
    (omega arith, filling_on a.body.now a.from a.words.now c.loop-at.invariant.1 e.result (omega arith) e.ensures.0 _ c.read_word.ensures.0)
