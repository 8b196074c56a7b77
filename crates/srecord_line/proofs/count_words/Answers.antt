use mathlib.Core.Path.{sym}
use Prim.Native.Nat.{◌-◌}
use native.Mathlib.Omega.{arith}
use lib.ListN.{take, drop}
use Rattle.srecord_line.specs.LineLaws.{counting_on, counting_not, is_word, no_word}
use Rattle.srecord_line.proofs.count_words.Goals as goal

pub returns-then-read_word-gt65535 : goal.returns-then-read_word-gt65535
returns-then-read_word-gt65535 c =
    let a = c.args in
    let e = c.field_end-e in
    let n = counting_not a.body.now a.from e.result c.loop-at.invariant.1 (omega arith) e.ensures.0 (no_word (take (e.result - c.loop-at.at) (drop c.loop-at.at a.body.now)) (rw (sym c.read_word.ensures.0) c.if-read_word-gt65535.true)) in
    record { all = sym n; many = rw n }

pub loop-at-preserved : goal.loop-at-preserved
loop-at-preserved c =
    let a = c.args in
    let e = c.field_end-e in (
      omega arith,
      counting_on a.body.now a.from e.result c.loop-at.invariant.1 (omega arith) e.ensures.0 (is_word (take (e.result - c.loop-at.at) (drop c.loop-at.at a.body.now)) (rw (sym c.read_word.ensures.0) (omega (arith, c.if-read_word-gt65535.false)))),
    )
