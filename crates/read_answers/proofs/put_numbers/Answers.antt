use Rattle.std.specs.Prelude.{length}
use Rattle.std.proofs.Common.{arith}
use Rattle.std.proofs.Math.Seq.{take-length}
use Rattle.base_text.specs.WroteLaws.{wrote_then}
use Rattle.read_answers.specs.AnswerLaws.{literals_next}
use Rattle.read_answers.proofs.put_numbers.Goals as goal

pub loop-number-preserved : goal.loop-number-preserved
loop-number-preserved c =
    let l = c.loop-number in
    let number = c.put_number-next.ensures in
    (omega arith, omega arith, rw (literals_next c.args.numbers.now l.number-index (omega arith)) (wrote_then l.invariant.2 number.0 (omega arith)))
