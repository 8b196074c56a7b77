use Rattle.std.proofs.Common.{arith}
use Rattle.numeric_form.specs.Numbers.{literals_held}
use Rattle.read_answers.specs.AnswerLaws.{put_text_lem}
use Rattle.read_answers.proofs.put_instruction.Goals as goal

pub returns : goal.returns
unfolding literals_held
returns c =
    let ns = c.write_numbers in
    rw (put_text_lem c.args.instruction ns.new.numbers c.args.bytes ns.ensures.value) at c.put_read.ensures
