use Rattle.m68000_answers.specs.AnswerLaws.{answer_yes, answer_no}
use Rattle.read_answers.specs.AnswerLaws.{run_room}
use native.Mathlib.Omega.{arith}
use Rattle.m68000_answers.proofs.answer.Goals as goal

pub put_run-requires : goal.put_run-requires
put_run-requires c =
    let r = c.read_run-run in
    let room = run_room c.args.line.now r.result r.ensures in
    (omega arith, room.0, room.1)

pub returns-then-run : goal.returns-then-run
returns-then-run c =
    let line = c.args.line.now in
    let n = c.read_run-run in
    let r = c.put_run.ensures in
    rw (answer_yes line n.result n.ensures c.if-run.true) (r.0.next, r.0.image, omega arith)

pub returns-else-run : goal.returns-else-run
returns-else-run c =
    let line = c.args.line.now in
    let n = c.read_run-run in
    let r = c.put_not_in_form.ensures in
    rw (answer_no line n.result n.ensures c.if-run.false) (r.0.next, r.0.image, omega arith)
