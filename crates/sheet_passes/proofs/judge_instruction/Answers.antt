use Rattle.std.proofs.Common.{◌<◌, arith}
use Rattle.m68k_facts.specs.Laws.{encode_most}
use Rattle.sheet_passes.proofs.Laws.{judged_accepted}
use Rattle.sheet_passes.proofs.judge_instruction.Goals as goal

pub overflow_cast-measured : goal.overflow_cast-measured
overflow_cast-measured c =
    let a = c.args in
    let n : c.encode-e.result.count < 12 = rw c.encode-e.ensures (encode_most a.i a.address) in
    omega arith

pub overflow_mul-measured : goal.overflow_mul-measured
overflow_mul-measured c =
    let a = c.args in
    let n : c.encode-e.result.count < 12 = rw c.encode-e.ensures (encode_most a.i a.address) in
    omega arith

pub returns-then-e-eq0 : goal.returns-then-e-eq0
returns-then-e-eq0 c =
    let a = c.args in
    let e = c.encode-e in
    rw e.ensures (judged_accepted a.i a.address (rw e.ensures at c.if-e-eq0.true))
