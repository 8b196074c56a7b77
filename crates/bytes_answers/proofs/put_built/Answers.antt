use Rattle.bytes_answers.specs.BytesLaws.{counted_length, lent_first}
use native.Mathlib.Omega.{arith}
use Rattle.bytes_answers.proofs.put_built.Goals as goal

pub returns-in-Instruction : goal.returns-in-Instruction
returns-in-Instruction c =
    let n = c.args.n in
    let lent = c.lent_bytes-lent in
    let w = rw (lent_first lent.result n lent.ensures (omega arith), counted_length 160 n) at c.put_called.ensures in
    rw c.in-Instruction.is w
