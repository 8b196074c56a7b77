use native.Mathlib.Omega.{arith}
use Rattle.m68k_facts.specs.Laws.{places_law, encode_most}
use Rattle.encode_answers.proofs.put_built.Goals as goal

pub put_result-requires : goal.put_result-requires
put_result-requires c =
    let i = c.in-Instruction.i in
    let a = c.args.address in
    rw c.encode.ensures (omega arith, omega (arith, encode_most i a), omega (arith, encode_most i a, places_law i a))
