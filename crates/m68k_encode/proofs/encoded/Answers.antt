use native.Mathlib.Omega.{arith}
use mathlib.Core.Path.{◌≡◌}
use Rattle.encode_spec.specs.Encode.{encoded_as, refusal_of, words_of}
use Rattle.encode_spec.specs.Instruction.{parts_of}
use Rattle.encode_state.specs.Laws.{view}
use Rattle.m68k_facts.specs.Laws.{few, count_most}
use Rattle.m68k_encode.proofs.encoded.Goals as goal

pub returns : goal.returns
returns c =
    let a = c.args in
    let e : c.finish.result ≡ encoded_as (refusal_of a.check a.instruction a.address) (words_of a.instruction a.address) =
    rw (c.finish.ensures, c.instruction_words.ensures, c.begin.ensures)
    (view (parts_of a.instruction) a.address a.check (omega arith) (few a.instruction a.address)) in
    (e, rw e (count_most (refusal_of a.check a.instruction a.address) a.instruction a.address))
