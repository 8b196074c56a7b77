use Rattle.encode_spec.specs.System.{moves_parts}
use Rattle.encode_system.proofs.moves.Goals as goal

pub returns : goal.returns
unfolding moves_parts
returns c =
    let e = rw (c.operation-e.ensures.words, c.number_of_register.ensures, c.ea_field.ensures.0, c.standard_size.ensures.0) at c.in_ok-e.ensures in
    rw (c.effective.ensures, c.word-e.ensures.words, c.to_memory.ensures.0, c.general.ensures.0, ← e)
