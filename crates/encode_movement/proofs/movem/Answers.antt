use Rattle.encode_facts.specs.Columns.{movem_column}
use Rattle.encode_spec.specs.Movement.{movem_parts}
use Rattle.encode_movement.proofs.movem.Goals as goal

pub returns : goal.returns
unfolding movem_parts
returns c =
    let e = rw (c.operation-e.ensures.words, c.is_byte.ensures, c.ea_field.ensures.0, c.long_bit-opmode.ensures.0, c.from_memory.ensures.0) at c.in_ok-e.ensures in
    rw (c.effective.ensures, c.movem_reason.ensures, c.movem_modes.ensures, movem_column c.args.direction, c.word-e.ensures.words, ← e)
