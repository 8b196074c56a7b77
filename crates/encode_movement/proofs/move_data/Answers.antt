use Rattle.std.proofs.Common.{rules}
use Rattle.encode_spec.specs.Movement.{move_parts}
use Rattle.encode_movement.proofs.move_data.Goals as goal

pub returns-in_err-e-2 : goal.returns-in_err-e-2
unfolding move_parts
returns-in_err-e-2 c =
    let e = rw (c.operation-e.ensures.words, c.byte_of_address.ensures, c.ea_field.ensures.0, c.move_size.ensures.0, c.mode_field-opmode.ensures.0, c.register_field-x.ensures.0) at c.in_ok-e.ensures in
    rw (← e, ← c.effective.ensures) (search rules)

pub returns : goal.returns
unfolding move_parts
returns c =
    let e = rw (c.operation-e.ensures.words, c.byte_of_address.ensures, c.ea_field.ensures.0, c.move_size.ensures.0, c.mode_field-opmode.ensures.0, c.register_field-x.ensures.0) at c.in_ok-e.ensures in
    rw (c.effective-2.ensures, ← e, ← c.in_ok-e-2.ensures)
