use Rattle.encode_spec.specs.Arithmetic.{bounds_parts}
use Rattle.encode_arithmetic.proofs.bounds.Goals as goal

pub returns : goal.returns
unfolding bounds_parts
returns c =
    let e = rw (c.operation-e.ensures.words, c.number_of_register.ensures, c.ea_field.ensures.0, c.standard_size.ensures.0) at c.in_ok-e.ensures in
    rw (c.effective.ensures, c.word-e.ensures.words, c.bit.ensures.0, c.general.ensures.0, ← e)
