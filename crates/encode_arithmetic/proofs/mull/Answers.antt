use Rattle.encode_spec.specs.Arithmetic.{mull_parts}
use Rattle.encode_arithmetic.proofs.mull.Goals as goal

pub returns : goal.returns
unfolding mull_parts
returns c =
    let high = rw (c.operation-e.ensures.words, c.high_number.ensures, c.ea_field.ensures.0) at c.in_ok-e.ensures in
    rw (c.effective.ensures, c.word-e.ensures.words, c.high_bits.ensures.0, c.signed_bit.ensures.0, ← high, ← c.in_ok-e-2.ensures)
