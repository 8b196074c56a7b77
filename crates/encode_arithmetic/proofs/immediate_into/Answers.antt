use Rattle.encode_facts.specs.Columns.{immediate_column}
use Rattle.encode_spec.specs.Arithmetic.{immediate_parts}
use Rattle.encode_arithmetic.proofs.immediate_into.Goals as goal

pub returns : goal.returns
unfolding immediate_parts
returns c =
    let e = rw (c.operation-e.ensures.words, c.ea_field.ensures.0, c.standard_size.ensures.0, c.immediate_kind.ensures.0) at c.in_ok-e.ensures in
    rw (c.effective.ensures, c.immediate_reason.ensures, c.immediate_modes.ensures, immediate_column c.args.operation, ← e)
