use mathlib.Core.Path.{◌≡◌, sym, ◌∙◌}
use Rattle.isa_facts.specs.Mode.{column_bit}
use Rattle.encode_spec.specs.Ea.{mode_of, permits}
use Rattle.isa_operands.proofs.permitted.Goals as goal

pub returns : goal.returns
unfolding permits
returns c =
    let a = c.args in
    let e : c.number.result ≡ mode_of a.operand = c.number.ensures.0 ∙ c.mode_of.ensures.0 in
    rw e (sym (column_bit a.allowed (mode_of a.operand) (rw e at c.number.ensures.1)))
