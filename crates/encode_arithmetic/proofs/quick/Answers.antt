use borrow.Author.Rules.{rules}
use mir.Facts.{to_z_pos}
use mir.Syntax.{w64}
use Rattle.encode_spec.specs.Arithmetic.{quick_parts}
use Rattle.encode_spec.specs.Ea.{single}
use Rattle.encode_arithmetic.proofs.quick.Goals as goal

pub returns : goal.returns
unfolding quick_parts single
returns c =
    let count = rw (to_z_pos w64 {n = c.args.count} (search rules)) at c.in_ok-e.ensures in
    let allowed = rw c.byte_of_address.ensures at c.in_ok-e-2.ensures in
    rw (c.single.ensures, c.standard_size.ensures.0, c.quick_bit.ensures.0, ← count, ← allowed)
