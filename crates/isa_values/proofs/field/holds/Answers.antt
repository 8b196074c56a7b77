use borrow.Author.Rules.{rules}
use mir.Facts.{to_z-of_z}
use mir.Syntax.{w64}
use Rattle.isa_spec.specs.Field.{holds}
use Rattle.isa_values.proofs.field.holds.Goals as goal

pub returns : goal.returns
unfolding holds
returns c =
    rw (
      to_z-of_z {w = w64} {z = c.range-ends.result.low} (search rules),
      to_z-of_z {w = w64} {z = c.range-ends.result.high} (search rules),
    )
    (simp (
      to_z-of_z {w = w64} c.ranges.value,
      c.excludes.ensures,
      c.also_holds-also.ensures,
      c.range-ends.ensures.ends.0,
      c.range-ends.ensures.ends.1,
    ))
