use Rattle.std.proofs.Common.{sym, ◌∙◌}
use Rattle.sheet_field.specs.Place.{long_place}
use Rattle.sheet_field.proofs.long.long_condition.Goals as goal

pub returns-then-equal-7 : goal.returns-then-equal-7
unfolding long_place
returns-then-equal-7 c =
    rw (
      sym c.equal.ensures ∙ c.if-equal.false,
      sym c.equal-else-equal.ensures ∙ c.if-equal-2.false,
      sym c.equal-else-equal-2.ensures ∙ c.if-equal-3.false,
      sym c.equal-else-equal-3.ensures ∙ c.if-equal-4.false,
      sym c.equal-else-equal-4.ensures ∙ c.if-equal-5.false,
      sym c.equal-else-equal-5.ensures ∙ c.if-equal-6.false,
      sym c.equal-else-equal-6.ensures ∙ c.if-equal-7.true,
    )

pub returns-else-equal-7 : goal.returns-else-equal-7
unfolding long_place
returns-else-equal-7 c =
    rw (
      sym c.equal.ensures ∙ c.if-equal.false,
      sym c.equal-else-equal.ensures ∙ c.if-equal-2.false,
      sym c.equal-else-equal-2.ensures ∙ c.if-equal-3.false,
      sym c.equal-else-equal-3.ensures ∙ c.if-equal-4.false,
      sym c.equal-else-equal-4.ensures ∙ c.if-equal-5.false,
      sym c.equal-else-equal-5.ensures ∙ c.if-equal-6.false,
      sym c.equal-else-equal-6.ensures ∙ c.if-equal-7.false,
    )
