use mathlib.Core.Path.{sym, ◌∙◌}
use native.Mathlib.Omega.{arith}
use Rattle.unsheet_line.specs.Table.{lands_in}
use Rattle.unsheet_write.specs.SurveyLaws.{landing, landing_not, landing_stop, landing_next}
use Rattle.unsheet_write.proofs.first_astray.Goals as goal

pub loop-place-init : goal.loop-place-init
loop-place-init c = landing c.args.start c.args.image.now (lands_in c.args.start c.args.lines.now)

pub returns-then-not-lands : goal.returns-then-not-lands
returns-then-not-lands c = landing_not _ _ _ c.loop-place.invariant c.loop-place-test.true c.read_at-reading.ensures (sym c.lands.ensures ∙ c.if-not-lands.true)

pub returns-then-l-ne0 : goal.returns-then-l-ne0
returns-then-l-ne0 c = landing_stop _ _ _ c.loop-place.invariant c.loop-place-test.true c.read_at-reading.ensures (sym c.lands.ensures ∙ c.if-not-lands.false) c.taken_by-l.ensures c.if-l-ne0.true

pub loop-place-smaller : goal.loop-place-smaller
loop-place-smaller c = let n = landing_next _ _ _ c.loop-place.invariant c.loop-place-test.true c.read_at-reading.ensures (sym c.lands.ensures ∙ c.if-not-lands.false) c.taken_by-l.ensures c.if-l-ne0.false in omega (arith, n.1, n.0.there)

pub loop-place-preserved : goal.loop-place-preserved
loop-place-preserved c = let n = landing_next _ _ _ c.loop-place.invariant c.loop-place-test.true c.read_at-reading.ensures (sym c.lands.ensures ∙ c.if-not-lands.false) c.taken_by-l.ensures c.if-l-ne0.false in n.0
