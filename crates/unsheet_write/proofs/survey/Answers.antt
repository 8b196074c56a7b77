use native.Mathlib.Omega.{arith}
use Rattle.unsheet_write.specs.SurveyLaws.{surveying, surveying_stop, surveying_next}
use Rattle.unsheet_write.proofs.survey.Goals as goal

pub loop-place-init : goal.loop-place-init
loop-place-init c = surveying c.args.start c.args.image.now c.args.lines.now

pub returns-then-l-ne0 : goal.returns-then-l-ne0
returns-then-l-ne0 c = surveying_stop _ _ _ c.loop-place.invariant c.loop-place-test.true c.read_at.ensures c.taken_by-l.ensures c.if-l-ne0.true

pub loop-place-smaller : goal.loop-place-smaller
loop-place-smaller c = let n = surveying_next _ _ _ c.loop-place.invariant c.loop-place-test.true c.read_at.ensures c.taken_by-l.ensures c.if-l-ne0.false c.store.ensures in omega (arith, n.1, n.0.there)

pub loop-place-preserved : goal.loop-place-preserved
loop-place-preserved c = let n = surveying_next _ _ _ c.loop-place.invariant c.loop-place-test.true c.read_at.ensures c.taken_by-l.ensures c.if-l-ne0.false c.store.ensures in n.0
