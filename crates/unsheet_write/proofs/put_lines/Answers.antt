use native.Mathlib.Omega.{arith}
use Rattle.unsheet_line.specs.Table.{lands_in}
use Rattle.unsheet_write.specs.WritingLaws.{writing, writing_long, writing_stop, writing_next}
use Rattle.unsheet_write.proofs.put_lines.Goals as goal

pub loop-place-init : goal.loop-place-init
loop-place-init c = let a = c.args in writing a.start a.image.now (lands_in a.start a.lines.now) a.out.now a.from c.requires.1

pub returns-then-at-gt65536 : goal.returns-then-at-gt65536
returns-then-at-gt65536 c = writing_long _ _ _ _ _ c.loop-place.invariant c.if-at-gt65536.true

pub returns-then-l-ne0 : goal.returns-then-l-ne0
returns-then-l-ne0 c = writing_stop _ _ _ _ _ c.loop-place.invariant c.loop-place-test.true (omega arith) c.read_at-reading.ensures c.put_reading-at.ensures.0 c.put_reading-at.ensures.1 c.requires.2 (omega arith) c.taken_by-l.ensures c.if-l-ne0.true

pub loop-place-smaller : goal.loop-place-smaller
loop-place-smaller c = let n = writing_next _ _ _ _ _ c.loop-place.invariant c.loop-place-test.true (omega arith) c.read_at-reading.ensures c.put_reading-at.ensures.0 c.put_reading-at.ensures.1 c.requires.2 (omega arith) c.taken_by-l.ensures c.if-l-ne0.false in omega (arith, n.1, n.0.there)

pub loop-place-preserved : goal.loop-place-preserved
loop-place-preserved c = let n = writing_next _ _ _ _ _ c.loop-place.invariant c.loop-place-test.true (omega arith) c.read_at-reading.ensures c.put_reading-at.ensures.0 c.put_reading-at.ensures.1 c.requires.2 (omega arith) c.taken_by-l.ensures c.if-l-ne0.false in n.0
