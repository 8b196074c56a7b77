use Rattle.std.proofs.Common.{length, arith, to_z-of_z, w64, rules}
use Rattle.sheet_blocks.proofs.Laws.{blocking_room, blocking_inside, blocking_stop, blocking_next, kept}
use Rattle.sheet_blocks.proofs.sizes.Goals as goal

pub refused_at-requires : goal.refused_at-requires
refused_at-requires c =
    let a = c.args in
    let l = c.loop-next in
    omega (arith, blocking_inside a.text.now a.from a.lines a.places.now l.invariant.1 c.line_end-e.result c.measure-m.result (omega arith) c.line_end-e.ensures.0 c.measure-m.ensures)

pub returns-then-m-ne0 : goal.returns-then-m-ne0
returns-then-m-ne0 c =
    let a = c.args in
    let l = c.loop-next in
    blocking_stop a.text.now a.from a.lines a.places.now l.invariant.1 c.line_end-e.result c.measure-m.result (omega arith) c.line_end-e.ensures.0 c.measure-m.ensures c.requires.1 c.if-m-ne0.true c.refused_at.result
    (rw (to_z-of_z {w = w64} {z = c.measure-m.result.value} (search rules)) at c.refused_at.ensures)

pub put_block-requires : goal.put_block-requires
put_block-requires c =
    let a = c.args in
    let l = c.loop-next in
    (omega arith, omega (arith, l.invariant.1.go.few, blocking_inside a.text.now a.from a.lines a.places.now l.invariant.1 c.line_end-e.result c.measure-m.result (omega arith) c.line_end-e.ensures.0 c.measure-m.ensures), omega (arith, blocking_room a.text.now a.from a.lines a.places.now l.invariant.1 c.line_end-e.result c.measure-m.result (omega arith) c.line_end-e.ensures.0 c.measure-m.ensures c.requires.3))

pub loop-next-preserved : goal.loop-next-preserved
loop-next-preserved c =
    let a = c.args in
    let l = c.loop-next in
    let p = c.put_block in
    (kept l.k l.next l.words l.places p.new.places (length a.places.now) p.ensures l.invariant.0, blocking_next a.text.now a.from a.lines a.places.now l.invariant.1 c.line_end-e.result c.measure-m.result (omega arith) c.line_end-e.ensures.0 c.measure-m.ensures c.if-m-ne0.false c.requires.3 p.new.places p.ensures)
