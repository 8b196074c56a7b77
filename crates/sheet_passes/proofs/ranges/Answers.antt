use Rattle.std.proofs.Common.{arith, to_z-of_z, w64, rules}
use Rattle.sheet_passes.proofs.Laws.{ranging_stop, ranging_next}
use Rattle.sheet_passes.specs.Walks.{place_inside}
use Rattle.sheet_passes.proofs.ranges.Goals as goal

pub bounds-addresses-k : goal.bounds-addresses-k
bounds-addresses-k c =
    let a = c.args in
    let l = c.loop-next in
    place_inside a.text.now a.from a.addresses.now l.invariant.1.go c.line_end-end.result (omega arith) c.line_end-end.ensures.0

pub refused_at-requires : goal.refused_at-requires
refused_at-requires c =
    let a = c.args in
    let l = c.loop-next in
    omega (arith, place_inside a.text.now a.from a.addresses.now l.invariant.1.go c.line_end-end.result (omega arith) c.line_end-end.ensures.0, c.requires.0.few)

pub returns-then-m-ne0 : goal.returns-then-m-ne0
returns-then-m-ne0 c =
    let a = c.args in
    let l = c.loop-next in
    let m = c.why_refused-m in
    ranging_stop a.text.now a.from a.addresses.now l.invariant.1 c.line_end-end.result (omega arith) c.line_end-end.ensures.0 m.result m.ensures c.if-m-ne0.true c.refused_at.result
    (rw (to_z-of_z {w = w64} {z = m.result.value} (search rules)) at c.refused_at.ensures)

pub loop-next-preserved : goal.loop-next-preserved
loop-next-preserved c =
    let a = c.args in
    let l = c.loop-next in
    let m = c.why_refused-m in
    let inside = place_inside a.text.now a.from a.addresses.now l.invariant.1.go c.line_end-end.result (omega arith) c.line_end-end.ensures.0 in
    (omega arith, ranging_next a.text.now a.from a.addresses.now l.invariant.1 c.line_end-end.result (omega arith) c.line_end-end.ensures.0 m.result m.ensures c.if-m-ne0.false)
