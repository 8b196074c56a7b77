use Rattle.std.proofs.Common.{arith, length-set, to_z-of_z, w64, rules}
use Rattle.sheet_passes.proofs.Laws.{measuring_end, measuring_room, measuring_stop, measuring_next}
use Rattle.sheet_passes.proofs.sizes.Goals as goal

pub refused_at-passed-requires : goal.refused_at-passed-requires
refused_at-passed-requires c =
    let a = c.args in
    let l = c.loop-next in
    omega (arith, measuring_room a.text.now a.from a.lines a.start a.scratch.now l.invariant.1 c.line_end-e.result c.wrapping_add_u32-address.result c.wrapping_add_u32-address.ensures.value c.judge-j.result (omega arith) c.line_end-e.ensures.0 c.judge-j.ensures)

pub returns-then-m-ne0 : goal.returns-then-m-ne0
returns-then-m-ne0 c =
    let a = c.args in
    let l = c.loop-next in
    measuring_stop a.text.now a.from a.lines a.start a.scratch.now l.invariant.1 c.line_end-e.result c.wrapping_add_u32-address.result c.wrapping_add_u32-address.ensures.value c.judge-j.result (omega arith) c.line_end-e.ensures.0 c.judge-j.ensures c.requires.0 c.if-m-ne0.true c.refused_at-passed.result (rw (to_z-of_z {w = w64} {z = c.judge-j.result.measured.value} (search rules)) at c.refused_at-passed.ensures)

pub bounds-scratch-k : goal.bounds-scratch-k
bounds-scratch-k c =
    let a = c.args in
    let l = c.loop-next in
    omega (arith, measuring_room a.text.now a.from a.lines a.start a.scratch.now l.invariant.1 c.line_end-e.result c.wrapping_add_u32-address.result c.wrapping_add_u32-address.ensures.value c.judge-j.result (omega arith) c.line_end-e.ensures.0 c.judge-j.ensures)

pub loop-next-preserved : goal.loop-next-preserved
loop-next-preserved c =
    let a = c.args in
    let l = c.loop-next in
    let room = measuring_room a.text.now a.from a.lines a.start a.scratch.now l.invariant.1 c.line_end-e.result c.wrapping_add_u32-address.result c.wrapping_add_u32-address.ensures.value c.judge-j.result (omega arith) c.line_end-e.ensures.0 c.judge-j.ensures in
    (simp length-set l.invariant.0, measuring_next a.text.now a.from a.lines a.start a.scratch.now l.invariant.1 c.line_end-e.result c.wrapping_add_u32-address.result c.wrapping_add_u32-address.ensures.value c.judge-j.result (omega arith) c.line_end-e.ensures.0 c.judge-j.ensures c.if-m-ne0.false (omega arith))

pub returns : goal.returns
returns c =
    let a = c.args in
    let l = c.loop-next in
    measuring_end a.text.now a.from a.lines a.start a.scratch.now l.invariant.1 c.requires.0 (omega arith) c.in_order-passed.result c.in_order-passed.ensures
