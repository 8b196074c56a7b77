use Rattle.std.proofs.Common.{arith, to_z-of_z, w64, rules}
use Rattle.sheet_blocks.proofs.Laws.{few_words, line_inside, ranging_stop, ranging_next}
use Rattle.sheet_blocks.proofs.ranges.Goals as goal

pub refused_at-requires : goal.refused_at-requires
refused_at-requires c =
    let a = c.args in
    let l = c.loop-next in
    let z = c.requires in
    omega (arith, z.blocks.few, z.blocks.counted, line_inside a.text.now a.from z l.invariant.1.at c.line_end-end.result (omega arith) c.line_end-end.ensures.0)

pub returns-then-e-ne0 : goal.returns-then-e-ne0
returns-then-e-ne0 c =
    let a = c.args in
    let l = c.loop-next in
    ranging_stop a.text.now a.from c.requires l.invariant.1 c.line_end-end.result (omega arith) c.line_end-end.ensures.0 c.wrapping_add_u32-address.result c.wrapping_add_u32-address.ensures.value c.encoded-e.result c.encoded-e.ensures c.if-e-ne0.true c.refused_at.result
    (rw (to_z-of_z {w = w64} {z = c.encoded-e.result.value} (search rules)) at c.refused_at.ensures)

pub overflow_add-words : goal.overflow_add-words
overflow_add-words c =
    let a = c.args in
    let l = c.loop-next in
    omega (arith, l.invariant.0, (ranging_next a.text.now a.from c.requires l.invariant.1 c.line_end-end.result (omega arith) c.line_end-end.ensures.0 c.wrapping_add_u32-address.result c.wrapping_add_u32-address.ensures.value c.encoded-e.result c.encoded-e.ensures c.if-e-ne0.false).0)

pub loop-next-preserved : goal.loop-next-preserved
loop-next-preserved c =
    let a = c.args in
    let l = c.loop-next in
    let n = ranging_next a.text.now a.from c.requires l.invariant.1 c.line_end-end.result (omega arith) c.line_end-end.ensures.0 c.wrapping_add_u32-address.result c.wrapping_add_u32-address.ensures.value c.encoded-e.result c.encoded-e.ensures c.if-e-ne0.false in
    (few_words a.text.now a.from c.requires n.1.at, n.1)
