use Rattle.std.proofs.Common.{arith, length-drop, length-take}
use Rattle.sheet_blocks.proofs.Laws.{few_words, writes-most, writes-room, writes_next}
use Rattle.sheet_blocks.proofs.write.Goals as goal

pub put_words-requires : goal.put_words-requires
put_words-requires c =
    let a = c.args in
    let l = c.loop-next in
    let z = c.requires in
    let room = writes-room a.text.now a.from z.0 a.image.now l.invariant.3 c.line_end-end.result (omega arith) c.line_end-end.ensures.0 c.wrapping_add_u32-address.result c.wrapping_add_u32-address.ensures.value c.encoded-e.result c.encoded-e.ensures z.2 in
    (writes-most a.text.now a.from z.0 a.image.now l.invariant.3 c.line_end-end.result (omega arith) c.line_end-end.ensures.0 c.wrapping_add_u32-address.result c.wrapping_add_u32-address.ensures.value c.encoded-e.result c.encoded-e.ensures, simp (length-take, length-drop) (omega arith))

pub overflow_add-at : goal.overflow_add-at
overflow_add-at c =
    let a = c.args in
    let l = c.loop-next in
    let z = c.requires in
    omega (arith, l.invariant.0, writes-most a.text.now a.from z.0 a.image.now l.invariant.3 c.line_end-end.result (omega arith) c.line_end-end.ensures.0 c.wrapping_add_u32-address.result c.wrapping_add_u32-address.ensures.value c.encoded-e.result c.encoded-e.ensures)

pub loop-next-preserved : goal.loop-next-preserved
loop-next-preserved c =
    let a = c.args in
    let l = c.loop-next in
    let z = c.requires in
    let room = writes-room a.text.now a.from z.0 a.image.now l.invariant.3 c.line_end-end.result (omega arith) c.line_end-end.ensures.0 c.wrapping_add_u32-address.result c.wrapping_add_u32-address.ensures.value c.encoded-e.result c.encoded-e.ensures z.2 in
    let n = writes_next a.text.now a.from z.0 a.image.now l.invariant.3 c.line_end-end.result (omega arith) c.line_end-end.ensures.0 c.wrapping_add_u32-address.result c.wrapping_add_u32-address.ensures.value c.encoded-e.result c.encoded-e.ensures z.2 c.put_words.new.part c.put_words.ensures in
    (few_words a.text.now a.from z.0 n.there, omega arith, omega arith, n)
