use Rattle.std.proofs.Common.{arith, length-drop, length-take}
use Rattle.sheet_passes.specs.Walks.{place_inside, writing_most, writing_room, writing_next}
use Rattle.sheet_passes.proofs.write.Goals as goal

pub bounds-addresses-k : goal.bounds-addresses-k
bounds-addresses-k c =
    let l = c.loop-next in
    let a = c.args in
    let e = c.line_end-end in
    place_inside a.text.now a.from a.addresses.now l.invariant.3.go e.result (omega arith) e.ensures.0

pub put_words-requires : goal.put_words-requires
put_words-requires c =
    let l = c.loop-next in
    let a = c.args in
    let e = c.line_end-end in
    let r = c.encoded-e in
    let room = writing_room a.text.now a.from a.addresses.now a.image.now l.invariant.3 e.result (omega arith) e.ensures.0 r.result r.ensures c.requires.1 in
    (writing_most a.text.now a.from a.addresses.now a.image.now l.invariant.3 e.result (omega arith) e.ensures.0 r.result r.ensures, simp (length-take, length-drop) (omega arith))

pub overflow_add-at : goal.overflow_add-at
overflow_add-at c =
    let l = c.loop-next in
    let a = c.args in
    let e = c.line_end-end in
    let r = c.encoded-e in
    omega (arith, c.well_formed, writing_room a.text.now a.from a.addresses.now a.image.now l.invariant.3 e.result (omega arith) e.ensures.0 r.result r.ensures c.requires.1)

pub loop-next-preserved : goal.loop-next-preserved
loop-next-preserved c =
    let l = c.loop-next in
    let a = c.args in
    let e = c.line_end-end in
    let r = c.encoded-e in
    let pre = c.requires.1 in
    let room = writing_room a.text.now a.from a.addresses.now a.image.now l.invariant.3 e.result (omega arith) e.ensures.0 r.result r.ensures pre in
    let inside = place_inside a.text.now a.from a.addresses.now l.invariant.3.go e.result (omega arith) e.ensures.0 in
    (omega arith, omega arith, omega arith, writing_next a.text.now a.from a.addresses.now a.image.now l.invariant.3 e.result (omega arith) e.ensures.0 r.result r.ensures pre c.put_words.new.part c.put_words.ensures)
