use native.Mathlib.Omega.{arith}
use lib.ListN.{length-take}
use Rattle.sheet_sparse_print.specs.CountedLaws.{room, printing_next}
use Rattle.sheet_sparse_print.proofs.put_lines.Goals as goal

pub overflow_add-address : goal.overflow_add-address
overflow_add-address c =
    let a = c.args in
    let l = c.loop-next in
    let e = c.line_end-e in
    let m = c.measure-m in
    let r = room a.text.now a.from a.lines a.start a.words.now a.out.now c.requires.1 l.invariant e.result m.result (omega arith) e.ensures.0 m.ensures in
    omega (arith, r.address)

pub put_line-at-requires : goal.put_line-at-requires
put_line-at-requires c =
    let a = c.args in
    let l = c.loop-next in
    let e = c.line_end-e in
    let m = c.measure-m in
    let r = room a.text.now a.from a.lines a.start a.words.now a.out.now c.requires.1 l.invariant e.result m.result (omega arith) e.ensures.0 m.ensures in
    (r.places c.requires.0, omega (arith, r.line, c.requires.1.few), rw length-take (omega (arith, r.few)))

pub loop-next-preserved : goal.loop-next-preserved
loop-next-preserved c =
    let a = c.args in
    let l = c.loop-next in
    let e = c.line_end-e in
    let m = c.measure-m in
    let r = room a.text.now a.from a.lines a.start a.words.now a.out.now c.requires.1 l.invariant e.result m.result (omega arith) e.ensures.0 m.ensures in
    let w = c.put_line-at.ensures in
    printing_next a.text.now a.from a.lines a.start a.words.now a.out.now c.requires.1 l.invariant e.result m.result (omega arith) e.ensures.0 m.ensures (omega arith) (omega (arith, r.places c.requires.0, l.invariant.kept)) w

pub slice_bounds-put_line-end : goal.slice_bounds-put_line-end
slice_bounds-put_line-end c =
    let a = c.args in
    let l = c.loop-next in
    let e = c.line_end-e in
    let m = c.measure-m in
    let r = room a.text.now a.from a.lines a.start a.words.now a.out.now c.requires.1 l.invariant e.result m.result (omega arith) e.ensures.0 m.ensures in
    omega (arith, r.words_there)
