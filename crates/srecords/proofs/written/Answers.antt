use native.Mathlib.Omega.{arith}
use borrow.Author.Tests.{not-true, not-false}
use lib.ListN.{length-take}
use Rattle.srecord_line.specs.LineRead.{lined, unlined}
use Rattle.list_program.specs.AnsweredLaws.{answered, unanswered}
use Rattle.srecords.proofs.written.Goals as goal

pub slice_bounds-print_written-end : goal.slice_bounds-print_written-end
slice_bounds-print_written-end c =
    let r = c.read_image_line-l in
    let a = c.args in
    (lined a.line.now a.image.now _ r.result r.ensures.0 r.ensures.1 (not-false _ c.if-not-l.false)).room

pub slice_bounds-print_written-end-2 : goal.slice_bounds-print_written-end-2
slice_bounds-print_written-end-2 c =
    let r = c.read_image_line-l in
    let a = c.args in
    let l = lined a.line.now a.image.now _ r.result r.ensures.0 r.ensures.1 (not-false _ c.if-not-l.false) in
    rw length-take (omega (arith, l.room))

pub returns-then-not-l-clause-answered : goal.returns-then-not-l-clause-answered
returns-then-not-l-clause-answered c =
    let r = c.read_image_line-l in
    let a = c.args in
    unanswered _ (unlined a.line.now a.image.now _ r.result r.ensures.0 r.ensures.1 (not-true _ c.if-not-l.true))

pub returns-clause-answered : goal.returns-clause-answered
returns-clause-answered c =
    let r = c.read_image_line-l in
    let a = c.args in
    let l = lined a.line.now a.image.now _ r.result r.ensures.0 r.ensures.1 (not-false _ c.if-not-l.false) in
    let p = c.print_written in
    let w = rw (l.start, l.image) at p.ensures.0 in
    answered _ p.result l.yes w.count w.buffer p.ensures.1
