use native.Mathlib.Omega.{arith}
use mathlib.Core.Path.{refl}
use lib.ListN.{length-take, length-drop}
use Rattle.srecord_read.specs.Words.{data_in}
use Rattle.srecord_facts.specs.Writing.{writing, writing_end}
use Rattle.srecord_read.specs.WordLaws.{fill_room, fill_more, data_start, data_end}
use Rattle.srecord_read.proofs.fill.Goals as goal

pub loop-from-init : goal.loop-from-init
loop-from-init c =
    let a = c.args in
    (omega arith, omega arith, refl, rw (← data_start a.text.now) (writing (data_in a.text.now) a.image.now))

pub put_data-n-requires : goal.put_data-n-requires
put_data-n-requires c =
    let l = c.loop-from in
    let a = c.args in
    let e = c.line_end-e in
    let room = fill_room a.text.now l.invariant.3 e.result (omega arith) e.ensures.0 c.requires in
    simp (length-take, length-drop) (omega arith)

pub loop-from-preserved : goal.loop-from-preserved
loop-from-preserved c =
    let l = c.loop-from in
    let a = c.args in
    let e = c.line_end-e in
    let n = c.put_data-n in
    let room = fill_room a.text.now l.invariant.3 e.result (omega arith) e.ensures.0 c.requires in
    (omega arith, omega (arith, n.ensures.0), omega arith, fill_more a.text.now l.invariant.3 e.result (omega arith) e.ensures.0 c.requires n.result n.ensures.0 n.new.part n.ensures.1)

pub returns : goal.returns
returns c =
    let l = c.loop-from in
    (writing_end l.invariant.3 (data_end c.args.text.now l.from (omega arith))).1
