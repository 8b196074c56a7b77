use Rattle.sheet_translate.proofs.Laws.{placed, settled_lines, range_refused, words_fit, laid_down}
use Rattle.sheet_translate.proofs.lay_down.Goals as goal

pub ranges-p-requires : goal.ranges-p-requires
ranges-p-requires c = (placed c.requires, settled_lines c.requires)

pub returns-then-p-ne0 : goal.returns-then-p-ne0
returns-then-p-ne0 c =
    let p = c.ranges-p in
    let r = c.refuse_pass in
    range_refused c.requires p.result p.ensures c.if-p-ne0.true r.new.scratch r.result r.ensures.0 r.ensures.1

pub write-requires : goal.write-requires
write-requires c =
    let z = c.requires in
    let p = c.ranges-p in
    (placed z, words_fit z p.result p.ensures c.if-p-ne0.false)

pub returns : goal.returns
returns c =
    let p = c.ranges-p in
    let w = c.write in
    laid_down c.requires p.result p.ensures c.if-p-ne0.false w.new.image w.ensures.1
