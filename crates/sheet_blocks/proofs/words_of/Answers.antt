use Rattle.sheet_blocks.proofs.Laws.{summing_next}
use Rattle.sheet_blocks.proofs.words_of.Goals as goal

pub loop-left-preserved : goal.loop-left-preserved
loop-left-preserved c =
    let a = c.args in
    (summing_next a.text.now a.from a.count a.lines c.loop-left.invariant c.line_end-e.result c.measure-m.result c.line_end-e.ensures.0 c.measure-m.ensures c.loop-left-test.true).1
