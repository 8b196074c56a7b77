use lib.ListN.{length}
use Rattle.sheet_spec.specs.Translate.{sparse}
use Rattle.sheet_translate.specs.Stages.{refused-opening}
use Rattle.sheet_sparse.proofs.Laws.{opening-number}
use Rattle.sheet_sparse.proofs.translate_sparse.Goals as goal

pub returns-then-number-ne0 : goal.returns-then-number-ne0
returns-then-number-ne0 c =
    let a = c.args in
    let k = c.opening-number in
    let r = c.refuse in
    refused-opening sparse a.text.now a.image.now a.scratch.now k.result (opening-number a.text.now (length a.scratch.now) c.lines_served.result c.lines_served.ensures k.result k.ensures) c.if-number-ne0.true r.new.scratch r.result r.ensures.0 r.ensures.1
