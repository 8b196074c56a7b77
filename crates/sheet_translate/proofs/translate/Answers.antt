use Rattle.sheet_spec.specs.Translate.{full}
use Rattle.sheet_translate.specs.Stages.{refused-opening}
use Rattle.sheet_translate.proofs.translate.Goals as goal

pub returns-then-number-ne0 : goal.returns-then-number-ne0
returns-then-number-ne0 c =
    let a = c.args in
    let k = c.opening-number in
    let r = c.refuse in
    refused-opening full a.text.now a.image.now a.scratch.now k.result k.ensures c.if-number-ne0.true r.new.scratch r.result r.ensures.0 r.ensures.1
