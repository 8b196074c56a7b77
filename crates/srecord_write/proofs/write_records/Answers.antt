use native.Mathlib.Omega.{arith}
use Rattle.srecord_write.specs.WrittenLaws.{past_end, too_short, in_full}
use Rattle.srecord_write.proofs.write_records.Goals as goal

pub returns-then-start-image : goal.returns-then-start-image
returns-then-start-image c =
    let a = c.args in
    past_end a.start a.image.now a.text.now (omega arith)

pub returns-then-text-text_length : goal.returns-then-text-text_length
returns-then-text-text_length c =
    let a = c.args in
    too_short a.start a.image.now a.text.now (omega arith) (omega arith)

pub returns : goal.returns
returns c =
    let a = c.args in
    in_full a.start a.image.now a.text.now (omega arith) (omega arith) c.put_records.ensures
