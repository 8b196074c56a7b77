use native.Mathlib.Omega.{arith}
use Rattle.base_text.specs.WrittenLaws.{decimal_20}
use Rattle.base_text.specs.WroteLaws.{wrote}
use Rattle.explain_sentence.proofs.Laws.{wrote_as, byte_detail}
use Rattle.explain_sentence.proofs.rows.put_filled_byte.Goals as goal

pub returns-then-b-eq38 : goal.returns-then-b-eq38
returns-then-b-eq38 c =
    let a = c.args in
    let d = decimal_20 a.r.detail (omega arith) in
    (wrote_as (byte_detail a.r a.b c.if-b-eq35.false c.if-b-eq38.true) (wrote c.put_decimal.ensures), omega arith)
