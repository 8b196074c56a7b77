use native.Mathlib.Omega.{arith}
use Rattle.base_text.specs.WrittenLaws.{decimal_20}
use Rattle.base_text.specs.WroteLaws.{wrote, wrote_then}
use Rattle.explain_sentence.proofs.Laws.{wrote_as, value-below, value-plain}
use Rattle.explain_sentence.proofs.rows.put_value.Goals as goal

pub returns-then-r : goal.returns-then-r
returns-then-r c =
    let a = c.args in
    let d = decimal_20 a.r.value (omega arith) in
    let w = wrote_then (wrote c.put_byte-next.ensures) (wrote c.put_decimal.ensures) (omega arith) in
    (wrote_as (value-below a.r c.if-r.true) w, omega arith)

pub returns : goal.returns
returns c =
    let a = c.args in
    let d = decimal_20 a.r.value (omega arith) in
    (wrote_as (value-plain a.r c.if-r.false) (wrote c.put_decimal-2.ensures), omega arith)
