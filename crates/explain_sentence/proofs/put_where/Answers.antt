use native.Mathlib.Omega.{arith}
use Rattle.base_text.specs.WrittenLaws.{decimal_20}
use Rattle.base_text.specs.WroteLaws.{wrote, wrote_none, wrote_then}
use Rattle.explain_sentence.proofs.Laws.{wrote_as}
use Rattle.explain_sentence.proofs.SentenceLaws.{where_some, where_none}
use Rattle.explain_sentence.proofs.put_where.Goals as goal

pub put-requires : goal.put-requires
put-requires c = omega (arith, decimal_20 c.args.r.line (omega arith))

pub returns-then-r : goal.returns-then-r
returns-then-r c =
    let a = c.args in
    let d = decimal_20 a.r.line (omega arith) in
    let w = wrote_then (wrote_then (wrote c.put-next.ensures) (wrote c.put_decimal-next.ensures) (omega arith)) (wrote c.put.ensures) (omega arith) in
    (wrote_as (where_some a.r c.if-r.true) w, omega arith)

pub returns : goal.returns
returns c =
    let a = c.args in
    (wrote_as (where_none a.r c.if-r.false) (wrote_none a.out.now a.at), omega arith)
