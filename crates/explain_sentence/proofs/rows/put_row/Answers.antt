use mathlib.Core.Path.{ap}
use lib.ListN.{length}
use native.Mathlib.Omega.{arith}
use Rattle.base_text.specs.WroteLaws.{wrote_none}
use Rattle.explain_spec.specs.Sentence.{filled}
use Rattle.explain_sentence.proofs.Laws.{row-none, row_text, wrote_as}
use Rattle.explain_sentence.proofs.rows.put_row.Goals as goal

pub returns-then-rows-from : goal.returns-then-rows-from
returns-then-rows-from c =
    let a = c.args in
    let f = c.row_start-from in
    (wrote_as (ap (filled a.r) (row-none a.rows.now a.n f.result f.ensures (omega arith))) (wrote_none a.out.now a.at), omega arith)

pub put_filled-requires : goal.put_filled-requires
put_filled-requires c =
    let f = c.row_start-from in
    let e = c.field_end-e in
    omega (arith, c.requires, ap length (row_text c.args.rows.now c.args.n f.result f.ensures e.result (omega arith) e.ensures.0))

pub returns : goal.returns
returns c =
    let a = c.args in
    let f = c.row_start-from in
    let e = c.field_end-e in
    let t = row_text a.rows.now a.n f.result f.ensures e.result (omega arith) e.ensures.0 in
    let w = c.put_filled.ensures in
    (wrote_as (ap (filled a.r) t) w.0, omega (arith, w.1, ap length t))
