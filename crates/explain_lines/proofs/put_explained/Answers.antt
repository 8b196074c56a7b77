use native.Mathlib.Omega.{arith}
use Rattle.base_text.specs.WroteLaws.{wrote, wrote_then}
use Rattle.explain_lines.specs.CutLaws.{line_long}
use Rattle.explain_lines.proofs.Laws.{line_sentence}
use Rattle.explain_sentence.proofs.Laws.{wrote_as}
use Rattle.explain_lines.proofs.put_explained.Goals as goal

pub returns-then-line-lt65536 : goal.returns-then-line-lt65536
returns-then-line-lt65536 c =
    let a = c.args in
    let r = c.refusal_in-r in
    let words = c.put_sentence.ensures in
    let line = wrote_then (wrote c.put_line-next.ensures) (wrote c.put_byte-next.ensures) (omega arith) in
    (wrote_as (line_sentence a.line.now r.result r.ensures (omega arith)) (wrote_then line words.0 (omega arith)), omega arith)

pub returns : goal.returns
returns c =
    let a = c.args in
    let line = wrote_then (wrote c.put_line-next.ensures) (wrote c.put_byte-next.ensures) (omega arith) in
    (wrote_as (line_long a.line.now (omega arith)) line, omega arith)
