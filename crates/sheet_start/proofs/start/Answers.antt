use mathlib.Core.Path.{sym, ap, ◌∙◌}
use Rattle.sheet_spec.specs.Sheet.{start_of}
use Rattle.sheet_start.specs.StartLine.{start_at}
use Rattle.sheet_facts.specs.SheetLaws.{start_line_lem}
use Rattle.sheet_start.proofs.start.Goals as goal

pub returns : goal.returns
returns c =
    let e = c.line_end-e in
    c.start_in.ensures ∙ ap (λ l. start_at (start_of l)) (sym (start_line_lem c.args.text.now e.result e.ensures.0))
