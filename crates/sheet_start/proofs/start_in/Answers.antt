use mathlib.Core.Path.{sym, ap, ◌∙◌}
use native.Mathlib.Omega.{arith}
use Rattle.sheet_spec.specs.Sheet.{start_as}
use Rattle.sheet_start.specs.StartLine.{start_at}
use Rattle.sheet_start.proofs.Laws.{one_field, more_fields, two_fields}
use Rattle.sheet_start.proofs.start_in.Goals as goal

pub returns-then-e-line : goal.returns-then-e-line
returns-then-e-line c =
    let e = c.field_end-e in
    c.no_start.ensures ∙ ap start_at (sym (one_field c.args.line.now e.result e.ensures.0 c.if-e-line.true))

pub returns-then-end-line : goal.returns-then-end-line
returns-then-end-line c =
    let e = c.field_end-e in
    let f = c.field_end-end in
    c.no_start-then-end-line.ensures
    ∙ ap start_at (sym (more_fields c.args.line.now e.result e.ensures.0 (omega arith) f.result f.ensures.0 c.if-end-line.true))

pub returns-then-equal : goal.returns-then-equal
returns-then-equal c =
    let e = c.field_end-e in
    let f = c.field_end-end in
    let line = c.args.line.now in
    c.start_number.ensures ∙ ap (λ n. start_at (start_as n)) c.read_number.ensures
    ∙ sym (ap start_at (two_fields line e.result e.ensures.0 (omega arith) f.result f.ensures.0 (omega arith))
    ∙ rw (sym c.equal.ensures ∙ c.if-equal.true))

pub returns : goal.returns
returns c =
    let e = c.field_end-e in
    let f = c.field_end-end in
    let line = c.args.line.now in
    c.no_start-2.ensures
    ∙ sym (ap start_at (two_fields line e.result e.ensures.0 (omega arith) f.result f.ensures.0 (omega arith))
    ∙ rw (sym c.equal.ensures ∙ c.if-equal.false))
