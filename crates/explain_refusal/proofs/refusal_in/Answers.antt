use Rattle.explain_refusal.proofs.Laws.{refusal_at}
use mathlib.Core.Path.{sym}
use Rattle.explain_refusal.proofs.refusal_in.Goals as goal

pub returns-then-equal : goal.returns-then-equal
returns-then-equal c =
    let line = c.args.line.now in
    let e = c.field_end-e in
    rw (refusal_at line e.result e.ensures.0, sym c.equal.ensures, c.if-equal.true) c.refusal_from.ensures

pub returns : goal.returns
returns c =
    let line = c.args.line.now in
    let e = c.field_end-e in
    rw (refusal_at line e.result e.ensures.0, sym c.equal.ensures, c.if-equal.false) c.no_refusal.ensures
