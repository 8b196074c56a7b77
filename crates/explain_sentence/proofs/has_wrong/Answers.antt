use mathlib.Core.Path.{sym, ap, ◌∙◌}
use mathlib.Core.Bool.{not}
use mathlib.Core.List.{List}
use Prim.Native.Nat.{ℕ}
use Rattle.sheet_spec.specs.Line.{is_none}
use Rattle.explain_sentence.proofs.SentenceLaws.{row-known, wrong_outside, wrong_line}
use Rattle.explain_sentence.proofs.has_wrong.Goals as goal

pub returns-then-is_outside : goal.returns-then-is_outside
returns-then-is_outside c =
    let r = c.args.r in
    c.is_row.ensures ∙ row-known c.sheet_texts.ensures.0 r.number ∙ sym (ap (λ (t : List ℕ). not (is_none t)) (wrong_outside r (sym c.is_outside.ensures ∙ c.if-is_outside.true)))

pub returns : goal.returns
returns c =
    let r = c.args.r in
    c.is_row-2.ensures ∙ row-known c.line_texts.ensures.0 r.number ∙ sym (ap (λ (t : List ℕ). not (is_none t)) (wrong_line r (sym c.is_outside.ensures ∙ c.if-is_outside.false)))
