use mathlib.Core.Path.{sym, ◌∙◌}
use native.Mathlib.Omega.{arith}
use borrow.Author.Tests.{not-false}
use Rattle.sheet_translate.proofs.Laws.{open_11, open_0}
use Rattle.sheet_translate.proofs.opening.Goals as goal

pub returns-then-places-feeds : goal.returns-then-places-feeds
returns-then-places-feeds c =
    let a = c.args in
    let s = c.start-s in
    sym (open_11 a.text.now a.places (sym c.is_sheet.ensures ∙ c.if-not-is_sheet.false) s.result s.ensures (not-false _ c.if-not-s.false) c.if-s-ne0.false (omega arith))

pub returns : goal.returns
returns c =
    let a = c.args in
    let s = c.start-s in
    sym (open_0 a.text.now a.places (sym c.is_sheet.ensures ∙ c.if-not-is_sheet.false) s.result s.ensures (not-false _ c.if-not-s.false) c.if-s-ne0.false (omega arith))
