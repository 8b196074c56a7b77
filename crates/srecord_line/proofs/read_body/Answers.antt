use native.Mathlib.Omega.{arith}
use mathlib.Core.Path.{sym, ap, ◌∙◌}
use borrow.Author.Tests.{not-true, not-false}
use lib.ListN.{take}
use Rattle.base_spec.specs.Number.{number_of}
use Rattle.srecord_line.specs.Line.{address_or}
use Rattle.srecord_line.specs.LineLaws.{no_address, is_address, body_unaddressed, body_unworded, body_cramped, body_read, all_many}
use Rattle.srecord_line.proofs.read_body.Goals as goal

pub returns-then-start-gt4294967295 : goal.returns-then-start-gt4294967295
returns-then-start-gt4294967295 c =
    let e = c.field_end-e in
    let a = c.args in
    let t = no_address (number_of (take e.result a.body.now)) (rw (sym (c.address_in-start.ensures ∙ ap address_or c.read_number.ensures)) c.if-start-gt4294967295.true) in
    let r = body_unaddressed a.body.now a.words.now e.result e.ensures.0 t in
    (c.no_line.ensures ∙ r.0, r.1)

pub returns-then-not-fields : goal.returns-then-not-fields
returns-then-not-fields c =
    let e = c.field_end-e in
    let a = c.args in
    let r = body_unworded a.body.now a.words.now e.result e.ensures.0 (sym c.count_words-fields.ensures.all ∙ not-true _ c.if-not-fields.true) in
    (c.no_line-then-not-fields.ensures ∙ r.0, r.1)

pub returns-then-words-fields : goal.returns-then-words-fields
returns-then-words-fields c =
    let e = c.field_end-e in
    let a = c.args in
    let n = all_many c.count_words-fields.ensures (not-false _ c.if-not-fields.false) in
    let r = body_cramped a.body.now a.words.now e.result e.ensures.0 (omega (arith, n.1, c.if-words-fields.true)) in
    (c.no_line-then-words-fields.ensures ∙ r.0, r.1)

pub returns : goal.returns
returns c =
    let e = c.field_end-e in
    let a = c.args in
    let n = all_many c.count_words-fields.ensures (not-false _ c.if-not-fields.false) in
    let s = c.address_in-start.ensures ∙ ap address_or c.read_number.ensures in
    let t = is_address (number_of (take e.result a.body.now)) (rw (sym s) (omega (arith, c.if-start-gt4294967295.false))) in
    let r = body_read a.body.now a.words.now e.result e.ensures.0 t.0 n.0 (omega (arith, n.1, c.if-words-fields.false)) _ _ (s ∙ t.1) n.1 in
    (r.0, c.fill.ensures ∙ r.1)
