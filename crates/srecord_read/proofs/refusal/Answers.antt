use borrow.Author.Tests.{not-true, not-false}
use Rattle.srecord_read.specs.LineLaws.{refused_form, refused_sum, refused-due}
use Rattle.srecord_read.proofs.refusal.Goals as goal

pub returns-then-not-r : goal.returns-then-not-r
returns-then-not-r c =
    let a = c.args in
    refused_form a.r a.start a.next (not-true _ c.if-not-r.true)

pub returns-then-not-r-2 : goal.returns-then-not-r-2
returns-then-not-r-2 c =
    let a = c.args in
    refused_sum a.r a.start a.next (not-false _ c.if-not-r.false) (not-true _ c.if-not-r-2.true)

pub returns-then-is_due : goal.returns-then-is_due
returns-then-is_due c =
    let a = c.args in
    let d = c.is_due in
    rw c.if-is_due.true at (refused-due a.r a.start a.next (not-false _ c.if-not-r.false) (not-false _ c.if-not-r-2.false) d.result d.ensures)

pub returns : goal.returns
returns c =
    let a = c.args in
    let d = c.is_due in
    rw c.if-is_due.false at (refused-due a.r a.start a.next (not-false _ c.if-not-r.false) (not-false _ c.if-not-r-2.false) d.result d.ensures)
