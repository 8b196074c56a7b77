use native.Mathlib.Omega.{arith}
use mathlib.Core.Path.{sym, ◌∙◌}
use Rattle.srecord_read.specs.LineLaws.{short_says, none_found, says_found}
use Rattle.srecord_read.proofs.record_in.Goals as goal

pub returns-then-line-lt4 : goal.returns-then-line-lt4
returns-then-line-lt4 c = c.no_record.ensures ∙ sym (short_says c.args.line.now (omega arith))

pub returns-then-not-is_form : goal.returns-then-not-is_form
returns-then-not-is_form c =
    let p = c.args.line.now in
    let w = c.address_width-width in
    let s = c.sum_of-sum in
    let n = c.byte_of-count in
    let f = c.is_form in
    c.no_record-then-not-is_form.ensures ∙ sym (none_found p w.result s.result n.result (omega arith) w.ensures.0 s.ensures n.ensures.0 f.result f.ensures c.if-not-is_form.true)

pub returns : goal.returns
returns c =
    let p = c.args.line.now in
    let w = c.address_width-width in
    let s = c.sum_of-sum in
    let n = c.byte_of-count in
    let f = c.is_form in
    says_found p w.result s.result n.result (omega arith) w.ensures.0 s.ensures n.ensures.0 f.result f.ensures c.if-not-is_form.false c.number_of-address.result c.number_of-address.ensures
