use Rattle.std.proofs.Common.{sym, ◌∙◌, ◌+◌, ◌*◌, ◌-◌, get_or, arith}
use Rattle.sheet_field.proofs.Laws.{line_more, line_none, capped_fits}
use Rattle.sheet_field.proofs.line_number.Goals as goal

pub loop-digit-preserved : goal.loop-digit-preserved
loop-digit-preserved c =
    let l = c.loop-digit in
    let f = c.args.digits.now in
    let d = l.line * 10 + (get_or f l.digit-index 0 - 48) in (
      rw (c.capped-line.ensures, c.from.ensures) (capped_fits d),
      rw (c.capped-line.ensures, c.from.ensures) (l.invariant.1 ∙ line_more f l.digit-index l.line (omega arith) (sym c.is_ascii_digit.ensures.value ∙ c.if-not-is_ascii_digit.false)),
    )

pub returns-then-not-is_ascii_digit : goal.returns-then-not-is_ascii_digit
returns-then-not-is_ascii_digit c =
    let l = c.loop-digit in
    sym (l.invariant.1 ∙ line_none c.args.digits.now l.digit-index l.line (omega arith) (sym c.is_ascii_digit.ensures.value ∙ c.if-not-is_ascii_digit.true))
