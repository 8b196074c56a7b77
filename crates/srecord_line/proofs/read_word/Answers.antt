use native.Mathlib.Omega.{arith}
use mathlib.Core.Path.{sym, ◌∙◌}
use Rattle.srecord_line.specs.LineLaws.{word_four, word_not}
use Rattle.srecord_line.proofs.read_word.Goals as goal

pub returns-then-f-ne4 : goal.returns-then-f-ne4
returns-then-f-ne4 c = (sym (word_not c.args.f.now c.if-f-ne4.true), omega arith)

pub returns : goal.returns
returns c =
    let f = c.args.f.now in (
      c.four_digits.ensures.0
          ∙ rw (c.digit_value.ensures.0, c.digit_value-2.ensures.0, c.digit_value-3.ensures.0, c.digit_value-4.ensures.0) (word_four f c.if-f-ne4.false),
      c.four_digits.ensures.1,
    )
