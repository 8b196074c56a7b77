use Rattle.read_runs.specs.RunLaws.{word_four, word_not}
use mathlib.Core.Path.{sym, ◌∙◌}
use Rattle.read_runs.proofs.read_word.Goals as goal

pub returns-then-f-ne4 : goal.returns-then-f-ne4
returns-then-f-ne4 c = sym (word_not c.args.f.now c.if-f-ne4.true)

pub returns : goal.returns
returns c =
    let f = c.args.f.now in
    c.four_digits.ensures
    ∙ rw (c.hex_value.ensures, c.hex_value-2.ensures, c.hex_value-3.ensures, c.hex_value-4.ensures) (word_four f c.if-f-ne4.false)
