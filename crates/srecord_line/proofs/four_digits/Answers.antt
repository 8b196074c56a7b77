use native.Mathlib.Omega.{arith}
use mathlib.Core.Path.{sym}
use Rattle.base_facts.specs.Tests.{cond_true, cond_false}
use Rattle.srecord_line.specs.Line.{four_or}
use Rattle.srecord_line.specs.LineLaws.{four_sum}
use Rattle.srecord_line.proofs.four_digits.Goals as goal

pub returns-then-a-b : goal.returns-then-a-b
unfolding four_or
returns-then-a-b c =
    (sym (cond_true _ _ _ c.if-a-b.true), omega (arith, four_sum c.args.a c.args.b c.args.c c.args.d c.if-a-b.true))

pub returns : goal.returns
unfolding four_or
returns c = (sym (cond_false _ _ _ c.if-a-b.false), omega arith)
