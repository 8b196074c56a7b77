use native.Mathlib.Omega.{arith}
use Rattle.unsheet_write.specs.Answers.{odd_start, past_end, empty, some_found}
use Rattle.unsheet_write.proofs.unsheet.Goals as goal

pub returns-then-start-ne0 : goal.returns-then-start-ne0
returns-then-start-ne0 c = let a = c.args in odd_start a.start a.image.now a.text.now c.if-start-ne0.true c.refusal.ensures

pub returns-then-start-image : goal.returns-then-start-image
returns-then-start-image c = let a = c.args in past_end a.start a.image.now a.text.now (omega arith) c.refusal-then-start-image.ensures

pub returns-then-image-eq0 : goal.returns-then-image-eq0
returns-then-image-eq0 c = let a = c.args in empty a.start a.image.now a.text.now c.if-start-ne0.false (omega arith) c.if-image-eq0.true c.refusal-then-image-eq0.ensures

pub returns : goal.returns
returns c = let a = c.args in some_found a.start a.image.now a.text.now c.if-start-ne0.false (omega arith) (omega arith) c.found.ensures
