use Prim.Native.Nat.{ℕ}
use native.Mathlib.Omega.{arith}
use lib.ListN.{replicate, length-replicate}
use Rattle.unsheet_write.specs.Answers.{unread, too_many, all_read, all_zero}
use Rattle.unsheet_write.proofs.found.Goals as goal

pub returns-then-s-ne0 : goal.returns-then-s-ne0
returns-then-s-ne0 c = let a = c.args in unread a.start a.image.now a.text.now c.survey-s.ensures.0 c.if-s-ne0.true c.refusal.ensures

pub returns-then-s-gt4096 : goal.returns-then-s-gt4096
returns-then-s-gt4096 c = let a = c.args in too_many a.start a.image.now a.text.now c.survey-s.ensures.0 c.if-s-ne0.false c.if-s-gt4096.true c.refusal-then-s-gt4096.ensures

pub returns : goal.returns
returns c = let a = c.args in all_read a.start a.image.now a.text.now c.survey-s.ensures.0 c.if-s-ne0.false c.if-s-gt4096.false (replicate 53248 0) (omega (arith, length-replicate {A = ℕ} 53248 0)) (all_zero 53248) (rw c.line_places-lines.ensures.0 at c.survey-s.ensures.1) c.landed.ensures
