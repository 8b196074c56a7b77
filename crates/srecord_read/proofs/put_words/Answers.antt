use native.Mathlib.Omega.{arith}
use lib.ListN.{length-set}
use Rattle.srecord_facts.specs.Writing.{writing_one, writing_end}
use Rattle.srecord_read.specs.WordLaws.{words_on, words_end}
use Rattle.srecord_read.proofs.put_words.Goals as goal

pub loop-i-preserved : goal.loop-i-preserved
loop-i-preserved c =
    let l = c.loop-i in
    let a = c.args in
    (omega arith, simp length-set l.invariant.1, rw c.word_of.ensures (writing_one l.invariant.2 _ _ (words_on a.digits.now l.i (omega arith)) c.requires))

pub returns : goal.returns
returns c =
    let l = c.loop-i in
    writing_end l.invariant.2 (words_end c.args.digits.now l.i (omega arith))
