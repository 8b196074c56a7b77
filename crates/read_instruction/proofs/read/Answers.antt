use mathlib.Core.Path.{sym}
use native.Mathlib.Omega.{arith}
use Rattle.read_instruction.specs.ReadAt.{read_none, read_some}
use Rattle.read_spec.specs.Reading.{as_reading}
use Rattle.read_instruction.proofs.read.Goals as goal

pub returns-then-words-eq0 : goal.returns-then-words-eq0
returns-then-words-eq0 c =
    let a = c.args in
    sym (read_none a.address a.words.now c.if-words-eq0.true)

pub returns : goal.returns
returns c =
    let a = c.args in
    read_some a.address a.words.now (as_reading c.read_word.result) (omega (arith, c.if-words-eq0.false)) c.read_word.ensures
