use Rattle.std.proofs.Common.{arith}
use Rattle.sheet_blocks.specs.BlockLaws.{address_none, address_found}
use Rattle.sheet_blocks.proofs.address_of.Goals as goal

pub returns-then-lines-k : goal.returns-then-lines-k
returns-then-lines-k c = let a = c.args in address_none a.text.now c.requires a.k c.if-lines-k.true

pub returns : goal.returns
returns c =
    let a = c.args in
    let z = c.requires in
    rw c.wide-place.ensures (address_found a.text.now z a.k (omega arith) (omega arith) c.words_of.result (rw c.wide-place.ensures at c.words_of.ensures.0))
