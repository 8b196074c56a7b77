use Rattle.std.proofs.Common.{arith, length-set}
use Rattle.sheet_blocks.specs.Blocks.{address_held}
use Rattle.sheet_blocks.proofs.Laws.{addressing}
use Rattle.sheet_blocks.proofs.put_addresses.Goals as goal

pub loop-i-preserved : goal.loop-i-preserved
loop-i-preserved c =
    let a = c.args in
    let l = c.loop-i in
    (omega arith, simp length-set l.invariant.1, rw (c.wrapping_add_u32.ensures.value, l.invariant.2) (addressing (address_held a.start) a.places.now l.i (omega arith)))
