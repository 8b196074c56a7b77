use native.Mathlib.Omega.{arith}
use Rattle.base_text.specs.WroteLaws.{wrote, wrote_then}
use Rattle.srecord_write.proofs.put_head.Goals as goal

pub returns : goal.returns
returns c =
    let letter = wrote c.put_byte-next.ensures in
    let digit = wrote c.put_byte-next-2.ensures in
    let count = wrote c.put_hex2-next.ensures in
    let address = wrote c.put_hex8.ensures in
    (wrote_then (wrote_then (wrote_then letter digit (omega arith)) count (omega arith)) address (omega arith), omega arith)
