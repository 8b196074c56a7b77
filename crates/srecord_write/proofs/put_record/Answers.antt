use mathlib.Core.Path.{refl}
use Prim.Native.Nat.{◌+◌, ◌*◌}
use native.Mathlib.Omega.{arith}
use lib.ListN.{length}
use Rattle.base_text.specs.WroteLaws.{wrote, wrote_then}
use Rattle.srecord_write.specs.TextLaws.{record_parts}
use Rattle.srecord_write.proofs.put_record.Goals as goal

pub returns : goal.returns
returns c =
    let words = c.args.words.now in
    let checksum = c.checksum_of-checksum in
    let head = c.put_head-next.ensures.0 in
    let bytes = c.put_data-next.ensures.0 in
    let digits = wrote c.put_hex2-next.ensures in
    let end = wrote c.put_byte.ensures in
    let parts = record_parts c.args.record_type c.args.address words c.requires.1 (omega arith) (5 + 2 * length words) checksum.result refl checksum.ensures in
    (rw parts (wrote_then (wrote_then (wrote_then head bytes (omega arith)) digits (omega arith)) end (omega arith)), omega arith)
