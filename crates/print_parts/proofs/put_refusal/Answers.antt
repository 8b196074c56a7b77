use native.Mathlib.Omega.{arith}
use mir.Facts.{to_z-of_z}
use mir.Syntax.{w64}
use Rattle.sheet_spec.specs.Names.{bytes}
use Rattle.base_text.specs.WroteLaws.{wrote, wrote_then, signed_20}
use Rattle.print_spec.specs.Printed.{line_refusal}
use Rattle.print_parts.proofs.put_refusal.Goals as goal

pub put_byte-requires : goal.put_byte-requires
put_byte-requires c =
    let l = signed_20 c.args.value c.ranges.value in
    let value = rw (to_z-of_z {w = w64} c.ranges.value) at c.put_signed-next.ensures in
    omega arith

pub returns : goal.returns
unfolding line_refusal
returns c =
    let l = signed_20 c.args.value c.ranges.value in
    let number = c.put_field-next.ensures.0 in
    let line = c.put_field-next-2.ensures.0 in
    let detail = c.put_field-next-3.ensures.0 in
    let value = rw (to_z-of_z {w = w64} c.ranges.value) at c.put_signed-next.ensures in
    let first = wrote_then (wrote {buf = c.args.out.now} {t = bytes "refused\t"} {at = 0} c.put-next.ensures) number (omega arith) in
    let front = wrote_then (wrote_then first line (omega arith)) detail (omega arith) in
    let whole = wrote_then front (wrote value) (omega arith) in
    (wrote_then whole (wrote c.put_byte.ensures) (omega arith), omega arith)
