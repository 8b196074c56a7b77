use native.Mathlib.Omega.{arith}
use mir.Facts.{to_z-of_z}
use mir.Syntax.{w64}
use Rattle.base_spec.specs.Refused.{refused_text}
use Rattle.base_text.specs.WroteLaws.{wrote, wrote_then, byte-field, signed_20}
use Rattle.base_text.proofs.put_refusal.Goals as goal

pub put_field-next-requires-2 : goal.put_field-next-requires-2
put_field-next-requires-2 c = omega (arith, c.put_field-next.ensures.0.next, byte-field c.args.number (omega arith))

pub put_signed-requires : goal.put_signed-requires
put_signed-requires c =
    let m = byte-field c.args.number (omega arith) in
    let d = byte-field c.args.detail (omega arith) in
    omega (arith, c.put_field-next.ensures.0.next, c.put_field-next-2.ensures.0.next, m, d)

pub returns : goal.returns
unfolding refused_text
returns c =
    let l = signed_20 c.args.value c.ranges.value in
    let m = byte-field c.args.number (omega arith) in
    let d = byte-field c.args.detail (omega arith) in
    let number = c.put_field-next.ensures.0 in
    let detail = c.put_field-next-2.ensures.0 in
    let value = rw (to_z-of_z {w = w64} c.ranges.value) at c.put_signed.ensures in
    let first = wrote_then (wrote c.put-next.ensures) number (omega arith) in
    let front = wrote_then first detail (omega (arith, number.next, m)) in
    (wrote_then front (wrote value) (omega (arith, number.next, detail.next, m, d)), omega (arith, number.next, detail.next, m, d))
