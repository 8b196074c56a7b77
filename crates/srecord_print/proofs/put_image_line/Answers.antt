use native.Mathlib.Omega.{arith}
use mathlib.Core.List.{[], ◌∷◌}
use Rattle.base_spec.specs.Written.{decimal_of}
use Rattle.base_text.specs.WrittenLaws.{decimal_20}
use Rattle.base_text.specs.WroteLaws.{wrote, wrote_then}
use Rattle.srecord_spec.specs.Printed.{image_line}
use Rattle.srecord_print.proofs.put_image_line.Goals as goal

pub put_words-next-requires : goal.put_words-next-requires
put_words-next-requires c =
    let n = decimal_20 c.args.start (omega arith) in
    omega (arith, n, c.put_decimal-next.ensures.0)

pub put_byte-requires : goal.put_byte-requires
put_byte-requires c =
    let n = decimal_20 c.args.start (omega arith) in
    omega (arith, n, c.put_decimal-next.ensures.0)

pub returns : goal.returns
unfolding image_line
returns c =
    let n = decimal_20 c.args.start (omega arith) in
    let d = wrote {t = decimal_of c.args.start} c.put_decimal-next.ensures in
    let w = c.put_words-next.ensures in
    (wrote_then (wrote_then d w.0 (omega (arith, n, d.next))) (wrote {t = 10 ∷ []} c.put_byte.ensures) (omega (arith, n, d.next)), omega (arith, n, d.next))
