use native.Mathlib.Omega.{arith}
use mathlib.Core.List.{[], ◌∷◌, ◌++◌}
use Rattle.base_spec.specs.Written.{decimal_of}
use Rattle.base_text.specs.WrittenLaws.{decimal_20}
use Rattle.base_text.specs.WroteLaws.{wrote, wrote_then}
use Rattle.sheet_spec.specs.Names.{bytes}
use Rattle.unsheet_write.proofs.put_start.Goals as goal

pub put_byte-requires : goal.put_byte-requires
put_byte-requires c =
    let n = decimal_20 c.args.start (omega arith) in
    omega (arith, n, c.put_decimal-next.ensures.0, c.put-next.ensures.0)

pub returns : goal.returns
returns c =
    let start = c.args.start in
    let n = decimal_20 start (omega arith) in
    let s = wrote {buf = c.args.out.now} {t = bytes "START" ++ (9 ∷ [])} {at = 0} c.put-next.ensures in
    let d = wrote {t = decimal_of start} c.put_decimal-next.ensures in
    let e = wrote_then s d (omega (arith, n, s.next, d.next)) in
    let z = wrote_then e (wrote {t = 10 ∷ []} c.put_byte.ensures) (omega (arith, n, s.next, d.next, c.put_byte.ensures.0)) in
    (z, omega (arith, n, s.next, d.next, c.put_byte.ensures.0))
