use native.Mathlib.Omega.{arith}
use mathlib.Core.List.{[], ◌∷◌}
use Prim.Native.Nat.{◌+◌, ◌-◌}
use mir.Facts.{to_z-of_z}
use mir.Syntax.{w64}
use Rattle.base_spec.specs.Written.{decimal_of}
use Rattle.base_text.specs.WrittenLaws.{decimal_19, placed_then, signed_neg}
use Rattle.base_text.proofs.put_signed.Goals as goal

pub put_digits-requires : goal.put_digits-requires
put_digits-requires c = omega (arith, decimal_19 c.bits-b.result (omega arith))

pub put_digits-requires-2 : goal.put_digits-requires-2
put_digits-requires-2 c = omega (arith, decimal_19 (18446744073709551615 - c.bits-b.result + 1) (omega arith))

pub returns : goal.returns
returns c =
    let b = c.bits-b in
    let m = c.put_byte-next in
    let d = c.put_digits-2 in
    let t = decimal_of (18446744073709551615 - b.result + 1) in
    let q = decimal_19 (18446744073709551615 - b.result + 1) (omega arith) in
    rw (signed_neg c.args.v c.ranges.v b.result (rw (to_z-of_z {w = w64} c.ranges.v) at b.ensures) (omega arith))
    (omega arith, placed_then c.args.out.now m.new.out d.new.out c.args.at m.result (45 ∷ []) t (omega arith) m.ensures.0 m.ensures.1 d.ensures.1)
