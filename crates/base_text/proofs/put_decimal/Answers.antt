use Prim.Native.Nat.{◌/◌}
use native.Mathlib.Omega.{arith}
use Rattle.base_text.specs.WrittenLaws.{decimal_20, decimal_length, decimal_hundreds}
use Rattle.base_text.specs.WroteLaws.{wrote, wrote_then}
use Rattle.base_text.proofs.put_decimal.Goals as goal

pub put_two-requires : goal.put_two-requires
put_two-requires c = (omega arith, omega (arith, decimal_length 1 (c.args.n / 100) (omega arith)))

pub returns-then-n-lt10000 : goal.returns-then-n-lt10000
returns-then-n-lt10000 c =
    let n = c.args.n in
    let d = decimal_length 1 (n / 100) (omega arith) in
    let w = wrote_then (wrote c.put_below_100-next.ensures) (wrote c.put_two.ensures) (omega arith) in
    rw (decimal_hundreds n c.if-n-lt100.false) (w.next, w.image)

pub put_digits-requires : goal.put_digits-requires
put_digits-requires c = omega (arith, decimal_20 c.args.n (omega arith))
