use Prim.Native.Nat.{ℕ, zero, suc}
use mathlib.Core.Path.{◌≡◌, refl}
use mathlib.Core.Option.{some}
use Rattle.base_text.specs.WrittenLaws.{decimal_20}
use Rattle.base_text.specs.WroteLaws.{wrote, wrote_then}
use Rattle.unsheet_line.specs.Table.{as_line}
use native.Mathlib.Omega.{arith}
use Rattle.unsheet_line.proofs.put_target.Goals as goal

some_line : (n : ℕ) → (n ≡ 0 → ⊥) → as_line n ≡ some n
some_line zero h = absurd (h refl)
some_line (suc n) h = refl

pub returns-then-line-ne0 : goal.returns-then-line-ne0
returns-then-line-ne0 c =
    let a = c.args in
    let d = decimal_20 a.line (omega arith) in
    rw (some_line a.line c.if-line-ne0.true)
    (wrote_then (wrote c.put_byte-next.ensures) (wrote c.put_decimal.ensures) (omega arith), omega arith)

pub returns : goal.returns
returns c =
    let d = decimal_20 c.args.target (omega arith) in
    rw c.if-line-ne0.false (wrote c.put_decimal-2.ensures, omega arith)
