use native.Mathlib.Omega.{arith}
use mathlib.Core.Path.{◌≡◌}
use Prim.Native.Nat.{◌<◌}
use lib.ListN.{length}
use Rattle.m68k_facts.specs.Laws.{encode_most, places_law, bytes-refused, bytes-short, bytes_done}
use Rattle.m68k_encode.proofs.encode_bytes.Goals as goal

pub measure-requires : goal.measure-requires
measure-requires c = let a = c.args in rw c.encode-e.ensures (encode_most a.instruction a.address)

pub returns-then-e-ne0 : goal.returns-then-e-ne0
returns-then-e-ne0 c = let a = c.args in let e = c.encode-e.ensures in rw (c.measure.ensures, e) (bytes-refused a.instruction a.address a.lent.now (λ h. c.if-e-ne0.true (rw e h)))

pub overflow_mul-count : goal.overflow_mul-count
overflow_mul-count c = let a = c.args in let m : c.encode-e.result.count < 12 = rw c.encode-e.ensures (encode_most a.instruction a.address) in record { fits = omega arith }

pub returns-then-lent-count : goal.returns-then-lent-count
returns-then-lent-count c = let a = c.args in let e = c.encode-e.ensures in bytes-short a.instruction a.address a.lent.now (rw e at c.if-e-ne0.false) (rw e at c.if-lent-count.true)

pub put_bytes-requires : goal.put_bytes-requires
put_bytes-requires c = let a = c.args in let e = c.encode-e.ensures in let m : c.encode-e.result.count < 12 = rw e (encode_most a.instruction a.address) in let p : length c.encode-e.result.words ≡ 11 = rw e (places_law a.instruction a.address) in (omega arith, omega arith, omega arith)

pub measure-requires-2 : goal.measure-requires-2
measure-requires-2 c = let a = c.args in rw c.encode-e.ensures (encode_most a.instruction a.address)

pub returns : goal.returns
returns c = let a = c.args in let e = c.encode-e.ensures in rw (c.measure-2.ensures, c.put_bytes.ensures, e) (bytes_done a.instruction a.address a.lent.now (rw e at c.if-e-ne0.false) (rw e at c.if-lent-count.false))
