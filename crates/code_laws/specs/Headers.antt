-- Where a case of a list lies. Assumes nothing.
use Rattle.std.specs.Prelude.{ℕ, ◌≤◌}
use Rattle.std.proofs.Common.{arith}
use Rattle.base_list.specs.declared.Header.{Header}
use Rattle.base_list.specs.Headers.{Inside}

-- in a part of a list, and so in the list
pub widen : {feed end from most : ℕ} {h : Header} → Inside feed end h → from ≤ feed → end ≤ most → Inside from most h
widen w a b = record { order = w.order; inside = omega (arith, w.inside); onward = omega (arith, w.onward) }
