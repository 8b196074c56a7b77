use Rattle.std.proofs.Common.{◌≡◌, ◌<◌, ◌^◌, drop}
use Rattle.base_text.specs.Number.{digits_from}
use Rattle.base_text.proofs.digits.Given as goal

abbrev pub invariant-loop-b : goal.invariant-loop-b
invariant-loop-b l = (l.a < 2 ^ 64) × (digits_from 0 l.f ≡ digits_from l.a (drop l.b-index l.f))
