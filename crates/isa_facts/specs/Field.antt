-- What lies in a pair, where nothing is held beside it and there is no further rule.
use Rattle.std.specs.Prelude.{ℕ, suc, ◌≡◌, Bool, true, false, ◌&&◌, ◌||◌, ltb, leb}
use Rattle.std.proofs.Common.{sym, ◌∙◌}
use Rattle.std.proofs.Math.Dec.{leb-zero, leb-suc-suc}
use Rattle.base_facts.specs.Tests.{and_yes, or_no}

pub pair_alone : (b : Bool) → (b || false) && true ≡ b
pair_alone b = and_yes (b || false) ∙ or_no b

pub from_zero : (n t : ℕ) → leb 0 n && leb n t ≡ ltb n (suc t)
from_zero n t = rw (leb-zero n) (sym (leb-suc-suc n t))

pub upwards : (n t : ℕ) → (leb 0 n && leb n t || false) && true ≡ ltb n (suc t)
upwards n t = pair_alone (leb 0 n && leb n t) ∙ from_zero n t
