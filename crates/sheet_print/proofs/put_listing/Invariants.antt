use mathlib.Core.Path.{◌≡◌}
use mathlib.Core.List.{List, ◌++◌}
use Prim.Native.Nat.{ℕ, ◌+◌, ◌*◌, ◌-◌, ◌≤◌}
use lib.ListN.{length, drop}
use Rattle.base_text.specs.Wrote.{Wrote}
use Rattle.sheet_print.specs.Listing.{lines_text, Laid}
use Rattle.sheet_print.proofs.put_listing.Given as goal

abbrev pub invariant-loop-k : goal.invariant-loop-k
invariant-loop-k l =
    (l.k ≤ length l.addresses) × (l.from ≤ length l.words) × (length l.out ≡ length l.initial.out) × (l.at ≤ 69 * l.k) × Laid (drop l.k l.addresses) (drop l.from l.words)
    × (done : List ℕ) × Wrote l.initial.out 0 done l.out l.at × (lines_text 1 l.addresses l.words ≡ done ++ lines_text (l.k + 1) (drop l.k l.addresses) (drop l.from l.words))

abbrev pub decreases-loop-k : goal.decreases-loop-k
decreases-loop-k l = length l.addresses - l.k
