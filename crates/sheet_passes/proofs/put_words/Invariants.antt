use Rattle.std.proofs.Common.{◌≡◌, ◌-◌, ◌≤◌, length, take}
use Rattle.sheet_spec.specs.Translate.{over}
use Rattle.sheet_passes.proofs.put_words.Given as goal

abbrev pub invariant-loop-i : goal.invariant-loop-i
invariant-loop-i l = (l.i ≤ l.count) × (length l.words ≡ 11) × (length l.part ≡ length l.initial.part) × (l.part ≡ over (take l.i l.words) l.initial.part)

abbrev pub decreases-loop-i : goal.decreases-loop-i
decreases-loop-i l = l.count - l.i
