use mathlib.Core.Path.{◌≡◌}
use Prim.Native.Nat.{◌-◌, ◌≤◌}
use lib.ListN.{length, drop}
use Rattle.srecord_read.specs.Words.{words_of}
use Rattle.srecord_facts.specs.Writing.{Writing}
use Rattle.srecord_read.proofs.put_words.Given as goal

abbrev pub invariant-loop-i : goal.invariant-loop-i
invariant-loop-i l = (l.i ≤ length l.digits) × (length l.part ≡ length l.initial.part) × Writing (words_of l.digits) l.initial.part (words_of (drop l.i l.digits)) l.at l.part

abbrev pub decreases-loop-i : goal.decreases-loop-i
decreases-loop-i l = length l.digits - l.i
