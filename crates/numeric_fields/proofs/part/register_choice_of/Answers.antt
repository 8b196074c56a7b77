use Prim.Native.Nat.{◌≤◌}
use lib.ListN.{get_or-eq_default}
use Rattle.numeric_fields.specs.Part.{register_choice_of}
use Rattle.base_facts.specs.Numbers.{rest_le}
use Rattle.numeric_fields.proofs.part.register_choice_of.Goals as goal

pub returns-in-0 : goal.returns-in-0
unfolding register_choice_of
returns-in-0 c = rw c.in-0.is

pub returns-in-1 : goal.returns-in-1
unfolding register_choice_of
returns-in-1 c = rw (c.in-1.is, c.byte_at-n.ensures)

pub returns-in_default : goal.returns-in_default
unfolding register_choice_of
returns-in_default c = let h : 2 ≤ c.args.place = rest_le 2 _ c.in_default.in_default-own.rest in rw (get_or-eq_default)
