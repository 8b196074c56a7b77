use Rattle.numeric_spec.specs.Value.{field_value_by_place}
use Prim.Native.Nat.{◌≤◌}
use lib.ListN.{get_or-eq_default}
use Rattle.base_facts.specs.Numbers.{rest_le}
use Rattle.numeric_fields.proofs.part.field_value_of.Goals as goal

pub returns-in-0 : goal.returns-in-0
unfolding field_value_by_place
returns-in-0 c = rw c.in-0.is

pub returns-in-1 : goal.returns-in-1
unfolding field_value_by_place
returns-in-1 c = rw c.in-1.is

pub returns-in_default : goal.returns-in_default
unfolding field_value_by_place
returns-in_default c = let h : 2 ≤ c.args.place = rest_le 2 _ c.in_default.in_default-own.rest in rw (get_or-eq_default)
