use Prim.Native.Nat.{◌≤◌}
use lib.ListN.{get_or-eq_default}
use Rattle.numeric_fields.specs.Part.{trap_operand_of}
use Rattle.base_facts.specs.Numbers.{rest_le}
use Rattle.numeric_fields.proofs.part.trap_operand_of.Goals as goal

pub returns-in-0 : goal.returns-in-0
unfolding trap_operand_of
returns-in-0 c = rw c.in-0.is

pub returns-in-1 : goal.returns-in-1
unfolding trap_operand_of
returns-in-1 c = rw (c.in-1.is, c.word_at-n.ensures)

pub returns-in-2 : goal.returns-in-2
unfolding trap_operand_of
returns-in-2 c = rw (c.in-2.is, c.long_at-n.ensures)

pub returns-in_default : goal.returns-in_default
unfolding trap_operand_of
returns-in_default c = let h : 3 ≤ c.args.place = rest_le 3 _ c.in_default.in_default-own.rest in rw (get_or-eq_default)
