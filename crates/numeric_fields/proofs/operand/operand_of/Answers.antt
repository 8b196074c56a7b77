use Prim.Native.Nat.{◌≤◌}
use lib.ListN.{get_or-eq_default}
use Rattle.numeric_fields.specs.Operand.{operand_of}
use Rattle.base_facts.specs.Numbers.{rest_le}
use Rattle.numeric_fields.proofs.operand.operand_of.Goals as goal

pub returns-in-0 : goal.returns-in-0
unfolding operand_of
returns-in-0 c = rw (c.in-0.is, c.immediate_at.ensures)

pub returns-in-1 : goal.returns-in-1
unfolding operand_of
returns-in-1 c = rw (c.in-1.is, c.register_operand_at.ensures)

pub returns-in-2 : goal.returns-in-2
unfolding operand_of
returns-in-2 c = rw (c.in-2.is, c.indirect_at.ensures)

pub returns-in-3 : goal.returns-in-3
unfolding operand_of
returns-in-3 c = rw (c.in-3.is, c.post_indirect_at.ensures)

pub returns-in-4 : goal.returns-in-4
unfolding operand_of
returns-in-4 c = rw (c.in-4.is, c.pre_indirect_at.ensures)

pub returns-in-5 : goal.returns-in-5
unfolding operand_of
returns-in-5 c = rw (c.in-5.is, c.indirect_displacement_at.ensures)

pub returns-in-6 : goal.returns-in-6
unfolding operand_of
returns-in-6 c = rw (c.in-6.is, c.indirect_index_at.ensures)

pub returns-in-7 : goal.returns-in-7
unfolding operand_of
returns-in-7 c = rw (c.in-7.is, c.pc_displacement_at.ensures)

pub returns-in-8 : goal.returns-in-8
unfolding operand_of
returns-in-8 c = rw (c.in-8.is, c.pc_index_at.ensures)

pub returns-in-9 : goal.returns-in-9
unfolding operand_of
returns-in-9 c = rw (c.in-9.is, c.extended_at.ensures)

pub returns-in-10 : goal.returns-in-10
unfolding operand_of
returns-in-10 c = rw (c.in-10.is, c.absolute_at.ensures)

pub returns-in_default : goal.returns-in_default
unfolding operand_of
returns-in_default c = let h : 11 ≤ c.args.place = rest_le 11 _ c.in_default.in_default-own.rest in rw (c.immediate_at-in_default.ensures, get_or-eq_default)
