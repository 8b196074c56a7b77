use mathlib.Core.Path.{sym}
use Rattle.m68000_instruction.proofs.Laws.{always_of}
use Rattle.base_facts.specs.Tests.{and_yes}
use Rattle.m68000_spec.specs.Of68000.{of68000}
use Rattle.m68000_instruction.proofs.of_68000.Goals as goal

pub returns-in-IntoRegister : goal.returns-in-IntoRegister
unfolding of68000
returns-in-IntoRegister c = rw (c.operand.ensures, c.into_register.ensures, c.in-IntoRegister.is, and_yes)

pub returns-in-MOVEM : goal.returns-in-MOVEM
unfolding of68000
returns-in-MOVEM c = rw (c.operand-in-MOVEM.ensures, c.in-MOVEM.is, and_yes)

pub returns-in-Transfer : goal.returns-in-Transfer
unfolding of68000
returns-in-Transfer c = rw (c.operand-in-Transfer.ensures, c.transfer.ensures, c.in-Transfer.is, and_yes)

pub returns-in-Pair : goal.returns-in-Pair
unfolding of68000
returns-in-Pair c = rw (c.operand-in-Pair-2.ensures, c.operand-in-Pair.ensures, c.in-Pair.is, and_yes)

pub returns-in-Quick : goal.returns-in-Quick
unfolding of68000
returns-in-Quick c = rw (c.operand-in-Quick.ensures, c.in-Quick.is, and_yes)

pub returns-in-ImmediateInto : goal.returns-in-ImmediateInto
unfolding of68000
returns-in-ImmediateInto c = rw (c.operand-in-ImmediateInto.ensures, c.immediate_into.ensures, c.in-ImmediateInto.is, and_yes)

pub returns-in-WordIntoData : goal.returns-in-WordIntoData
unfolding of68000
returns-in-WordIntoData c = rw (c.operand-in-WordIntoData.ensures, c.in-WordIntoData.is, and_yes)

pub returns-in-UnsizedIntoRegister : goal.returns-in-UnsizedIntoRegister
unfolding of68000
returns-in-UnsizedIntoRegister c = rw (c.operand-in-UnsizedIntoRegister.ensures, c.unsized_into_register.ensures, c.in-UnsizedIntoRegister.is, and_yes)

pub returns-in-UnsizedOne : goal.returns-in-UnsizedOne
unfolding of68000
returns-in-UnsizedOne c = rw (c.operand-in-UnsizedOne.ensures, c.unsized_one.ensures, c.in-UnsizedOne.is, and_yes)

pub returns-in-UnsizedPair : goal.returns-in-UnsizedPair
unfolding of68000
returns-in-UnsizedPair c = rw (c.operand-in-UnsizedPair-2.ensures, c.operand-in-UnsizedPair.ensures, c.in-UnsizedPair.is, and_yes)

pub returns-in-EXT : goal.returns-in-EXT
unfolding of68000
returns-in-EXT c = rw (c.ext.ensures, c.in-EXT.is) (sym (and_yes _))

pub returns-in-OneOperand : goal.returns-in-OneOperand
unfolding of68000
returns-in-OneOperand c = rw (c.operand-in-OneOperand.ensures, c.one_operand.ensures, c.in-OneOperand.is, and_yes)

pub returns-in-Bcc : goal.returns-in-Bcc
unfolding of68000
returns-in-Bcc c = rw (c.branch-s.ensures, c.in-Bcc.is) (sym (and_yes _))

pub returns-in-Scc : goal.returns-in-Scc
unfolding of68000
returns-in-Scc c = rw (c.operand-in-Scc.ensures, c.in-Scc.is, and_yes)

pub returns-in-Branch : goal.returns-in-Branch
unfolding of68000
returns-in-Branch c = rw (c.branch-s-in-Branch.ensures, c.in-Branch.is) (sym (and_yes _))

pub returns-in-Link : goal.returns-in-Link
unfolding of68000
returns-in-Link c = rw (c.link.ensures, c.in-Link.is) (sym (and_yes _))

pub returns-in-Shift : goal.returns-in-Shift
unfolding of68000
returns-in-Shift c = rw (c.operand-in-Shift-2.ensures, c.operand-in-Shift.ensures, c.in-Shift.is, and_yes)

pub returns-in-Vector : goal.returns-in-Vector
unfolding of68000
returns-in-Vector c = rw (c.vector.ensures, c.in-Vector.is) (sym (and_yes _))

pub returns-in-RTD : goal.returns-in-RTD
unfolding of68000
returns-in-RTD c = rw c.in-RTD.is

pub returns-in-MOVEC : goal.returns-in-MOVEC
unfolding of68000
returns-in-MOVEC c = rw c.in-MOVEC.is

pub returns-in-TRAPcc : goal.returns-in-TRAPcc
unfolding of68000
returns-in-TRAPcc c = rw c.in-TRAPcc.is

pub returns-in-MULL : goal.returns-in-MULL
unfolding of68000
returns-in-MULL c = rw c.in-MULL.is

pub returns-in-Pack : goal.returns-in-Pack
unfolding of68000
returns-in-Pack c = rw c.in-Pack.is

pub returns-in-CAS : goal.returns-in-CAS
unfolding of68000
returns-in-CAS c = rw c.in-CAS.is

pub returns-in-CAS2 : goal.returns-in-CAS2
unfolding of68000
returns-in-CAS2 c = rw c.in-CAS2.is

pub returns-in-BF : goal.returns-in-BF
unfolding of68000
returns-in-BF c = rw c.in-BF.is

pub returns-in-DIVL : goal.returns-in-DIVL
unfolding of68000
returns-in-DIVL c = rw c.in-DIVL.is

pub returns-in_default : goal.returns-in_default
returns-in_default c = always_of c.args.i c.in_default.in_default-own.keys28
