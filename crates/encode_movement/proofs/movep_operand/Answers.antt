use lib.IntN.{ℤ}
use Rattle.isa.specs.declared.RegisterOperand.{RegisterOperand}
use borrow.Author.Rules.{rules}
use mir.Facts.{to_z-of_z}
use mir.Syntax.{w32}
use mathlib.Core.Bool.{Bool, true, false, cond}
use mathlib.Core.Path.{◌≡◌, refl, sym}
use lib.ListN.{get_or}
use Rattle.isa.specs.declared.Size.TheVariants as size
use Rattle.isa.specs.declared.AddressWidth.TheVariants as width
use Rattle.isa.specs.declared.RegisterOperand.TheVariants.{Address, Data}
use Rattle.isa.specs.declared.Operand.{Operand}
use Rattle.isa.specs.declared.Operand.TheVariants.{Immediate, Register, Indirect, PostIndirect, PreIndirect, IndirectDisplacement, IndirectIndex, PcDisplacement, PcIndex, Extended, Absolute}
use Rattle.isa_spec.specs.IndexBase.{is_pc}
use Rattle.isa_spec.specs.Mode.{only}
use Rattle.encode_spec.specs.Ea.{permits, ea_items}
use Rattle.encode_state.specs.Encoder.{next_address}
use Rattle.encode_movement.proofs.movep_operand.Goals as goal
use Rattle.encode_state.specs.Laws.{run-refused}

not_extended_lem : (b : Bool) → get_or (only 5) (cond b 10 6) false ≡ false
not_extended_lem true = refl
not_extended_lem false = refl

-- every variant but d16(An)
other : (o : Operand) → ((z : ℤ) (b : RegisterOperand) → o ≡ IndirectDisplacement z b → ⊥) → permits (only 5) o ≡ false
unfolding permits
other (Immediate v) k = refl
other (Register (Address n)) k = refl
other (Register (Data n)) k = refl
other (Indirect n) k = refl
other (PostIndirect n) k = refl
other (PreIndirect n) k = refl
other (IndirectDisplacement z b) k = absurd (k z b refl)
other (IndirectIndex b z x) k = refl
other (PcDisplacement t) k = refl
other (PcIndex t x) k = refl
other (Extended b w z o) k = not_extended_lem (is_pc b)
other (Absolute a width.Word) k = refl
other (Absolute a width.Long) k = refl

pub returns-in_default : goal.returns-in_default
returns-in_default c =
    let a = c.args in
    rw (other a.target c.in_default.not-IndirectDisplacement)
    (sym (run-refused (ea_items a.target size.Word (next_address a.e)) _))

pub returns : goal.returns
unfolding permits
returns c = rw c.in-IndirectDisplacement.is (rw (to_z-of_z {w = w32} {z = c.in-IndirectDisplacement.offset} (search rules)) at c.displaced.ensures)
