-- Which operands a group takes: MOVEP d16(An) only, CMPM two (An)+ only. Unused forms nothing.
use Rattle.std.specs.Prelude.{ℕ, ◌/◌, Bool, true, false, not, ◌&&◌, ◌||◌, cond, eqb}
use Rattle.isa.specs.declared.Operand.{Operand}
use Rattle.encode_spec.specs.Ea.{mode_of}
use Rattle.read_spec.specs.declared.Group.{Group}
use Rattle.read_spec.specs.declared.Group.TheVariants.{Unused, DynamicBitMovep, LogicCompare}
use Rattle.read_places.specs.Groups.{group_number}

abbrev pub movep_takes : ℕ → Operand → Bool
movep_takes ea o = not (eqb (ea / 8) 1) || eqb (mode_of o) 5

abbrev pub cmpm_takes : ℕ → Operand → Operand → Bool
cmpm_takes ea o d = not (eqb (ea / 8) 1) || (eqb (mode_of o) 3 && eqb (mode_of d) 3)

abbrev pub takes : Group → ℕ → Operand → Operand → Bool
takes s ea o d =
    cond (eqb (group_number s) (group_number Unused)) false
    (cond (eqb (group_number s) (group_number DynamicBitMovep)) (movep_takes ea o)
    (cond (eqb (group_number s) (group_number LogicCompare)) (cmpm_takes ea o d) true))
