-- The control registers of MOVEC (the manual, section 6, MOVEC, "Control Register field"), and the first processor that has each.
use Rattle.std.specs.Prelude.{ℕ, Bool, ◌||◌, cond, eqb}
use Rattle.isa_values.specs.declared.processor.Processor.{Processor}
use Rattle.isa_values.specs.declared.processor.Processor.TheVariants.{M68010, M68020}
use Rattle.std.specs.declared.option.Option.{Option}
use Rattle.std.specs.declared.option.Option.TheVariants.{None, Some}

-- SFC $000, DFC $001, USP $800, VBR $801
abbrev pub of_m68010 : ℕ → Bool
of_m68010 code = eqb code 0 || eqb code 1 || eqb code 2048 || eqb code 2049

-- CACR $002, CAAR $802, MSP $803, ISP $804
abbrev pub added_by_m68020 : ℕ → Bool
added_by_m68020 code = eqb code 2 || eqb code 2050 || eqb code 2051 || eqb code 2052

abbrev pub processor_of : ℕ → Option Processor
processor_of code = cond (of_m68010 code) (Some M68010) (cond (added_by_m68020 code) (Some M68020) None)
