-- The number of a mode, its row in table 2-4 of the manual.
use Rattle.std.specs.Prelude.{ℕ}
use Rattle.isa_operands.specs.declared.Mode.{Mode}
use Rattle.isa_operands.specs.declared.Mode.TheVariants.{DataRegister, AddressRegister, Indirect, PostIndirect, PreIndirect, Displacement, Index, ShortAddress, LongAddress, PcDisplacement, PcIndex, Immediate}

abbrev pub mode_number : Mode → ℕ
mode_number DataRegister = 0
mode_number AddressRegister = 1
mode_number Indirect = 2
mode_number PostIndirect = 3
mode_number PreIndirect = 4
mode_number Displacement = 5
mode_number Index = 6
mode_number ShortAddress = 7
mode_number LongAddress = 8
mode_number PcDisplacement = 9
mode_number PcIndex = 10
mode_number Immediate = 11
