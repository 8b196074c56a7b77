-- The order of the registers in a mask of MOVEM: D0 to D7, then A0 to A7.
use Rattle.std.specs.Prelude.{ℕ, ◌+◌}
use Rattle.isa.specs.declared.RegisterOperand.{RegisterOperand}
use Rattle.isa.specs.declared.RegisterOperand.TheVariants.{Address, Data}

abbrev pub index_of : RegisterOperand → ℕ
index_of (Address n) = n + 8
index_of (Data n) = n
