-- The size of an encoding: twice its count, with its refusal.
use Rattle.std.specs.Prelude.{◌*◌}
use Rattle.isa.specs.declared.Encoded.{Encoded}
use Rattle.isa.specs.declared.Measured.{Measured}

abbrev pub measured : Encoded → Measured
measured e = record { size = 2 * e.count; number = e.number; detail = e.detail; value = e.value }
