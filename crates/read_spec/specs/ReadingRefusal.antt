-- What 01 says of each reading ("Where a thing is turned back").
use Rattle.std.specs.Prelude.{ℕ, pos}
use Rattle.isa.specs.declared.Measured.{Measured}
use Rattle.read_spec.specs.Reading.{Reading, Read, Short, Nothing}

-- a refusal: detail and value are 0 where none is named
abbrev pub refused_run : ℕ → Measured
refused_run k = record { size = 0; number = k; detail = 0; value = pos 0 }

-- the length in bytes, or number, detail and value: 5 where the words end and some longer run reads, 6 where none does and no beginning does
abbrev pub reading_refusal : Reading → Measured
reading_refusal (Read i n) = record { size = n; number = 0; detail = 0; value = pos 0 }
reading_refusal Short = refused_run 5
reading_refusal Nothing = refused_run 6
