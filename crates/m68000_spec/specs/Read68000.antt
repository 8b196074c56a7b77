-- What the second reader answers, for boards with an MC68000 (02, N4).
use Rattle.std.specs.Prelude.{ℕ, cond, List}
use Rattle.isa.specs.declared.Measured.{Measured}
use Rattle.read_spec.specs.Reading.{Reading, Read, Short, Nothing}
use Rattle.read_spec.specs.ReadingRefusal.{refused_run, reading_refusal}
use Rattle.read_spec.specs.Read.{read_of}
use Rattle.m68000_spec.specs.Reading68000.{Reading68000, First, NotOf68000}
use Rattle.m68000_spec.specs.Of68000.{of68000}

-- of the first reader's answer: 15 comes after 5 and 6, so only where it reads
abbrev pub restricted : Reading → Reading68000
restricted (Read i n) = cond (of68000 i) (First (Read i n)) NotOf68000
restricted Short = First Short
restricted Nothing = First Nothing

unfoldable pub read_68000_of : List ℕ → ℕ → Reading68000
read_68000_of ws a = restricted (read_of ws a)

-- the length in bytes, or number, detail and value
abbrev pub refusal68000 : Reading68000 → Measured
refusal68000 (First r) = reading_refusal r
refusal68000 NotOf68000 = refused_run 15
