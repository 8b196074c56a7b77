-- What the second reader answers: what the first does, or that the instruction is not of the MC68000.
use Rattle.std.specs.Prelude.{Result, Ok, Err}
use Rattle.read_spec.specs.declared.Read as answer
use Rattle.read_spec.specs.Reading.{Reading, Read, as_reading}
use Rattle.m68000_spec.specs.declared.Unread68000.{Unread68000}
use Rattle.m68000_spec.specs.declared.Unread68000.TheVariants as unread

pub data Reading68000 : Type 0 where
  First : Reading → Reading68000
  NotOf68000 : Reading68000

-- the code's answer as such a reading
abbrev pub as_reading_68000 : Result answer.Read Unread68000 → Reading68000
as_reading_68000 (Ok r) = First (as_reading (Ok r))
as_reading_68000 (Err (unread.First e)) = First (as_reading (Err e))
as_reading_68000 (Err unread.NotOf68000) = NotOf68000
