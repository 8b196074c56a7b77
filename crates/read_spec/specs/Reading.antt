-- What a run of words reads as: an instruction and its length in bytes; or the words end; or nothing reads.
use Rattle.std.specs.Prelude.{ℕ, Result, Ok, Err}
use Rattle.isa.specs.declared.Instruction.{Instruction}
use Rattle.read_spec.specs.declared.Read as answer
use Rattle.read_spec.specs.declared.Unread.{Unread}
use Rattle.read_spec.specs.declared.Unread.TheVariants as unread

pub data Reading : Type 0 where
  Read : Instruction → ℕ → Reading
  Short : Reading
  Nothing : Reading

-- the code's answer as a reading
abbrev pub as_reading : Result answer.Read Unread → Reading
as_reading (Ok r) = Read r.instruction r.bytes
as_reading (Err unread.Short) = Short
as_reading (Err unread.Nothing) = Nothing
