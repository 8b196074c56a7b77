-- What the first reader refuses, the second refuses.
use Rattle.std.specs.Prelude.{◌≡◌, refl, Err}
use Rattle.read_spec.specs.declared.Unread.{Unread}
use Rattle.read_spec.specs.declared.Unread.TheVariants.{Short, Nothing}
use Rattle.read_spec.specs.Reading.{as_reading}
use Rattle.m68000_spec.specs.Reading68000.{First}
use Rattle.m68000_spec.specs.Read68000.{restricted}

pub refused_restricted : (e : Unread) → restricted (as_reading (Err e)) ≡ First (as_reading (Err e))
refused_restricted Short = refl
refused_restricted Nothing = refl
