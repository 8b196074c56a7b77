-- What the parser asks of a field's value.
use Rattle.std.specs.Prelude.{ℕ, Bool, true, false, Option, Some, None}
use Rattle.sheet_tokens.specs.declared.Value.{Value}
use Rattle.sheet_tokens.specs.declared.Value.TheVariants as value

abbrev pub is_said : Option Value → Bool
is_said (Some (value.Number negative n)) = true
is_said (Some (value.Line n)) = true
is_said None = false

-- the place that a variant's name says; the kind of a line's name has no fields
abbrev pub variant_place : Option Value → ℕ
variant_place (Some (value.Number negative n)) = n
variant_place (Some (value.Line n)) = 0
variant_place None = 0
