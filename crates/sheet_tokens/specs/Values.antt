-- What a field says, as the code holds it: a line's number above 4,096 names no line, and 4,097 stands for it.
use Rattle.std.specs.Prelude.{ℕ, cond, leb, Option, Some, None}
use Rattle.sheet_tokens.specs.declared.Value.{Value}
use Rattle.sheet_tokens.specs.declared.Value.TheVariants as value
use Rattle.sheet_spec.specs.Line.{Token, literal, label, invalid}

abbrev pub capped : ℕ → ℕ
capped n = cond (leb n 4096) n 4097

abbrev pub value_of : Token → Option Value
value_of (literal negative n) = Some (value.Number negative n)
value_of (label n) = Some (value.Line (capped n))
value_of invalid = None
