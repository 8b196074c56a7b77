-- The line whose number digits write.
use Rattle.std.specs.Prelude.{cond, List, ℕ, Option, Some, None}
use Rattle.base_spec.specs.Number.{all_digits, value_from}
use Rattle.sheet_tokens.specs.declared.Value.{Value}
use Rattle.sheet_tokens.specs.declared.Value.TheVariants as value
use Rattle.sheet_tokens.specs.Values.{capped}

-- after digits that write a
abbrev pub line_after : ℕ → List ℕ → Option Value
line_after a bs = cond (all_digits bs) (Some (value.Line (capped (value_from a bs)))) None
