use Rattle.std.proofs.Common.{◌≡◌, ◌≤◌, drop}
use Rattle.sheet_field.specs.LineNumber.{line_after}
use Rattle.sheet_field.proofs.line_number.Given as goal

abbrev pub invariant-loop-digit : goal.invariant-loop-digit
invariant-loop-digit l = (l.line ≤ 4097) × (line_after 0 l.digits ≡ line_after l.line (drop l.digit-index l.digits))
