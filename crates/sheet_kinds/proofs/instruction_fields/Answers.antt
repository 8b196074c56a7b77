use Rattle.std.proofs.Common.{arith}
use Rattle.sheet_spec.specs.Grammar.{instruction_kinds}
use Rattle.sheet_kinds.specs.NextLaws.{packed_past}
use Rattle.sheet_kinds.proofs.instruction_fields.Goals as goal

pub returns-in_default : goal.returns-in_default
returns-in_default c = packed_past instruction_kinds c.args.place (omega arith)
