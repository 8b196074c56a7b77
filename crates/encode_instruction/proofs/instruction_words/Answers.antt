use Rattle.std.proofs.Common.{rules}
use Rattle.encode_instruction.specs.Typed.{refused}
use Rattle.encode_instruction.proofs.instruction_words.Goals as goal

pub returns-in_err-typed : goal.returns-in_err-typed
returns-in_err-typed c = rw (← refused c.args.i c.args.e _ c.in_err-typed.ensures) (search rules)
