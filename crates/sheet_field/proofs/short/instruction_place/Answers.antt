use Rattle.sheet_spec.specs.declared.Kind.TheVariants as kind
use Rattle.sheet_field.proofs.Names.{no_key}
use Rattle.sheet_field.proofs.short.instruction_place.Goals as goal

pub returns-in_default : goal.returns-in_default
returns-in_default c = no_key kind.Instruction c.args.key c.in_default.in_default-own.rest
