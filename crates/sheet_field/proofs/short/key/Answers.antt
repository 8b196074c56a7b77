use Rattle.std.proofs.Common.{◌≤◌, length, arith}
use Rattle.sheet_field.proofs.Names.{key_bytes}
use Rattle.sheet_field.proofs.short.key.Goals as goal

pub returns-in_default : goal.returns-in_default
returns-in_default c = let p : 8 ≤ length c.args.f.now = omega arith in omega (arith, c.four-in_default-2.ensures, c.four-in_default.ensures, key_bytes 8 c.args.f.now (omega (arith, p)))
