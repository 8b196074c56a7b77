use borrow.Author.Rules.{rules}
use mir.Syntax.{w32}
use mir.Facts.{to_z-of_z}
use Rattle.base_spec.specs.Signed.{signed32}
use Rattle.read_spec.specs.declared.Specifier.TheVariants.{Long}
use Rattle.read_spec.specs.Layout.{two_words}
use Rattle.read_spec.specs.Tree.{ret}
use Rattle.read_operands.specs.ReadLaws.{read_then, read_refused}
use Rattle.read_operands.proofs.displacement.long_displacement.Goals as goal

pub returns-in_err-v : goal.returns-in_err-v
returns-in_err-v c a = rw (read_refused (two_words Long) (λ v. ret (signed32 v)) a c.args.words.now c.args.at _ (c.in_err-v.ensures a)) (search rules)

pub returns : goal.returns
returns c a =
    rw (to_z-of_z {w = w32} {z = c.signed32.result} (search rules), c.signed32.ensures)
    (read_then (two_words Long) (λ v. ret (signed32 v)) a c.args.words.now c.args.at c.in_ok-v.v c.in_ok-v.next (c.in_ok-v.ensures a))
