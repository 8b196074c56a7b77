use borrow.Author.Rules.{rules}
use Rattle.isa.specs.declared.AddressWidth.TheVariants as width
use Rattle.isa.specs.declared.Operand.TheVariants.{Absolute}
use Rattle.read_spec.specs.declared.Specifier.TheVariants.{Long}
use Rattle.read_spec.specs.Layout.{two_words}
use Rattle.read_spec.specs.Tree.{ret}
use Rattle.read_operands.specs.ReadLaws.{read_then, read_refused}
use Rattle.read_operands.proofs.operand.long_address.Goals as goal

pub returns-in_err-v : goal.returns-in_err-v
returns-in_err-v c a = rw (read_refused (two_words Long) (λ v. ret (Absolute v width.Long)) a c.args.words.now c.args.at _ (c.in_err-v.ensures a)) (search rules)

pub returns : goal.returns
returns c a = read_then (two_words Long) (λ v. ret (Absolute v width.Long)) a c.args.words.now c.args.at c.in_ok-v.v c.in_ok-v.next (c.in_ok-v.ensures a)
