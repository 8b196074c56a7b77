use Rattle.base_text.specs.WrittenLaws.{decimal_small, decimal_two}
use Rattle.base_text.proofs.put_below_100.Goals as goal

pub returns-then-n-lt10 : goal.returns-then-n-lt10
returns-then-n-lt10 c = rw (decimal_small c.args.n c.if-n-lt10.true) c.put_byte.ensures

pub returns : goal.returns
returns c =
    rw (decimal_two c.args.n c.if-n-lt10.false c.requires.0) c.put_two.ensures
