use Rattle.std.proofs.Common.{[], length, ap, arith}
use Rattle.base_text.specs.WrittenLaws.{decimal_small, decimal_length_more, digits_one, digits_more}
use Rattle.base_text.proofs.+put_digits.Goals as goal

pub put_byte-requires : goal.put_byte-requires
put_byte-requires t c = omega (arith, ap length (decimal_small c.args.n c.if-n-lt10.true))

pub returns-then-n-lt10 : goal.returns-then-n-lt10
returns-then-n-lt10 t c =
    digits_one c.args.out.now [] c.put_byte.new.out c.args.at 0 c.put_byte.result c.args.n c.if-n-lt10.true c.put_byte.ensures.0 c.put_byte.ensures.1

pub put_digits-next-requires : goal.put_digits-next-requires
put_digits-next-requires t c = (omega arith, omega (arith, decimal_length_more c.args.n c.if-n-lt10.false))

pub put_byte-requires-2 : goal.put_byte-requires-2
put_byte-requires-2 t c = omega (arith, decimal_length_more c.args.n c.if-n-lt10.false)

pub returns : goal.returns
returns t c =
    digits_more c.args.out.now c.put_digits-next.new.out c.put_byte-2.new.out c.args.at c.put_digits-next.result c.put_byte-2.result c.args.n c.if-n-lt10.false c.requires c.put_digits-next.ensures.0 c.put_digits-next.ensures.1 c.put_byte-2.ensures.0 c.put_byte-2.ensures.1
