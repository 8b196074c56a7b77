use native.Mathlib.Omega.{arith}
use lib.ListN.{length-append}
use Rattle.base_spec.specs.Written.{decimal_of}
use Rattle.base_text.specs.WrittenLaws.{decimal_length}
use Rattle.base_spec.specs.Refused.{tab}
use Rattle.base_text.specs.WroteLaws.{wrote, wrote_then}
use Rattle.print_spec.specs.Printed.{line_text}
use Rattle.sheet_print.proofs.put_line.Goals as goal

pub put_words-next-requires : goal.put_words-next-requires
put_words-next-requires c =
    let k = c.args.k in
    let n = c.put_field-next.ensures.0.next in
    omega (arith, n, length-append (decimal_of k) tab, decimal_length 3 k (omega arith))

pub put_byte-requires : goal.put_byte-requires
put_byte-requires c =
    let k = c.args.k in
    let n = c.put_field-next.ensures.0.next in
    omega (arith, n, length-append (decimal_of k) tab, decimal_length 3 k (omega arith))

pub returns : goal.returns
unfolding line_text
returns c =
    let k = c.args.k in
    let number = c.put_field-next.ensures.0 in
    let d = length-append (decimal_of k) tab in
    let f = decimal_length 3 k (omega arith) in
    let n = number.next in
    let address = wrote c.put_hex8-next.ensures in
    let words = c.put_words-next.ensures.0 in
    let end = wrote c.put_byte.ensures in
    (wrote_then (wrote_then (wrote_then number address (omega arith)) words (omega arith)) end (omega (arith, n, d, f)), omega (arith, n, d, f))
