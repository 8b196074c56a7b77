use Rattle.std.proofs.Common.{◌+◌, ◌*◌, ◌-◌, get_or, drop, sym, ◌∙◌, arith}
use Rattle.base_text.specs.NumberLaws.{digits_large, digit_more}
use Rattle.base_text.proofs.digits.Goals as goal

pub returns-in_err-checked_mul : goal.returns-in_err-checked_mul
returns-in_err-checked_mul c =
    let f = c.args.f.now in
    let i = c.loop-b.b-index in
    let a = c.loop-b.a in
    let m = digit_more f i a (omega arith) (omega arith) (omega arith) in
    rw c.from_residual.ensures (sym (c.loop-b.invariant.1 ∙ m ∙ digits_large (a * 10 + (get_or f i 0 - 48)) (drop (i + 1) f) (omega (arith, c.in_err-checked_mul.ensures))))

pub returns-in_err-a : goal.returns-in_err-a
returns-in_err-a c =
    let f = c.args.f.now in
    let i = c.loop-b.b-index in
    let a = c.loop-b.a in
    let m = digit_more f i a (omega arith) (omega arith) (omega arith) in
    rw c.from_residual-in_err-a.ensures (sym (c.loop-b.invariant.1 ∙ m ∙ digits_large (a * 10 + (get_or f i 0 - 48)) (drop (i + 1) f) (omega (arith, c.in_err-a.ensures))))
