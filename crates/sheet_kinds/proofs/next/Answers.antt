use Rattle.std.proofs.Common.{arith}
use Prim.Native.Nat.{◌+◌, ◌*◌, ◌/◌}
use mathlib.Core.Path.{◌≡◌, sym, ap, ◌∙◌}
use Rattle.sheet_spec.specs.declared.Kind.{Kind}
use Rattle.sheet_spec.specs.Grammar.{kinds_of}
use Rattle.sheet_kinds.specs.Next.{below, power_above, kinds_after}
use Rattle.sheet_kinds.specs.NextLaws.{below-above, packed_small, power_packed}
use Rattle.sheet_kinds.specs.Weight.{fields_few}
use Rattle.sheet_kinds.proofs.next.Goals as goal

joined : (c : goal.After-shift) → c.fields_of-fields.result + c.shift.result * (c.args.kinds / 32) ≡ kinds_after c.args.kinds c.args.place
joined c =
    let k = c.first.result in
    let n = c.args.kinds / 32 in
    let ks = kinds_of k c.args.place in
    let e = c.fields_of-fields.ensures in
    (λ i. e i + (c.shift.ensures ∙ ap (power_above 7) e ∙ power_packed 7 ks (fields_few k c.args.place)) i * n)
    ∙ sym (below-above ks n)
    ∙ ap (λ (k : Kind). below (kinds_of k c.args.place) n) c.first.ensures

pub shift-requires : goal.shift-requires
shift-requires c =
    let k = c.first.result in
    let n = c.args.place in
    omega (arith, c.fields_of-fields.ensures, packed_small 7 (kinds_of k n) (fields_few k n))

pub returns : goal.returns
returns c = joined c

pub overflow_mul-result : goal.overflow_mul-result
overflow_mul-result c = omega (arith, joined c, c.requires)

pub overflow_add-result : goal.overflow_add-result
overflow_add-result c = omega (arith, joined c, c.requires)
