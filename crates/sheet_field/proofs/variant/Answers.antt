use Rattle.sheet_field.proofs.Names.{by_key, by_length, lent_keyed, no_zero}
use Rattle.sheet_field.specs.Place.{short_place, place_value}
use Rattle.sheet_tokens.specs.Values.{value_of}
use lib.ListN.{length}
use Prim.Native.Nat.{◌-◌, ◌<◌}
use native.Mathlib.Omega.{arith}
use mathlib.Core.Path.{sym, ap, ◌∙◌}
use Rattle.sheet_field.proofs.variant.Goals as goal

pub returns-then-f-gt8 : goal.returns-then-f-gt8
returns-then-f-gt8 c = c.at.ensures ∙ ap place_value c.long_place.ensures ∙ sym (by_length c.args.kind c.args.f.now c.if-f-gt8.true)

pub returns-then-f-eq0-2 : goal.returns-then-f-eq0-2
returns-then-f-eq0-2 c = let f = c.args.f.now in sym (ap value_of (no_zero f (length f - 1) (omega (arith, c.if-f-eq0.false)) c.if-f-eq0-2.true c.args.kind))

pub returns : goal.returns
returns c =
    let f = c.args.f.now in
    let k = c.args.kind in
    let some : 0 < length f = omega (arith, c.if-f-eq0.false) in
    let h = lent_keyed f (length f - 1) (omega arith) (λ i. omega (arith, c.type_inv.f i)) c.if-f-eq0-2.false in
    c.at-2.ensures ∙ ap place_value (c.short_place.ensures ∙ ap (short_place k) c.key.ensures) ∙ sym (by_key k f some c.if-f-gt8.false h)
