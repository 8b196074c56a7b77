use borrow.Author.Rules.{rules}
use native.Mathlib.Omega.{arith}
use mir.Facts.{to_z-of_z}
use mir.Syntax.{w64}
use lib.ListN.{length-take}
use Rattle.print_spec.specs.Printed.{printed_of}
use Rattle.print_parts.specs.RefusalLaws.{refusal_is}
use Rattle.sheet_print.specs.PrintedLaws.{listable, from_first}
use Rattle.sheet_print.proofs.print_wide.Goals as goal

pub slice_bounds-put_listing-end : goal.slice_bounds-put_listing-end
slice_bounds-put_listing-end c = (listable c.translate-r.ensures c.if-r-eq0.true).held

pub slice_bounds-put_listing-end-then-r-eq0 : goal.slice_bounds-put_listing-end-then-r-eq0
slice_bounds-put_listing-end-then-r-eq0 c = rw length-take (omega (arith, (listable c.translate-r.ensures c.if-r-eq0.true).held))

pub slice_bounds-put_listing-end-then-r-eq0-2 : goal.slice_bounds-put_listing-end-then-r-eq0-2
slice_bounds-put_listing-end-then-r-eq0-2 c = (listable c.translate-r.ensures c.if-r-eq0.true).room

pub slice_bounds-put_listing-end-then-r-eq0-3 : goal.slice_bounds-put_listing-end-then-r-eq0-3
slice_bounds-put_listing-end-then-r-eq0-3 c = rw length-take (omega (arith, (listable c.translate-r.ensures c.if-r-eq0.true).room))

pub put_listing-requires : goal.put_listing-requires
put_listing-requires c = let l = listable c.translate-r.ensures c.if-r-eq0.true in (omega arith, l.few, l.laid)

pub returns-then-r-eq0 : goal.returns-then-r-eq0
returns-then-r-eq0 c =
    let t = c.translate-r.ensures in
    let l = listable t c.if-r-eq0.true in
    from_first t c.put_listing.ensures.0 l.listing (omega (arith, l.few))

pub returns : goal.returns
unfolding printed_of
returns c =
    let t = c.translate-r in
    let p = rw (to_z-of_z {w = w64} {z = t.result.value} (search rules)) at c.put_refusal.ensures in
    from_first t.ensures p.0 (refusal_is t.ensures c.if-r-eq0.false _) (omega arith)
