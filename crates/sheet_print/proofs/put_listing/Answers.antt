use mathlib.Core.Path.{sym, ◌∙◌}
use mathlib.Core.List.{◌++◌, append_assoc}
use native.Mathlib.Omega.{arith}
use Rattle.base_text.specs.WroteLaws.{wrote_then}
use Rattle.sheet_print.specs.ListingLaws.{laid_next, lines_next}
use Rattle.sheet_print.proofs.put_listing.Goals as goal

pub loop-k-preserved : goal.loop-k-preserved
loop-k-preserved c =
    let a = c.args in
    let l = c.loop-k in
    let f = c.first_count in
    let n = laid_next a.addresses.now a.words.now l.k l.from (omega arith) l.invariant.4 f.result f.ensures in
    let e = lines_next a.addresses.now a.words.now l.k l.from (omega arith) l.invariant.4 f.result f.ensures in
    let line = c.put_line-at.ensures in (
      omega arith,
      omega arith,
      omega arith,
      omega arith,
      n.2,
      l.invariant.5 ++ _,
      wrote_then l.invariant.6 line.0 (omega arith),
      l.invariant.7 ∙ rw e (sym (append_assoc l.invariant.5 _ _)),
    )
