use native.Mathlib.Omega.{arith}
use Rattle.std.proofs.Common.{◌≡◌, ◌-◌, [], ap, length, take, drop}
use Rattle.explain_spec.specs.Explained.{explained_line}
use Rattle.base_text.specs.LinesLaws.{walked_on, walked_full, walked_end}
use Rattle.base_text.specs.PartLaws.{before_stop}
use Rattle.explain_sentence.proofs.Laws.{wrote_as}
use Rattle.explain_lines.proofs.put_lines.Goals as goal

pub returns-then-out-at-lt73728 : goal.returns-then-out-at-lt73728
returns-then-out-at-lt73728 c = walked_full explained_line 73728 _ _ _ c.loop-next.invariant.2 (omega arith)

pub loop-next-preserved : goal.loop-next-preserved
loop-next-preserved c =
    let l = c.loop-next in
    let e = c.line_end-e in
    let r = c.put_explained-at.ensures in (
      omega arith,
      omega arith,
      walked_on explained_line 73728 _ _ _ e.result l.invariant.2 (omega arith) e.ensures.0 e.ensures.1 (omega arith) r.0 (omega arith),
    )

pub loop-next-preserved-then-text-next-eq10 : goal.loop-next-preserved-then-text-next-eq10
loop-next-preserved-then-text-next-eq10 c =
    let l = c.loop-next in
    let t = c.args.text.now in
    let r = c.put_empty-at.ensures in
    let z : l.next - l.next ≡ 0 = omega arith in
    let none : take (l.next - l.next) (drop l.next t) ≡ [] = ap (λ k. take k (drop l.next t)) z in
    let ends = ap length (before_stop 10 t l.next (omega arith) (omega arith)) in (
      omega arith,
      omega arith,
      walked_on explained_line 73728 _ _ _ l.next l.invariant.2 (omega arith) (omega (arith, ends)) (omega arith) (omega arith) (wrote_as (ap explained_line none) r.0) (omega arith),
    )

pub returns : goal.returns
returns c = walked_end explained_line 73728 _ _ _ c.loop-next.invariant.2 (omega arith)
