use Rattle.std.proofs.Common.{arith, ◌++◌, length, take, sym, ap, ◌∙◌, subst, append_assoc, length-take}
use Rattle.std.specs.Io.KnownBytes.{Appends}
use Rattle.std.proofs.KnownBytes.{Appends-trans}
use Rattle.base_text.specs.LinesLaws.{step_room, step_onward}
use Rattle.explain_spec.specs.Explained.{explained_line}
use Rattle.explain_lines.specs.Pieces.{explains_short}
use Rattle.explain.proofs.Laws.{step_lines, lines_end}
use Rattle.explain.proofs.print_lines.Goals as goal

pub slice_bounds-write_all-end : goal.slice_bounds-write_all-end
slice_bounds-write_all-end g c = omega (arith, step_room explained_line 73728 c.args.lines.now c.loop-from.from c.loop-from.out (explains_short c.loop-from.invariant.short c.explain-step.ensures) (omega arith))

pub slice_bounds-write_all-end-in-loop-from : goal.slice_bounds-write_all-end-in-loop-from
slice_bounds-write_all-end-in-loop-from g c = simp length-take (omega (arith, step_room explained_line 73728 c.args.lines.now c.loop-from.from c.loop-from.out (explains_short c.loop-from.invariant.short c.explain-step.ensures) (omega arith)))

pub loop-from-smaller : goal.loop-from-smaller
loop-from-smaller g c =
    let l = c.loop-from in
    let e = explains_short l.invariant.short c.explain-step.ensures in
    rw e.0 (omega (arith, step_onward explained_line 73728 c.args.lines.now l.from (length l.out) (omega arith) (omega arith)))

pub loop-from-preserved : goal.loop-from-preserved
loop-from-preserved g c =
    let i = c.loop-from.invariant in
    let a = c.explain-step in
    let e = explains_short i.short a.ensures in
    let t = take a.result.count a.new.out in
    record {
      same_room = omega arith;
      wide = i.wide;
      short = i.short;
      done = i.done ++ t;
      written = Appends-trans _ _ _ _ _ i.written c.in_ok-write_all.ensures.bytes;
      rest = i.rest ∙ ap (λ l. i.done ++ l) (step_lines _ _ _ _ _ _ e) ∙ sym (append_assoc i.done t _);
    }

pub returns-clause-bytes : goal.returns-clause-bytes
returns-clause-bytes g c =
    let i = c.loop-from.invariant in
    subst (Appends _ _) (sym (i.rest ∙ lines_end c.args.lines.now c.loop-from.from i.done (omega arith))) i.written
