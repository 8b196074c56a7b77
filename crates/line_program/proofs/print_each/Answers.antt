use Rattle.std.proofs.Common.{arith, ◌++◌, length, take, sym, ap, ◌∙◌, subst, append_assoc, length-take}
use Rattle.std.specs.Io.KnownBytes.{Appends}
use Rattle.std.proofs.KnownBytes.{Appends-trans}
use Rattle.base_text.specs.LinesLaws.{step_room, step_onward}
use Rattle.line_program.proofs.Steps.{step_answers, answers_end}
use Rattle.line_program.proofs.print_each.Goals as goal

pub slice_bounds-out-end : goal.slice_bounds-out-end
slice_bounds-out-end g c = omega (arith, step_room _ _ _ _ _ c.answers-part.ensures (omega arith))

pub slice_bounds-write_all-end : goal.slice_bounds-write_all-end
slice_bounds-write_all-end g c = simp length-take (omega (arith, step_room _ _ _ _ _ c.answers-part.ensures (omega arith)))

pub loop-next-smaller : goal.loop-next-smaller
loop-next-smaller g c =
    let A = g.A.Answer in
    let l = c.loop-next in
    rw c.answers-part.ensures.0 (omega (arith, step_onward A.answer_of A.ROOM c.args.text.now l.next (length l.out) (omega arith) (omega (arith, g.met.A.Answer.room))))

pub loop-next-preserved : goal.loop-next-preserved
loop-next-preserved g c =
    let i = c.loop-next.invariant in
    let a = c.answers-part in
    let t = take a.result.count a.new.out in
    record {
      room = omega arith;
      done = i.done ++ t;
      written = Appends-trans _ _ _ _ _ i.written c.in_ok-write_all.ensures.bytes;
      rest = i.rest ∙ ap (λ l. i.done ++ l) (step_answers _ _ _ _ _ _ _ a.ensures) ∙ sym (append_assoc i.done t _);
    }

pub returns : goal.returns
returns g c =
    let i = c.loop-next.invariant in
    subst (Appends _ _) (sym (i.rest ∙ answers_end g.A.Answer.answer_of c.args.text.now c.loop-next.next i.done (omega arith))) i.written
