use Rattle.std.proofs.Common.{arith, ◌++◌, [], refl, length, take, pred, sym, ap, ◌∙◌, subst, append_assoc}
use Rattle.std.specs.Io.KnownBytes.{Appends}
use Rattle.std.proofs.KnownBytes.{Appends-nil, Appends-trans}
use Rattle.list_program.specs.Cases.{no_list, cases_of, cases_from}
use Rattle.list_program.proofs.Turns.{on_ok, left, no_header, no_answer, answered}
use Rattle.list_program.proofs.print_cases.Goals as goal

pub loop-from-init : goal.loop-from-init
unfolding cases_of
loop-from-init g c = record {
  places = c.filled-scratch.ensures.room;
  room = c.filled-out.ensures.room;
  most = length c.args.list.now;
  enough = omega arith;
  done = [];
  written = Appends-nil _;
  rest = refl;
}

pub returns-in_default : goal.returns-in_default
returns-in_default g c =
    let C = g.C.LentCase in
    let i = c.loop-from.invariant in
    let e = sym (rw c.limits-limits.ensures at c.read_header.ensures.is) ∙ c.in_default.is in
    let end = no_header C.limits C.is_answered C.text_of c.args.list.now i.most c.loop-from.from i.enough (omega arith) e in
    let w = c.write_all in
    let old = g.W.Write.contents c.args.output.now in
    let now = g.W.Write.contents c.loop-from.output in
    let new = g.W.Write.contents w.new.self in
    on_ok {P = Appends now new no_list} {Q = Appends old new (cases_of C.limits C.is_answered C.text_of c.args.list.now)} w.result
    (λ p. subst (Appends old new) (sym (i.rest ∙ ap (λ l. i.done ++ l) end)) (Appends-trans old now new i.done no_list i.written p)) w.ensures.bytes

pub returns-in_default-answer_line : goal.returns-in_default-answer_line
returns-in_default-answer_line g c =
    let C = g.C.LentCase in
    let i = c.loop-from.invariant in
    let e = sym (rw c.limits-limits.ensures at c.read_header.ensures.is) ∙ c.in-Some.is in
    let end = no_answer C.limits C.is_answered C.text_of c.args.list.now i.most c.loop-from.from i.enough (omega arith) c.in-Some.h e (rw c.in_default-answer_line.is at c.answer_line.ensures.answered) in
    let w = c.write_all-in_default-answer_line in
    let old = g.W.Write.contents c.args.output.now in
    let now = g.W.Write.contents c.loop-from.output in
    let new = g.W.Write.contents w.new.self in
    on_ok {P = Appends now new no_list} {Q = Appends old new (cases_of C.limits C.is_answered C.text_of c.args.list.now)} w.result
    (λ p. subst (Appends old new) (sym (i.rest ∙ ap (λ l. i.done ++ l) end)) (Appends-trans old now new i.done no_list i.written p)) w.ensures.bytes

pub loop-from-preserved : goal.loop-from-preserved
loop-from-preserved g c =
    let C = g.C.LentCase in
    let i = c.loop-from.invariant in
    let h = c.in-Some.h in
    let t = take c.in-Some-answer_line.n c.answer_line.new.out in
    let e = sym (rw c.limits-limits.ensures at c.read_header.ensures.is) ∙ c.in-Some.is in
    let turn = answered C.limits C.is_answered C.text_of c.args.list.now i.most c.loop-from.from i.enough (omega arith) h e (rw c.in-Some-answer_line.is at c.answer_line.ensures.answered) in
    record {
      places = omega arith;
      room = omega arith;
      most = pred i.most;
      enough = left i.most _ _ _ i.enough c.in-Some.ensures.within.place.onward;
      done = i.done ++ t;
      written = Appends-trans _ _ _ _ _ i.written c.in_ok-write_line.ensures;
      rest = i.rest ∙ ap (λ l. i.done ++ l) turn ∙ sym (append_assoc i.done t (cases_from C.limits C.is_answered C.text_of c.args.list.now (pred i.most) h.end));
    }
