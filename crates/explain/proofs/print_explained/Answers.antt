use Rattle.std.specs.Prelude.{IfSome}
use Rattle.std.proofs.Common.{◌≡◌, ◌++◌, ◌-◌, [], refl, sym, ap, subst, arith, le_refl, length, take, ◌∙◌}
use Rattle.std.proofs.lemmas.Slice.{take-put_mid_below}
use borrow.Rule.Slice.PartMut.{put_mid}
use Rattle.std.specs.Io.KnownBytes.{Appends}
use Rattle.std.proofs.KnownBytes.{Appends-nil, Appends-trans, Consumes-nil, Consumes-trans, Consumes-whole}
use Rattle.explain_spec.specs.Explained.{explained}
use Rattle.explain_lines.specs.Cut.{ended_of}
use Rattle.explain_lines.specs.Pieces.{cut_kept}
use Rattle.explain.proofs.Laws.{on_ok, take_put_mid_more, turn_on, turn_end}
use Rattle.explain.proofs.print_explained.Goals as goal

pub loop-init : goal.loop-init
loop-init g c = record {
  text_room = c.filled-text.ensures.room;
  out_room = c.filled-out.ensures.room;
  room = omega arith;
  read = [];
  consumed = Consumes-nil _;
  done = [];
  written = Appends-nil _;
  rest = λ next. refl;
  none = refl;
}

pub loop-preserved : goal.loop-preserved
loop-preserved g c =
    let i = c.loop.invariant in
    let have = c.loop.state.have in
    let n = c.in_ok-n.n in
    let piece = take n c.read.new.buf in
    let t = take_put_mid_more have (65536 - have) n c.loop.text c.read.new.buf (omega arith) c.in_ok-n.ensures.bound.0 in
    let r = c.in_ok-state.ensures.rest in
    record {
      text_room = omega arith;
      out_room = omega arith;
      room = r.room;
      read = i.read ++ piece;
      consumed = Consumes-trans _ _ _ _ _ i.consumed c.in_ok-n.ensures.bytes.0;
      done = i.done ++ _;
      written = Appends-trans _ _ _ _ _ i.written c.in_ok-state.ensures.bytes;
      rest = turn_on i.read i.done _ piece _ _ c.loop.state.begun _ i.rest t r.begun_is r.kept;
      none = ap ended_of r.kept ∙ (cut_kept _ c.loop.state.begun).none;
    }

pub returns-then-n-eq0 : goal.returns-then-n-eq0
returns-then-n-eq0 g c =
    let i = c.loop.invariant in
    let have = c.loop.state.have in
    let buf = c.read.new.buf in
    let kept : take have (put_mid have (65536 - have) c.loop.text buf) ≡ take have c.loop.text = take-put_mid_below _ _ _ _ _ (le_refl _) (omega arith) in
    let all = ap (λ l. i.done ++ l) kept ∙ sym (turn_end i.read i.done _ c.loop.state.begun i.rest i.none) ∙ ap (λ k. explained (i.read ++ take k buf)) (sym c.if-n-eq0.true) in
    let w = c.write_all in
    let old = g.W.Write.contents c.args.output.now in
    let now = g.W.Write.contents c.loop.output in
    let new = g.W.Write.contents w.new.self in
    let input = g.R.Read.remaining c.args.input.now in
    let left = g.R.Read.remaining c.read.new.self in
    let got = Consumes-trans _ _ _ _ _ i.consumed c.in_ok-n.ensures.bytes.0 in
    let end = c.in_ok-n.ensures.bytes.1 c.if-n-eq0.true (omega arith) in
    on_ok {P = Appends now new _} {Q = IfSome input (λ text. Appends old new (explained text))} w.result
    (λ p. Consumes-whole input left (i.read ++ take c.in_ok-n.n buf) (λ text. Appends old new (explained text)) got end (subst (Appends old new) all (Appends-trans old now new i.done _ i.written p)))
    w.ensures.bytes
