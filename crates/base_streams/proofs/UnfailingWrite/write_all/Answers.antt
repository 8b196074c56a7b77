use Rattle.std.proofs.Common.{◌≤◌, arith, length, take, subst}
use Rattle.std.proofs.lemmas.List.{take_rest, length-drop}
use lib.Seq.{take-add}
use Rattle.std.specs.Io.KnownBytes.{Appends}
use Rattle.std.proofs.KnownBytes.{Appends-trans}
use Rattle.base_streams.proofs.UnfailingWrite.write_all.Goals as goal

pub loop-done-preserved : goal.loop-done-preserved
loop-done-preserved g c =
    let at = c.loop-done.done in
    let buf = c.args.buf.now in
    let n = c.in-Ok.n in
    let rest = take_rest buf at in
    record {
      within = omega (arith, subst (λ l. n ≤ length l) rest c.in-Ok.ensures.bound, length-drop at buf);
      taken = rw (take-add at n buf) (Appends-trans _ _ _ _ _ c.loop-done.invariant.taken (subst (λ l. Appends (g.S.Write.contents c.loop-done.self.stream) (g.S.Write.contents c.write.new.self) (take n l)) rest c.in-Ok.ensures.bytes));
    }
