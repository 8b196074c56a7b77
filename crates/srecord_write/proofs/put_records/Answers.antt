use mathlib.Core.Path.{refl, sym, ◌∙◌}
use mathlib.Core.List.{[], ◌++◌, append_assoc}
use Prim.Native.Nat.{◌+◌, ◌*◌, ◌-◌, ◌≤◌}
use native.Mathlib.Omega.{arith}
use native.Mathlib.Nat.{le_trans, le-add_right}
use lib.ListN.{length, length-take, length-drop, drop_of_length-le}
use Rattle.base_text.specs.WroteLaws.{wrote_none, wrote_then}
use Rattle.srecord_write.specs.Text.{text_length}
use Rattle.srecord_write.specs.TextLaws.{rest_all, rest_none, rest_from}
use Rattle.srecord_write.specs.LengthLaws.{length_from}
use Rattle.srecord_write.proofs.put_records.Goals as goal

pub loop-from-init : goal.loop-from-init
loop-from-init c =
    let a = c.args in
    (omega arith, refl, omega arith, [], wrote_none a.out.now 0, rest_all a.start a.image.now)

pub loop-from-preserved : goal.loop-from-preserved
loop-from-preserved c =
    let a = c.args in
    let l = c.loop-from in
    let n = c.next_words in
    let p = rw (length-take, length-drop) at c.put_record-at.ensures.1 in
    let room = length_from (length a.image.now) l.from n.result (omega arith) n.ensures in
    let fits : c.put_record-at.result + text_length (length a.image.now - (l.from + n.result)) ≤ length a.out.now = omega arith in
    let e = rest_from a.start a.image.now l.from n.result (omega arith) n.ensures in (
      omega arith,
      omega arith,
      fits,
      l.invariant.3 ++ _,
      wrote_then l.invariant.4 c.put_record-at.ensures.0 (le_trans (le-add_right _ _) fits),
      l.invariant.5 ∙ rw e (sym (append_assoc l.invariant.3 _ _)),
    )

pub returns : goal.returns
returns c =
    let a = c.args in
    let l = c.loop-from in
    let d = drop_of_length-le a.image.now {i = l.from} (omega arith) in
    rw (l.invariant.5, d, rest_none a.start (a.start + 2 * l.from)) (wrote_then l.invariant.4 c.put_record.ensures.0 (omega arith))
