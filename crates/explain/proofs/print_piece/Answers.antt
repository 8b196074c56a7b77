use Rattle.std.proofs.Common.{◌≡◌, sym, ap, ◌∙◌, subst, arith, length-take, take, drop}
use Rattle.explain_lines.specs.declared.Cut.{Cut}
use Rattle.explain_lines.specs.Pieces.{Kept, cut_kept}
use Rattle.explain.proofs.Laws.{kept_front}
use Rattle.explain.proofs.print_piece.Goals as goal

pub print_cut-requires : goal.print_cut-requires
print_cut-requires g c = (simp length-take (omega arith), omega arith, subst (Kept _) (sym c.cut_text-c.ensures) (cut_kept _ c.args.begun))

pub keep-have-requires : goal.keep-have-requires
keep-have-requires g c =
    let k = subst (Kept _) (sym c.cut_text-c.ensures) (cut_kept _ c.args.begun) in
    let n = rw length-take at k.inside in
    (omega (arith, n), omega arith)

pub returns-clause-bytes : goal.returns-clause-bytes
returns-clause-bytes g c = rw c.cut_text-c.ensures at c.in_ok-print_cut.ensures.bytes

pub returns-clause-rest : goal.returns-clause-rest
returns-clause-rest g c =
    let a = c.args in
    let u = c.cut_text-c in
    let q = c.keep-have in
    let k = subst (Kept _) (sym u.ensures) (cut_kept _ a.begun) in
    let n = rw length-take at k.room in
    let m = rw length-take at k.inside in
    record {
      begun_is = ap (λ (k : Cut). k.begun) u.ensures;
      kept = kept_front a.text.now q.new.text u.result.kept a.end q.result (omega (arith, m)) (omega arith) q.ensures.0 q.ensures.1 ∙ ap (λ (k : Cut). drop k.kept (take a.end a.text.now)) u.ensures;
      room = omega (arith, n, q.ensures.0);
    }
