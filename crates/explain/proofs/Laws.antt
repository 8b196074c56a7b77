-- Laws of a piece that is read and printed. Assumes nothing.
use Rattle.std.specs.Prelude.{Result, Ok, Err, OnOk}
use Rattle.std.proofs.Common.{◌≡◌, ◌+◌, ◌-◌, ◌≤◌, ◌++◌, ℕ, Bool, List, [], sym, ap, ◌∙◌, arith, le_refl, length, take, drop, append_assoc, append-nil, length-take-le, length-drop, drop_at}
use Rattle.std.proofs.Math.Seq.{take-append_seam}
use Rattle.std.proofs.lemmas.List.{drop_all}
use Rattle.std.proofs.lemmas.Slice.{take-put_mid_below}
use borrow.Rule.Slice.PartMut.{put_mid, post_of}
use lib.Seq.{take-add, take_at, take-append-le}
use Rattle.base_spec.specs.Written.{placed}
use Rattle.base_spec.specs.Lines.{answers_of, answered_of, step_of}
use Rattle.base_spec.specs.declared.Step.{Step}
use Rattle.base_text.specs.LinesLaws.{answers_all}
use Rattle.explain_spec.specs.Explained.{explained_line, explained, explained_from}
use Rattle.explain_lines.specs.Cut.{ended_of, cut_of, between, cut_text}
use Rattle.explain_lines.specs.CutLaws.{unended}
use Rattle.explain_lines.specs.Pieces.{cut_law}

pub on_ok : {T E P Q : Type 0} (r : Result T E) → (P → Q) → OnOk r P → OnOk r Q
on_ok (Ok x) f p = f p
on_ok (Err e) f p = p

-- a step's places hold the lines that it explained, and the rest is still to be explained
pub step_lines : (need : ℕ) (text : List ℕ) (from : ℕ) (buf out : List ℕ) (r : Step)
    → (r ≡ step_of explained_line need text from (length buf)) × (out ≡ placed buf 0 (answered_of explained_line need text from (length buf)))
    → answers_of explained_line (drop from text) ≡ take r.count out ++ answers_of explained_line (drop r.next text)
unfolding step_of
step_lines need text from buf out r (e, f) =
    let t = answered_of explained_line need text from (length buf) in
    let says : take r.count out ≡ t = rw (e, f) (take-append_seam t (drop (0 + length t) buf)) in
    rw (says, e) (answers_all explained_line need text from (length buf))

pub lines_end : (text : List ℕ) (from : ℕ) (done : List ℕ) → length text ≤ from → done ++ answers_of explained_line (drop from text) ≡ done
unfolding answers_of
lines_end text from done h = rw (drop_all from text h) (append-nil done)

-- what stands before a part that was read into, and the first n places of that part
pub take_put_mid_more : (a k n : ℕ) (xs ys : List ℕ) → a ≤ length xs → n ≤ length ys → take (a + n) (put_mid a k xs ys) ≡ take a xs ++ take n ys
take_put_mid_more a k n xs ys within fits =
    take-add a n (put_mid a k xs ys)
    ∙ ap (λ l. l ++ take n (drop a (put_mid a k xs ys))) (take-put_mid_below _ _ _ _ _ (le_refl _) within)
    ∙ ap (λ l. take a xs ++ take n l) (drop_at (take a xs) (ys ++ post_of a k xs) a (length-take-le a xs within))
    ∙ ap (λ l. take a xs ++ l) (take-append-le n ys (post_of a k xs) fits)

-- the rest of a beginning
drop_take : (a e : ℕ) (l : List ℕ) → a ≤ e → e ≤ length l → drop a (take e l) ≡ take (e - a) (drop a l)
drop_take a e l h g =
    let sum : a + (e - a) ≡ e = omega arith in
    ap (λ (k : ℕ). drop a (take k l)) (sym sum) ∙ ap (drop a) (take-add a (e - a) l)
    ∙ drop_at (take a l) (take (e - a) (drop a l)) a (length-take-le a l (omega arith))

-- what is moved to the front
pub kept_front : (text text' : List ℕ) (kept end m : ℕ) → kept ≤ end → end ≤ length text → m ≡ end - kept → text' ≡ placed text 0 (between kept end text)
    → take m text' ≡ drop kept (take end text)
kept_front text text' kept end m h g counts e =
    let rest = between kept end text in
    let long : length rest ≡ m = length-take-le (end - kept) (drop kept text) (omega (arith, length-drop kept text)) ∙ sym counts in
    ap (take m) e ∙ take_at rest (drop (0 + length rest) text) m long ∙ sym (drop_take kept end text h g)

-- what is printed so far, and what is still to be printed of what was kept and comes next
pub turn_on : (read done kept piece t kept' : List ℕ) (begun begun' : Bool) → ((next : List ℕ) → explained (read ++ next) ≡ done ++ explained_from begun (kept ++ next))
    → t ≡ kept ++ piece → begun' ≡ (cut_of begun t).begun → kept' ≡ drop (cut_of begun t).kept t
    → (next : List ℕ) → explained ((read ++ piece) ++ next) ≡ (done ++ cut_text (cut_of begun t) t) ++ explained_from begun' (kept' ++ next)
turn_on read done kept piece t kept' begun begun' h e b k next =
    let c = cut_of begun t in
    ap explained (append_assoc read piece next)
    ∙ h (piece ++ next)
    ∙ ap (λ (s : List ℕ). done ++ explained_from begun s) (sym (append_assoc kept piece next) ∙ ap (λ (s : List ℕ). s ++ next) (sym e))
    ∙ ap (λ (s : List ℕ). done ++ s) (cut_law t next begun)
    ∙ sym (append_assoc done (cut_text c t) (explained_from c.begun (drop c.kept t ++ next)))
    ∙ (λ i. (done ++ cut_text c t) ++ explained_from (sym b i) (sym k i ++ next))

-- and where nothing comes next
pub turn_end : (read done kept : List ℕ) (begun : Bool) → ((next : List ℕ) → explained (read ++ next) ≡ done ++ explained_from begun (kept ++ next)) → ended_of kept ≡ 0
    → explained (read ++ []) ≡ done ++ kept
turn_end read done kept begun h n = h [] ∙ ap (λ (s : List ℕ). done ++ s) (unended begun kept n)
