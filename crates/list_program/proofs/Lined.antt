-- An answer with an empty line behind it: the answer is written into all places of a buffer but the last. Assumes nothing.
use Rattle.std.specs.Prelude.{Option, Some, is_some, unwrap_or}
use Rattle.std.proofs.Common.{◌≡◌, ◌≤◌, ◌<◌, ◌+◌, ◌-◌, ◌++◌, ℕ, Bool, true, false, List, [], ◌∷◌, refl, sym, ap, ◌∙◌, length, take, drop, set, arith, append_assoc, length-append, take-append-drop, length-take, length-drop, take_at, drop_at, drop-drop, drop-set-lt}
use Rattle.std.proofs.lemmas.List.{take_more_set}
use lib.Seq.{drop-append-le}
use Rattle.std.proofs.lemmas.Bool.{false≢true}
use borrow.Rule.Slice.PartMut.{put_mid}
use Rattle.base_spec.specs.Written.{placed}
use Rattle.list_program.specs.Cases.{Answered}
use Rattle.list_program.specs.AnsweredLaws.{answered}

-- a text before the places that it left, and a byte set behind it
ended : (t out w : List ℕ) (n : ℕ) → n ≡ length t → n < length out → w ≡ t ++ drop n out → set w n 10 ≡ placed out 0 (t ++ (10 ∷ []))
ended t out w n e m p =
    let long : length w ≡ length out = ap length p ∙ omega (arith, length-append t (drop n out), length-drop n out) in
    let front : take n w ≡ t = ap (take n) p ∙ take_at t (drop n out) n (sym e) in
    let back : drop (n + 1) w ≡ drop (n + 1) out = sym (drop-drop 1 n w) ∙ ap (drop 1) (ap (drop n) p ∙ drop_at t (drop n out) n (sym e)) ∙ drop-drop 1 n out in
    let size : n + 1 ≡ 0 + length (t ++ (10 ∷ [])) = omega (arith, length-append t (10 ∷ [])) in
    sym (take-append-drop (n + 1) (set w n 10))
    ∙ ap (λ l. l ++ drop (n + 1) (set w n 10)) (take_more_set w n 10 (omega (arith, long)) ∙ ap (λ l. l ++ (10 ∷ [])) front)
    ∙ ap (λ l. (t ++ (10 ∷ [])) ++ l) (drop-set-lt (n + 1) w n 10 (omega arith) ∙ back ∙ ap (λ k. drop k out) size)

-- what stands in a buffer whose front part holds a text
lent : (t out part : List ℕ) (n room : ℕ) → n ≡ length t → n ≤ length (take room out) → part ≡ placed (take room out) 0 t → put_mid 0 room out part ≡ t ++ drop n out
lent t out part n room e few p =
    let size : 0 + length t ≡ n = omega (arith, e) in
    let rest : drop (0 + length t) (take room out) ++ drop room out ≡ drop n out =
    ap (λ k. drop k (take room out) ++ drop room out) size ∙ sym (drop-append-le n (take room out) (drop room out) few) ∙ ap (drop n) (take-append-drop room out) in
    ap (λ l. l ++ drop room out) p ∙ append_assoc t _ _ ∙ ap (λ l. t ++ l) rest

pub lined : (b : Bool) (t : List ℕ) (out part : List ℕ) (n : ℕ) → 1 ≤ length out → Answered b t (take (length out - 1) out) part (Some n)
    → Answered b (t ++ (10 ∷ [])) out (set (put_mid 0 (length out - 1) out part) n 10) (Some (n + 1))
lined true t out part n h a =
    let room = length out - 1 in
    let e : n ≡ length t = ap (λ (o : Option ℕ). unwrap_or o 0) a.answer in
    let most : n < length out = omega (arith, a.few, length-take room out) in
    answered (t ++ (10 ∷ [])) (n + 1) refl (omega (arith, e, length-append t (10 ∷ []))) (ended t out _ n e most (lent t out part n room e a.few a.buffer)) (omega arith)
lined false t out part n h a = absurd (false≢true (sym (ap is_some a.answer)))
