-- Laws of what is printed for a text, line by line. Assumes nothing.
use Rattle.std.specs.Prelude.{◌≡◌, refl, Bool, true, false, cond, ℕ, zero, suc, ◌+◌, ◌-◌, ◌≤◌, ◌<◌, take, drop, eqb, ltb}
use Rattle.std.proofs.Math.Path.{ap}
use Rattle.std.proofs.Common.{sym, ◌∙◌, subst, arith, length-take, length-drop, drop-drop, lt-ltb, le-ltb}
use mathlib.Core.List.{List, [], ◌∷◌, ◌++◌, append_assoc, append-nil}
use Rattle.std.proofs.Math.ListN.{length, length-append}
use Rattle.base_text.specs.Parts.{before, part_end}
use Rattle.base_spec.specs.Parts.{onto}
use Rattle.base_text.specs.PartLaws.{part_is}
use Rattle.base_text.specs.Wrote.{Wrote}
use Rattle.base_text.specs.WroteLaws.{wrote_none, wrote_then}
use Rattle.base_spec.specs.Written.{placed}
use Rattle.base_spec.specs.declared.Step.{Step}
use Rattle.base_spec.specs.Lines.{lines_of, answers_to, answers_of, fitting, span_of, answered_of, step_of}

lines_first : (b : ℕ) (bs : List ℕ) → lines_of (b ∷ bs) ≡ before 10 (b ∷ bs) ∷ lines_of (drop (suc (length (before 10 (b ∷ bs)))) (b ∷ bs))
lines_first b [] = go (eqb b 10)
  where
    go : (t : Bool) → cond t ([] ∷ []) ((b ∷ []) ∷ []) ≡ cond t [] (b ∷ []) ∷ lines_of (drop (suc (length (cond t [] (b ∷ [])))) (b ∷ []))
    go true = refl
    go false = refl
lines_first b (d ∷ bs) = go (eqb b 10) (lines_first d bs)
  where
    go : (t : Bool) → lines_of (d ∷ bs) ≡ before 10 (d ∷ bs) ∷ lines_of (drop (suc (length (before 10 (d ∷ bs)))) (d ∷ bs))
        → cond t ([] ∷ lines_of (d ∷ bs)) (onto b (lines_of (d ∷ bs)))
        ≡ cond t [] (b ∷ before 10 (d ∷ bs)) ∷ lines_of (drop (suc (length (cond t [] (b ∷ before 10 (d ∷ bs))))) (b ∷ d ∷ bs))
    go true e = refl
    go false e = ap (onto b) e

lines_of_lem : (l : List ℕ) → 0 < length l → lines_of l ≡ before 10 l ∷ lines_of (drop (suc (length (before 10 l))) l)
lines_of_lem [] h = absurd (omega arith)
lines_of_lem (b ∷ bs) h = lines_first b bs

drop_all : (l : List ℕ) (n : ℕ) → length l ≤ n → drop n l ≡ []
drop_all [] zero h = refl
drop_all [] (suc n) h = refl
drop_all (b ∷ bs) zero h = absurd (omega arith)
drop_all (b ∷ bs) (suc n) h = drop_all bs n (omega arith)

pub lines_next : (text : List ℕ) (from e : ℕ) → from < length text → e ≡ part_end 10 text from
    → lines_of (drop from text) ≡ take (e - from) (drop from text) ∷ lines_of (drop (e + 1) text)
lines_next text from e h g =
    let q : from + suc (length (before 10 (drop from text))) ≡ e + 1 = omega arith in
    rw (part_is 10 text from e g, lines_of_lem (drop from text) (omega (arith, length-drop from text)), drop-drop (suc (length (before 10 (drop from text)))) from text, q)

-- a walk over the lines from `from` on has come to `next`, with `at` places of buf written, which makes it out
pub record Walked (answer : List ℕ → List ℕ) (need : ℕ) (text : List ℕ) (from : ℕ) (buf out : List ℕ) (next at : ℕ) : Type 0 where
  pub done : List (List ℕ)
  pub lines : fitting answer need (length buf) (lines_of (drop from text)) ≡ done ++ fitting answer need (length buf - at) (lines_of (drop next text))
  pub reached : next ≡ from + span_of done
  pub wrote : Wrote buf 0 (answers_to answer done) out at

span_more : (ls : List (List ℕ)) (l : List ℕ) → span_of (ls ++ (l ∷ [])) ≡ span_of ls + (length l + 1)
span_more [] l = omega arith
span_more (k ∷ ls) l = omega (arith, span_more ls l)

module _ (answer : List ℕ → List ℕ) where
  answers_more : (ls : List (List ℕ)) (l : List ℕ) → answers_to answer (ls ++ (l ∷ [])) ≡ answers_to answer ls ++ answer l
  answers_more [] l = append-nil (answer l)
  answers_more (k ∷ ls) l = ap (λ (t : List ℕ). answer k ++ t) (answers_more ls l) ∙ sym (append_assoc (answer k) (answers_to answer ls) (answer l))

  module _ (need : ℕ) (text : List ℕ) (from : ℕ) (buf : List ℕ) where
    pub walked_start : Walked answer need text from buf buf from 0
    walked_start =
        let q : length buf - 0 ≡ length buf = omega arith in
        record { done = []; lines = rw q; reached = omega arith; wrote = wrote_none buf 0 }

    -- it goes on by one line
    pub walked_on : {mid out : List ℕ} {next at r : ℕ} (e : ℕ) → Walked answer need text from buf mid next at → next < length text → e ≡ part_end 10 text next → e ≤ length text
        → need ≤ length buf - at → Wrote mid at (answer (take (e - next) (drop next text))) out r → r ≤ length buf → Walked answer need text from buf out (e + 1) r
    walked_on {mid} {out} {next} {at} {r} e w h g m k v f =
        let line = take (e - next) (drop next text) in
        let q : length buf - at - length (answer line) ≡ length buf - r = omega (arith, v.next) in
        let b : next ≤ e = omega arith in
        let n : length line ≡ e - next = rw (length-take, length-drop) (omega arith) in
        let one : fitting answer need (length buf - at) (lines_of (drop next text)) ≡ line ∷ fitting answer need (length buf - r) (lines_of (drop (e + 1) text)) =
        rw (lines_next text next e h g, le-ltb (length buf - at) need k, q) in
        record {
          done = w.done ++ (line ∷ []);
          lines = w.lines ∙ ap (λ (t : List (List ℕ)). w.done ++ t) one ∙ sym (append_assoc w.done (line ∷ []) (fitting answer need (length buf - r) (lines_of (drop (e + 1) text))));
          reached = omega (arith, w.reached, span_more w.done line, n);
          wrote = rw (answers_more w.done line) (wrote_then w.wrote v f);
        }

    -- it stops where the room or the text ends
    module _ {out : List ℕ} {next at : ℕ} (w : Walked answer need text from buf out next at) where
      stopped : fitting answer need (length buf - at) (lines_of (drop next text)) ≡ []
          → (record { next = next; count = at } ≡ step_of answer need text from (length buf)) × (out ≡ placed buf 0 (answered_of answer need text from (length buf)))
      unfolding step_of answered_of
      stopped e =
          let d : fitting answer need (length buf) (lines_of (drop from text)) ≡ w.done = w.lines ∙ ap (λ (t : List (List ℕ)). w.done ++ t) e ∙ append-nil w.done in
          let stops : at ≡ length (answers_to answer w.done) = omega (arith, w.wrote.next) in
          rw d ((λ i. record { next = w.reached i; count = stops i }), w.wrote.image)

      full : (ls : List (List ℕ)) → length buf - at < need → fitting answer need (length buf - at) ls ≡ []
      full [] h = refl
      full (l ∷ ls) h = rw (lt-ltb (length buf - at) need h)

      pub walked_full : length buf - at < need
          → (record { next = next; count = at } ≡ step_of answer need text from (length buf)) × (out ≡ placed buf 0 (answered_of answer need text from (length buf)))
      walked_full h = stopped (full (lines_of (drop next text)) h)

      pub walked_end : length text ≤ next
          → (record { next = next; count = at } ≡ step_of answer need text from (length buf)) × (out ≡ placed buf 0 (answered_of answer need text from (length buf)))
      walked_end h = stopped (rw (drop_all text next h))

  -- what is written fits
  pub step_room : {out : List ℕ} {r : Step} (need : ℕ) (text : List ℕ) (from : ℕ) (buf : List ℕ)
      → (r ≡ step_of answer need text from (length buf)) × (out ≡ placed buf 0 (answered_of answer need text from (length buf))) → length out ≡ length buf → r.count ≤ length buf
  unfolding step_of
  step_room {out} {r} need text from buf (e, f) h =
      let t = answered_of answer need text from (length buf) in
      let n : r.count ≡ length t = ap (λ (s : Step). s.count) e in
      omega (arith, n, ap length f, length-append t (drop (0 + length t) buf))

  module _ (need : ℕ) where
    abbrev AllLines : ℕ → List ℕ → List (List ℕ) → Type 0
    AllLines room s ls = answers_to answer ls ≡ answers_to answer (fitting answer need room ls) ++ answers_to answer (lines_of (drop (span_of (fitting answer need room ls)) s))

    lines_step : (k : ℕ) → ((s : List ℕ) (room : ℕ) → length s ≤ k → AllLines room s (lines_of s)) → (s : List ℕ) (room : ℕ) → length s ≤ suc k → AllLines room s (lines_of s)
    lines_step k f [] room h = refl
    lines_step k f (b ∷ bs) room h = subst (AllLines room (b ∷ bs)) (sym (lines_first b bs)) (go (ltb room need))
      where
        l : List ℕ
        l = before 10 (b ∷ bs)

        rest : List ℕ
        rest = drop (suc (length l)) (b ∷ bs)

        left : ℕ
        left = room - length (answer l)

        fits : List (List ℕ)
        fits = fitting answer need left (lines_of rest)

        far : drop (span_of fits) rest ≡ drop (length l + 1 + span_of fits) (b ∷ bs)
        far = let q : suc (length l) + span_of fits ≡ length l + 1 + span_of fits = omega arith in drop-drop (span_of fits) (suc (length l)) (b ∷ bs) ∙ ap (λ (n : ℕ). drop n (b ∷ bs)) q

        go : (t : Bool) → answers_to answer (l ∷ lines_of rest)
            ≡ answers_to answer (cond t [] (l ∷ fits)) ++ answers_to answer (lines_of (drop (span_of (cond t [] (l ∷ fits))) (b ∷ bs)))
        go true = ap (answers_to answer) (sym (lines_first b bs))
        go false =
            ap (λ (t : List ℕ). answer l ++ t) (f rest left (omega (arith, length-drop (suc (length l)) (b ∷ bs))))
            ∙ ap (λ (t : List ℕ). answer l ++ (answers_to answer fits ++ answers_to answer (lines_of t))) far
            ∙ sym (append_assoc (answer l) (answers_to answer fits) (answers_to answer (lines_of (drop (length l + 1 + span_of fits) (b ∷ bs)))))

    all_lines : (k : ℕ) (s : List ℕ) (room : ℕ) → length s ≤ k → AllLines room s (lines_of s)
    all_lines zero [] room h = refl
    all_lines zero (b ∷ bs) room h = absurd (omega arith)
    all_lines (suc k) s room h = lines_step k (all_lines k) s room h

-- a step goes on where there is room
pub step_onward : (answer : List ℕ → List ℕ) (need : ℕ) (text : List ℕ) (from room : ℕ) → from < length text → need ≤ room → from < (step_of answer need text from room).next
unfolding step_of
step_onward answer need text from room h g =
    rw (lines_of_lem (drop from text) (omega (arith, length-drop from text)), le-ltb room need g) (omega arith)

-- and the steps print the answers to all lines
pub answers_all : (answer : List ℕ → List ℕ) (need : ℕ) (text : List ℕ) (from room : ℕ)
    → answers_of answer (drop from text) ≡ answered_of answer need text from room ++ answers_of answer (drop (step_of answer need text from room).next text)
unfolding answers_of answered_of step_of
answers_all answer need text from room =
    let fits = fitting answer need room (lines_of (drop from text)) in
    all_lines answer need (length (drop from text)) (drop from text) room (omega arith)
    ∙ ap (λ (t : List ℕ). answers_to answer fits ++ answers_to answer (lines_of t)) (drop-drop (span_of fits) from text)
