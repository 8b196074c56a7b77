-- However a text is cut into pieces, what is printed is the whole text explained. Assumes nothing.
use Prim.Native.Nat.{ℕ, ◌+◌, ◌-◌, ◌≤◌, ◌<◌}
use Rattle.std.specs.Prelude.{◌≡◌, Bool, cond}
use Rattle.std.proofs.Math.Path.{refl, sym, ap}
use Rattle.std.proofs.Common.{◌∙◌, take-append-drop, drop_of_length-le, take_all, drop-drop}
use Rattle.std.proofs.Math.Bool.{true, false}
use mathlib.Core.List.{List, [], ◌∷◌, ◌++◌, append_assoc, append-nil}
use native.Mathlib.Omega.{arith}
use Rattle.std.proofs.Math.Dec.{eqb, leb}
use Rattle.std.proofs.Math.ListN.{length, take, drop, length-drop}
use borrow.Author.Tests.{le-leb, leb-true, leb-false, eqb-true, eqb-false}
use Rattle.base_spec.specs.declared.Step.{Step}
use Rattle.base_spec.specs.Written.{placed}
use Rattle.base_spec.specs.Lines.{answers_of, answered_of, step_of}
use Rattle.explain_spec.specs.Explained.{explained_line, explained_from, explained, Explains}
use Rattle.explain_lines.specs.declared.Cut.{Cut}
use Rattle.explain_lines.specs.Cut.{ended_of, first_end, cut_from, cut_of, between, cut_text, printed_pieces, joined}
use Rattle.explain_lines.specs.CutLaws.{begun_on, begun_first, first_none, first_fits, long_on, lines_then, ended_rest, ended-fits, unended}

-- the places are in order; what is kept has no LF, and leaves room for a byte
pub record Kept (text : List ℕ) (c : Cut) : Type 0 where
  pub lines : c.passed ≤ c.ended
  pub rest : c.ended ≤ c.kept
  pub inside : c.kept ≤ length text
  pub room : length text - c.kept < 65536
  pub none : ended_of (drop c.kept text) ≡ 0

module _ (t : List ℕ) (p : ℕ) (h : p ≤ length t) where
  abbrev lines : ℕ
  lines = ended_of (drop p t)

  abbrev passing : Cut
  passing = record { passed = p; ended = p + lines; kept = length t; begun = true }

  abbrev keeping : Cut
  keeping = record { passed = p; ended = p + lines; kept = p + lines; begun = false }

  inside-ended : p + lines ≤ length t
  inside-ended = omega (arith, ended-fits (drop p t), length-drop p t)

  rest_is : drop lines (drop p t) ≡ drop (p + lines) t
  rest_is = drop-drop lines p t

  module _ (f : List ℕ) where
    -- the lines that are ended, and the rest
    parted : explained_from false (drop p t ++ f) ≡ answers_of explained_line (between p (p + lines) t) ++ explained_from false (drop (p + lines) t ++ f)
    parted =
        let q : lines ≡ p + lines - p = omega arith in
        ap (λ (s : List ℕ). explained_from false (s ++ f)) (sym (take-append-drop lines (drop p t)))
        ∙ ap (explained_from false) (append_assoc (take lines (drop p t)) (drop lines (drop p t)) f)
        ∙ lines_then (drop p t) (drop lines (drop p t) ++ f)
        ∙ (λ i. answers_of explained_line (take (q i) (drop p t)) ++ explained_from false (rest_is i ++ f))

    pub Cuts : Cut → Type 0
    Cuts c = explained_from false (drop p t ++ f) ≡ answers_of explained_line (between c.passed c.ended t) ++ between c.ended c.kept t ++ explained_from c.begun (drop c.kept t ++ f)

    short_cuts : Cuts keeping
    unfolding Cuts
    short_cuts =
        let q : p + lines - (p + lines) ≡ 0 = omega arith in
        let a = answers_of explained_line (between p (p + lines) t) in
        parted
        ∙ ap (λ (s : List ℕ). s ++ explained_from false (drop (p + lines) t ++ f)) (sym (append-nil a) ∙ ap (λ (n : ℕ). a ++ take n (drop (p + lines) t)) (sym q))

    long_cuts : 65536 ≤ length t - (p + lines) → Cuts passing
    unfolding Cuts
    long_cuts g =
        let r = drop (p + lines) t in
        let a = answers_of explained_line (between p (p + lines) t) in
        let n : ended_of r ≡ 0 = ap ended_of (sym rest_is) ∙ ended_rest (drop p t) in
        let d : [] ≡ drop (length t) t = sym (drop_of_length-le t {i = length t} (omega arith)) in
        let k : r ≡ between (p + lines) (length t) t = sym (take_all (length t - (p + lines)) r (omega (arith, length-drop (p + lines) t))) in
        parted ∙ ap (λ (s : List ℕ). a ++ s) (long_on r f n (omega (arith, length-drop (p + lines) t)))
        ∙ sym (append_assoc a r (explained_from true f))
        ∙ (λ i. a ++ k i ++ explained_from true (d i ++ f))

    cuts_from : Cuts (cut_from t p)
    unfolding cut_from
    cuts_from = go (leb 65536 (length t - (p + lines))) refl
      where
        go : (b : Bool) → leb 65536 (length t - (p + lines)) ≡ b → Cuts (cond b passing keeping)
        go true e = long_cuts (leb-true 65536 (length t - (p + lines)) e)
        go false e = short_cuts

  passed_from : (cut_from t p).passed ≡ p
  unfolding cut_from
  passed_from = go (leb 65536 (length t - (p + lines)))
    where
      go : (b : Bool) → (cond b passing keeping).passed ≡ p
      go true = refl
      go false = refl

  kept_from : Kept t (cut_from t p)
  unfolding cut_from
  kept_from = go (leb 65536 (length t - (p + lines))) refl
    where
      go : (b : Bool) → leb 65536 (length t - (p + lines)) ≡ b → Kept t (cond b passing keeping)
      go true e = record { lines = omega arith; rest = inside-ended; inside = omega arith; room = omega arith; none = ap ended_of (drop_of_length-le t {i = length t} (omega arith)) }
      go false e =
          record {
            lines = omega arith;
            rest = omega arith;
            inside = inside-ended;
            room = omega (arith, leb-false 65536 (length t - (p + lines)) e);
            none = ap ended_of (sym rest_is) ∙ ended_rest (drop p t);
          }

-- a text is printed up to what is kept, whatever follows it
module _ (t : List ℕ) where
  abbrev whole : Cut
  whole = record { passed = length t; ended = length t; kept = length t; begun = true }

  module _ (f : List ℕ) where
    cut_from_lem : (p : ℕ) → p ≤ length t → take p t ++ explained_from false (drop p t ++ f) ≡ cut_text (cut_from t p) t ++ explained_from (cut_from t p).begun (drop (cut_from t p).kept t ++ f)
    unfolding Cuts
    cut_from_lem p h =
        let c = cut_from t p in
        let a = answers_of explained_line (between c.passed c.ended t) in
        let b = between c.ended c.kept t in
        let x = explained_from c.begun (drop c.kept t ++ f) in
        ap (λ (s : List ℕ). take p t ++ s) (cuts_from t p h f ∙ append_assoc a b x)
        ∙ ap (λ (n : ℕ). take n t ++ (a ++ (b ++ x))) (sym (passed_from t p h))
        ∙ sym (append_assoc (take c.passed t) a (b ++ x))
        ∙ sym (append_assoc (take c.passed t ++ a) b x)

    cut_whole : first_end t ≡ 0 → explained_from true (t ++ f) ≡ cut_text whole t ++ explained_from true (drop (length t) t ++ f)
    unfolding answers_of
    cut_whole h =
        let n : 0 ≡ length t - length t = omega arith in
        let d : [] ≡ drop (length t) t = sym (drop_of_length-le t {i = length t} (omega arith)) in
        let w : t ≡ take (length t) t = sym (take_all (length t) t (omega arith)) in
        let z : List ℕ = answers_of explained_line [] in
        begun_on t f (first_none t h)
        ∙ ap (λ (s : List ℕ). s ++ explained_from true f) (sym (append-nil t) ∙ ap (λ (s : List ℕ). s ++ []) (sym (append-nil t)))
        ∙ (λ i. w i ++ answers_of explained_line (take (n i) (drop (length t) t)) ++ take (n i) (drop (length t) t) ++ explained_from true (d i ++ f))

    pub cut_law : (begun : Bool) → explained_from begun (t ++ f) ≡ cut_text (cut_of begun t) t ++ explained_from (cut_of begun t).begun (drop (cut_of begun t).kept t ++ f)
    unfolding cut_of
    cut_law false = cut_from_lem 0 (omega arith)
    cut_law true = go (eqb (first_end t) 0) refl
      where
        go : (b : Bool) → eqb (first_end t) 0 ≡ b
            → explained_from true (t ++ f)
            ≡ cut_text (cond b whole (cut_from t (first_end t))) t ++ explained_from (cond b whole (cut_from t (first_end t))).begun (drop (cond b whole (cut_from t (first_end t))).kept t ++ f)
        go true e = cut_whole (eqb-true (first_end t) 0 e)
        go false e = begun_first t f (eqb-false (first_end t) 0 e) ∙ cut_from_lem (first_end t) (first_fits t)

  pub cut_kept : (begun : Bool) → Kept t (cut_of begun t)
  unfolding cut_of
  cut_kept false = kept_from t 0 (omega arith)
  cut_kept true = go (eqb (first_end t) 0)
    where
      go : (b : Bool) → Kept t (cond b whole (cut_from t (first_end t)))
      go true = record { lines = omega arith; rest = omega arith; inside = omega arith; room = omega arith; none = ap ended_of (drop_of_length-le t {i = length t} (omega arith)) }
      go false = kept_from t (first_end t) (first_fits t)

pieces_on : (begun : Bool) (kept : List ℕ) (ps : List (List ℕ)) → ended_of kept ≡ 0 → printed_pieces begun kept ps ≡ explained_from begun (kept ++ joined ps)
pieces_on begun kept [] h = sym (unended begun kept h)
pieces_on begun kept (p ∷ ps) h =
    let t = kept ++ p in
    let c = cut_of begun t in
    ap (λ (s : List ℕ). cut_text c t ++ s) (pieces_on c.begun (drop c.kept t) ps (cut_kept t begun).none)
    ∙ sym (cut_law t (joined ps) begun) ∙ ap (explained_from begun) (append_assoc kept p (joined ps))

pub pieces : (ps : List (List ℕ)) → printed_pieces false [] ps ≡ explained (joined ps)
pieces ps = pieces_on false [] ps refl

-- a text that is no longer than the buffer is explained
pub explains_short : {text out out' : List ℕ} {from : ℕ} {r : Step} → length text ≤ 65536 → Explains text from out out' r
    → (r ≡ step_of explained_line 73728 text from (length out)) × (out' ≡ placed out 0 (answered_of explained_line 73728 text from (length out)))
explains_short {text} {out} {out'} {from} {r} h e =
    let t = le-leb (length text) 65536 h in (
      e.step ∙ ap (λ (b : Bool). cond b (step_of explained_line 73728 text from (length out)) (record { next = from; count = 0 })) t,
      e.buffer ∙ ap (λ (b : Bool). cond b (placed out 0 (answered_of explained_line 73728 text from (length out))) out) t,
    )
