-- The last pass, which writes the lines.
use Rattle.std.specs.Prelude.{ℕ, ◌+◌, ◌≤◌, ◌<◌, ◌≡◌, refl, Bool, cond, List, [], ◌∷◌, ◌++◌, length, drop}
use Rattle.std.proofs.Common.{sym, ap, ◌∙◌, subst, append-nil, append_assoc, arith, lt-ltb, le-ltb}
use Rattle.std.proofs.Math.Option.{Option}
use Rattle.read_spec.specs.Reading.{Reading}
use Rattle.read_spec.specs.Read.{read_of}
use Rattle.base_text.specs.Wrote.{Wrote}
use Rattle.base_text.specs.WroteLaws.{wrote_none, wrote_then}
use Rattle.unsheet_spec.specs.Lines.{ReadLine, address_at, lines_in}
use Rattle.unsheet_spec.specs.Text.{spelled_line}
use Rattle.unsheet_facts.specs.Lines.{lines_at, lines_after, lines_end}
use Rattle.unsheet_write.specs.declared.Taken.{Taken}
use Rattle.unsheet_write.specs.Survey.{taken_by, text_within}
use Rattle.unsheet_write.specs.SurveyLaws.{lines-all, at_line, goes, stops}

module _ (start : ℕ) (image : List ℕ) (lands : ℕ → Option ℕ) (out₀ : List ℕ) (from : ℕ) where
  -- come to a place: the text of the lines before it is written, up to `at`
  pub record Writing (place at : ℕ) (out : List ℕ) : Type 0 where
    pub there : place ≤ length image
    pub room : at ≤ 65910
    pub same : length out ≡ length out₀
    pub written : List ℕ
    pub wrote : Wrote out₀ from written out at
    pub text : text_within lands from (lines_in start image) ≡ written ++ text_within lands at (lines_at start image place)

  pub writing : from ≤ 65536 → Writing 0 from out₀
  writing h =
      record { there = omega arith; room = omega arith; same = refl; written = []; wrote = wrote_none out₀ from; text = ap (text_within lands from) (lines-all start image) }

  -- what the pass answers
  abbrev pub Answers : List ℕ → ℕ → Type 0
  Answers out at = Wrote out₀ from (text_within lands from (lines_in start image)) out at × (at ≤ 65910)

  -- nothing more is written where the text is long
  within_none : (at : ℕ) (ls : List ReadLine) → 65536 < at → text_within lands at ls ≡ []
  within_none at [] h = refl
  within_none at (l ∷ ls) h = rw (lt-ltb 65536 at h)

  module _ {place at : ℕ} {out : List ℕ} (s : Writing place at out) where
    all : text_within lands at (lines_at start image place) ≡ [] → Answers out at
    all e = (subst (λ (t : List ℕ). Wrote out₀ from t out at) (sym (s.text ∙ ap (λ (t : List ℕ). s.written ++ t) e ∙ append-nil s.written)) s.wrote, s.room)

    pub writing_end : length image ≤ place → Answers out at
    writing_end h = all (ap (text_within lands at) (lines_end start image place h))

    pub writing_long : 65536 < at → Answers out at
    writing_long h = all (within_none at (lines_at start image place) h)

    module _ (h : place < length image) (few : at ≤ 65536) {r : Reading} (e : r ≡ read_of (drop place image) (address_at start place))
        {out' : List ℕ} {at' : ℕ} (w : Wrote out at (spelled_line lands r) out' at') (near : at' ≤ at + 374) (wide : 65910 ≤ length out₀) (kept : length out' ≡ length out) where
      wrote_more : Wrote out₀ from (s.written ++ spelled_line lands r) out' at'
      wrote_more = wrote_then s.wrote w (omega arith)

      more_text : text_within lands from (lines_in start image) ≡ (s.written ++ spelled_line lands r) ++ text_within lands at' (lines_after start image place r)
      more_text =
          s.text
          ∙ ap (λ (ls : List ReadLine). s.written ++ text_within lands at ls) (at_line start image place h r e)
          ∙ ap (λ (b : Bool). s.written ++ cond b [] (spelled_line lands r ++ text_within lands (at + length (spelled_line lands r)) (lines_after start image place r))) (le-ltb 65536 at few)
          ∙ ap (λ (k : ℕ). s.written ++ (spelled_line lands r ++ text_within lands k (lines_after start image place r))) (sym w.next)
          ∙ sym (append_assoc s.written (spelled_line lands r) (text_within lands at' (lines_after start image place r)))

      module _ {l : Taken} (z : l ≡ taken_by r) where
        pub writing_stop : (l.number ≡ 0 → ⊥) → Answers out' at'
        writing_stop n =
            let t = stops start image place h r e (λ m. n (ap (λ (x : Taken). x.number) z ∙ m)) in (
              subst (λ (u : List ℕ). Wrote out₀ from u out' at')
                  (sym (more_text ∙ ap (λ (ls : List ReadLine). (s.written ++ spelled_line lands r) ++ text_within lands at' ls) t.alone ∙ append-nil (s.written ++ spelled_line lands r))) wrote_more,
              omega arith,
            )

        pub writing_next : l.number ≡ 0 → Writing (place + l.words) at' out' × (1 ≤ l.words)
        writing_next n =
            let g = goes start image place h r e (sym (ap (λ (x : Taken). x.number) z) ∙ n) in
            let k : (taken_by r).words ≡ l.words = sym (ap (λ (x : Taken). x.words) z) in (
              record {
                there = omega (arith, g.there, k);
                room = omega arith;
                same = kept ∙ s.same;
                written = s.written ++ spelled_line lands r;
                wrote = wrote_more;
                text = more_text ∙ ap (λ (ls : List ReadLine). (s.written ++ spelled_line lands r) ++ text_within lands at' ls) g.later
                    ∙ ap (λ (m : ℕ). (s.written ++ spelled_line lands r) ++ text_within lands at' (lines_at start image (place + m))) k;
              },
              omega (arith, g.some, k),
            )
