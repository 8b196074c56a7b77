-- Laws of the comparison's steps. Assumes nothing.
use mathlib.Core.Path.{◌≡◌, refl, sym, ap, ◌∙◌}
use mathlib.Core.Bool.{Bool, true, false, ◌&&◌}
use mathlib.Core.List.{List}
use Prim.Native.Nat.{ℕ, ◌≤◌}
use native.Mathlib.Omega.{arith}
use lib.Dec.{eqb}
use lib.ListN.{length, take, get_or, length-take}
use borrow.Author.Tests.{eqb-true, ne_eqb}
use Rattle.sheet_spec.specs.Line.{equal}
use Rattle.sheet_spec.specs.declared.Listed.{Listed}
use Rattle.sheet_spec.specs.Sheet.{start_in, sheet_in, line_count, word_count, image}
use Rattle.sheet_spec.specs.Translate.{full, Outcome, in_order, refused, outcome_of, listed_as, listed_of, image_of, scratch_of, is_in_order, same_at, same}
use Rattle.sheet_size_facts.specs.Scratch.{full-filled}
use Rattle.sheet_size_facts.specs.Outcomes.{accepted}
use Rattle.sheet_facts.specs.SheetLaws.{count_some}
use Rattle.sheet_size_facts.specs.Bounds.{address_is}
use Rattle.sheet_spec.specs.Promises.{Translated}
use Rattle.sheet_size_facts.specs.OutcomeLaws.{Sound, outcome_sound}
use Rattle.sheet_translate.specs.PlaceLaws.{scratch_length, image_length, words_fit}
use Rattle.sheet_translate.specs.Left.{left}

-- an answer's number is 0 exactly where nothing is refused
fine_number : (w : Outcome) → Sound w → (lines words : ℕ) → eqb (listed_as w lines words).number 0 ≡ is_in_order w
fine_number in_order s lines words = refl
fine_number (refused number line detail value) s lines words = ne_eqb number 0 s

-- ---- one sheet translated with room enough
module _ (text v s v' s' : List ℕ) (r : Listed) (t : Translated full text v s v' s' r) where
  pub fits : r.words ≤ length v'
  fits = omega (arith, ap (λ (x : Listed). x.words) t.listed, words_fit full text (length s) (length v), ap length t.image, image_length full text (length s) v)

  pub lent : r.words ≡ length (take r.words v')
  lent = rw length-take (omega (arith, fits))

  keeps : length s' ≡ length s
  keeps = ap length t.scratch ∙ scratch_length full-filled text s v

  start_left : r.number ≡ 0 → get_or s' 0 0 ≡ (sheet_in text).start
  start_left h =
      let l = left full-filled text v s v' s' r t h in
      let some = count_some text (accepted text (start_in text) (length s) (length v) l.accepts).sheet in
      omega (arith, l.places 1 (omega arith) (omega arith), address_is (sheet_in text) 1 (omega arith) some)

  judged : 4096 ≡ length s → 45056 ≡ length v → eqb r.number 0 ≡ is_in_order (outcome_of full text 4096 45056)
  unfolding listed_of
  judged h g =
      ap (λ (x : Listed). eqb x.number 0) t.listed
      ∙ fine_number (outcome_of full text (length s) (length v)) (outcome_sound full text (start_in text) (length s) (length v)) (line_count (sheet_in text)) (word_count (sheet_in text))
      ∙ ap (λ (k : ℕ). is_in_order (outcome_of full text k (length v))) (sym h)
      ∙ ap (λ (k : ℕ). is_in_order (outcome_of full text 4096 k)) (sym g)

both : (x y a b c d : Bool) → (x ≡ true → y ≡ true → (a ≡ c) × (b ≡ d)) → x && y && a && b ≡ x && y && c && d
both true true a b c d f = let e = f refl refl in rw (e.0, e.1)
both true false a b c d f = refl
both false y a b c d f = refl

-- ---- two sheets, one after the other
module _ (f g v w s : List ℕ) (h : (4096 ≡ length s) × (45056 ≡ length v) × (45056 ≡ length w))
    (v' s₁ : List ℕ) (a : Listed) (t : Translated full f v s v' s₁ a) (w' s₂ : List ℕ) (b : Listed) (u : Translated full g w s₁ w' s₂ b) where
  compared : eqb a.number 0 && eqb b.number 0 && eqb (get_or s₁ 0 0) (get_or s₂ 0 0) && equal (take a.words v') (take b.words w') ≡ same f g
  unfolding same_at
  compared =
      let x = judged f v s v' s₁ a t h.0 h.1 in
      let y = judged g w s₁ w' s₂ b u (h.0 ∙ sym (keeps f v s v' s₁ a t)) h.2 in
      both (eqb a.number 0) (eqb b.number 0) (eqb (get_or s₁ 0 0) (get_or s₂ 0 0)) (equal (take a.words v') (take b.words w'))
      (eqb (sheet_in f).start (sheet_in g).start) (equal (image (sheet_in f)) (image (sheet_in g))) alike
      ∙ rw (x, y)
    where
      alike : eqb a.number 0 ≡ true → eqb b.number 0 ≡ true
          → (eqb (get_or s₁ 0 0) (get_or s₂ 0 0) ≡ eqb (sheet_in f).start (sheet_in g).start) × (equal (take a.words v') (take b.words w') ≡ equal (image (sheet_in f)) (image (sheet_in g)))
      alike p q =
          let m = eqb-true a.number 0 p in
          let n = eqb-true b.number 0 q in (
            rw (start_left f v s v' s₁ a t m, start_left g w s₁ w' s₂ b u n),
            rw ((left full-filled f v s v' s₁ a t m).words, (left full-filled g w s₁ w' s₂ b u n).words),
          )

  pub comparison : (q : Bool) → q ≡ equal (take a.words v') (take b.words w')
      → (eqb a.number 0 && eqb b.number 0 && eqb (get_or s₁ 0 0) (get_or s₂ 0 0) && q ≡ same f g) × (v' ≡ image_of full f (length s) v) × (w' ≡ image_of full g (length s) w)
      × (s₂ ≡ scratch_of full g (scratch_of full f s v) w)
  comparison q e = (
    rw e compared,
    t.image,
    u.image ∙ ap (λ (k : ℕ). image_of full g k w) (keeps f v s v' s₁ a t),
    u.scratch ∙ ap (λ (l : List ℕ). scratch_of full g l w) t.scratch,
  )
