-- From what the passes give to what is answered and left.
use Rattle.std.specs.Prelude.{ℕ, ◌+◌, ◌*◌, ◌%◌, ◌^◌, ◌≤◌, ◌<◌, ◌≡◌, Bool, true, false, ◌&&◌, List, [], ◌∷◌, ◌++◌, leb, eqb, pos, length, drop, take, get_or, replicate}
use Rattle.std.proofs.Math.Path.{refl, ap}
use Rattle.std.proofs.Common.{sym, ◌∙◌, subst, arith, take_at}
use Rattle.std.proofs.Math.Option.{Option}
use Rattle.std.proofs.lemmas.List.{length-replicate, get_or-replicate}
use borrow.Author.Tests.{le-leb, lt-leb, eq-eqb, ne_eqb}
use Rattle.base_spec.specs.Written.{placed}
use Rattle.base_facts.specs.Lists.{outside}
use Rattle.base_facts.specs.Tests.{Lt, less, past, lt?, and-false}
use Rattle.base_text.specs.Wrote.{Wrote}
use Rattle.base_text.specs.WroteLaws.{wrote_then}
use Rattle.sheet_spec.specs.Promises.{start_text}
use Rattle.sheet_spec.specs.Sheet.{end_of}
use Rattle.sheet_spec.specs.Translate.{Outcome, in_order, refused, and_then, require, image_as}
use Rattle.unsheet_spec.specs.declared.Unsheeted.{Unsheeted}
use Rattle.unsheet_spec.specs.Lines.{ReadLine, lines_in, landing}
use Rattle.unsheet_spec.specs.Text.{text_by, sheet_text}
use Rattle.unsheet_spec.specs.Unsheet.{length_outcome, landed_outcome, found_outcome, unsheet_outcome, unsheeted_as, unsheeted_of, bytes_left}
use Rattle.unsheet_spec.specs.Promises.{SheetFound}
use Rattle.unsheet_facts.specs.Lines.{Spaced, Below, lines_spaced, lines-below}
use Rattle.unsheet_line.specs.Table.{lands_in}
use Rattle.unsheet_write.specs.declared.Surveyed.{Surveyed}
use Rattle.unsheet_write.specs.Survey.{surveyed, numbered, astray, text_within}
use Rattle.unsheet_write.specs.Chain.{Gives}
use Rattle.unsheet_write.specs.ChainLaws.{survey_fine, survey_refused, astray_off, astray-none, part_text, fits_not, written_is, fits_lent, fits_both}
use Rattle.unsheet_write.specs.TableIs.{table_lands}

-- refused, with a place
abbrev pub refused_at : ℕ → ℕ → Unsheeted
refused_at number place = unsheeted_as (refused number 0 0 (pos place)) 0 0

pub turned : {o : Outcome} {number place : ℕ} {r : Unsheeted} (t : List ℕ) (lines : ℕ) (lent : List ℕ) → o ≡ refused number 0 0 (pos place) → r ≡ refused_at number place → Gives o t lines lent lent r
turned t lines lent e q =
    record { answer = q ∙ ap (λ (o : Outcome). unsheeted_as o (length t) lines) (sym e); bytes = ap (λ (o : Outcome). image_as o t lent) (sym e) }

pub alike : {o p : Outcome} {t lent lent' : List ℕ} {lines : ℕ} {r : Unsheeted} → o ≡ p → Gives p t lines lent lent' r → Gives o t lines lent lent' r
alike {o} {p} {t} {lent} {lent'} {lines} {r} e u = subst (λ (x : Outcome). Gives x t lines lent lent' r) (sym e) u

-- ---- the text, or 17
module _ (lands : ℕ → Option ℕ) (start : ℕ) (ls : List ReadLine) (lines : ℕ) (lent : List ℕ) {out₀ out₁ out : List ℕ} {from n : ℕ}
    (w : Wrote out₀ 0 (start_text start ++ (10 ∷ [])) out₁ from) (v : Wrote out₁ from (text_within lands from ls) out n) (room : n ≤ length out₀) where
  whole : Wrote out₀ 0 (part_text lands start (length lent) ls) out n
  whole =
      let e : from ≡ length (start_text start ++ (10 ∷ [])) = omega (arith, w.next) in
      wrote_then w (subst (λ (k : ℕ). Wrote out₁ from (text_within lands k ls) out n) e v) room

  long : n ≡ length (part_text lands start (length lent) ls)
  long = omega (arith, whole.next)

  front : take n out ≡ part_text lands start (length lent) ls
  front = ap (take n) whole.image ∙ take_at (part_text lands start (length lent) ls) (drop (0 + length (part_text lands start (length lent) ls)) out₀) n (sym long)

  pub front_length : n ≡ length (take n out)
  front_length = long ∙ ap (λ (t : List ℕ). length t) (sym front)

  abbrev Answer : List ℕ → Unsheeted → Type 0
  Answer lent' r = Gives (length_outcome (text_by lands start ls) (length lent)) (text_by lands start ls) lines lent lent' r

  pub too_long : 65536 < n → {r : Unsheeted} → r ≡ refused_at 17 0 → Answer lent r
  too_long h q = turned (text_by lands start ls) lines lent (fits_not lands start (length lent) ls (omega (arith, long))) q

  pub too_few : n ≤ 65536 → length lent < n → {r : Unsheeted} → r ≡ refused_at 17 0 → Answer lent r
  too_few h g q = turned (text_by lands start ls) lines lent (fits_lent lands start (length lent) ls (omega (arith, long)) (omega (arith, long))) q

  pub in_full : n ≤ 65536 → n ≤ length lent → {lent' : List ℕ} → lent' ≡ placed lent 0 (take n out) → Answer lent' (record { bytes = n; lines = lines; number = 0; value = pos 0 })
  in_full h g {lent'} p =
      let t = text_by lands start ls in
      let is : part_text lands start (length lent) ls ≡ t = written_is lands start (length lent) ls (omega (arith, long)) in
      let e : length_outcome t (length lent) ≡ in_order = fits_both lands start (length lent) ls (omega (arith, long)) (omega (arith, long)) in
      let k : n ≡ length t = long ∙ ap (λ (x : List ℕ). length x) is in
      let z : 0 + length t ≡ length t = omega arith in
      record {
        answer = ap (λ (m : ℕ). record { bytes = m; lines = lines; number = 0; value = pos 0 }) k ∙ ap (λ (o : Outcome). unsheeted_as o (length t) lines) (sym e);
        bytes = p ∙ ap (λ (x : List ℕ). placed lent 0 x) (front ∙ is) ∙ ap (λ (m : ℕ). t ++ drop m lent) z ∙ ap (λ (o : Outcome). image_as o t lent) (sym e);
      }

-- ---- 16
module _ (lands : ℕ → Option ℕ) (start : ℕ) (image lent : List ℕ) (lines : ℕ) {place : ℕ} (p : place ≡ astray lands (length image) (lines_in start image)) where
  abbrev ls : List ReadLine
  ls = lines_in start image

  below : Below (length image) (lines_in start image)
  unfolding lines_in
  below = lines-below start 0 0 image (length image) (omega arith)

  pub is-astray : place < length image → {r : Unsheeted} → r ≡ refused_at 16 place → Gives (landed_outcome lands ls (text_by lands start ls) (length lent)) (text_by lands start ls) lines lent lent r
  is-astray h q =
      let o = astray_off lands (length image) ls (subst (λ (k : ℕ). k < length image) p h) in
      turned (text_by lands start ls) lines lent
      (ap (λ (x : Outcome). and_then x (length_outcome (text_by lands start ls) (length lent))) (o ∙ ap (λ (k : ℕ). refused 16 0 0 (pos k)) (sym p))) q

  pub none-astray : length image ≤ place → {lent' : List ℕ} {r : Unsheeted} → Gives (length_outcome (text_by lands start ls) (length lent)) (text_by lands start ls) lines lent lent' r
      → Gives (landed_outcome lands ls (text_by lands start ls) (length lent)) (text_by lands start ls) lines lent lent' r
  none-astray h u =
      alike (ap (λ (x : Outcome). and_then x (length_outcome (text_by lands start ls) (length lent))) (astray-none lands (length image) ls below (subst (λ (k : ℕ). length image ≤ k) p h))) u

-- ---- 5, 6 and 10
module _ (start : ℕ) (image lent : List ℕ) {s : Surveyed} (p : s ≡ surveyed 0 (lines_in start image)) where
  abbrev Ends : List ℕ → Unsheeted → Type 0
  Ends lent' r = Gives (found_outcome start image (length lent)) (sheet_text start image) (length (lines_in start image)) lent lent' r

  abbrev rest : Outcome
  rest =
      and_then (require (leb (length (lines_in start image)) 4096) 10)
      (landed_outcome (landing start (lines_in start image)) (lines_in start image) (sheet_text start image) (length lent))

  pub unread : (s.number ≡ 0 → ⊥) → {r : Unsheeted} → r ≡ refused_at s.number s.place → Ends lent r
  unread z q =
      let o = survey_refused (lines_in start image) (λ e. z (ap (λ (x : Surveyed). x.number) p ∙ e)) in
      turned (sheet_text start image) (length (lines_in start image)) lent
      (ap (λ (x : Outcome). and_then x rest) (o ∙ ap (λ (x : Surveyed). refused x.number 0 0 (pos x.place)) (sym p))) q

  module _ (z : s.number ≡ 0) where
    zero : (surveyed 0 (lines_in start image)).number ≡ 0
    zero = sym (ap (λ (x : Surveyed). x.number) p) ∙ z

    counted : s.lines ≡ length (lines_in start image)
    counted = ap (λ (x : Surveyed). x.lines) p ∙ (survey_fine (lines_in start image) zero).1

    read : found_outcome start image (length lent) ≡ rest
    read = ap (λ (x : Outcome). and_then x rest) (survey_fine (lines_in start image) zero).0

    pub too_many : 4096 < s.lines → {r : Unsheeted} → r ≡ refused_at 10 0 → Ends lent r
    too_many h q =
        let e : rest ≡ refused 10 0 0 (pos 0) = rw (lt-leb (length (lines_in start image)) 4096 (omega (arith, counted))) in
        turned (sheet_text start image) (length (lines_in start image)) lent (read ∙ e) q

    module _ (h : s.lines ≤ 4096) (table₀ : List ℕ) {table : List ℕ} (wide : 53248 ≤ length table₀) (zeros : (k : ℕ) → get_or table₀ k 0 ≡ 0) (t : table ≡ numbered 1 (lines_in start image) table₀) where
      spaced : Spaced 0 (lines_in start image)
      unfolding lines_in
      spaced = lines_spaced start 0 0 image

      lands_is : lands_in start table ≡ landing start (lines_in start image)
      lands_is = ap (λ (x : List ℕ). lands_in start x) t ∙ table_lands start (lines_in start image) table₀ spaced zero (omega (arith, counted)) wide zeros

      few : rest ≡ landed_outcome (landing start (lines_in start image)) (lines_in start image) (text_by (landing start (lines_in start image)) start (lines_in start image)) (length lent)
      unfolding sheet_text
      few = rw (le-leb (length (lines_in start image)) 4096 (omega (arith, counted)))

      text_is : text_by (landing start (lines_in start image)) start (lines_in start image) ≡ sheet_text start image
      unfolding sheet_text
      text_is = refl

      pub all_read : {lent' : List ℕ} {r : Unsheeted}
          → Gives (landed_outcome (lands_in start table) (lines_in start image) (text_by (lands_in start table) start (lines_in start image)) (length lent)) (text_by (lands_in start table) start (lines_in start image)) s.lines lent lent' r → Ends lent' r
      all_read {lent'} {r} u =
          let a = subst (λ (lands : ℕ → Option ℕ). Gives (landed_outcome lands (lines_in start image) (text_by lands start (lines_in start image)) (length lent)) (text_by lands start (lines_in start image)) s.lines lent lent' r) lands_is u in
          let b = subst (λ (k : ℕ). Gives (landed_outcome (landing start (lines_in start image)) (lines_in start image) (text_by (landing start (lines_in start image)) start (lines_in start image)) (length lent)) (text_by (landing start (lines_in start image)) start (lines_in start image)) k lent lent' r) counted a in
          alike (read ∙ few) (subst (λ (x : List ℕ). Gives (landed_outcome (landing start (lines_in start image)) (lines_in start image) (text_by (landing start (lines_in start image)) start (lines_in start image)) (length lent)) x (length (lines_in start image)) lent lent' r) text_is b)

-- ---- the whole
module _ (start : ℕ) (image lent : List ℕ) where
  abbrev opens : Bool
  opens = eqb (start % 2) 0 && leb (end_of start (length image)) (2 ^ 32)

  as_found : {o : Outcome} {lent' : List ℕ} {r : Unsheeted} → unsheet_outcome start image (length lent) ≡ o → Gives o (sheet_text start image) (length (lines_in start image)) lent lent' r → SheetFound start image lent lent' r
  unfolding unsheeted_of bytes_left
  as_found e u =
      record {
        answer = u.answer ∙ ap (λ (x : Outcome). unsheeted_as x (length (sheet_text start image)) (length (lines_in start image))) (sym e);
        bytes = u.bytes ∙ ap (λ (x : Outcome). image_as x (sheet_text start image) lent) (sym e);
      }

  refused_found : {number : ℕ} {r : Unsheeted} → unsheet_outcome start image (length lent) ≡ refused number 0 0 (pos 0) → r ≡ refused_at number 0 → SheetFound start image lent lent r
  refused_found e q = as_found e (turned (sheet_text start image) (length (lines_in start image)) lent refl q)

  not_placed : opens ≡ false → unsheet_outcome start image (length lent) ≡ refused 9 0 0 (pos 0)
  unfolding unsheet_outcome
  not_placed e = rw e

  pub odd_start : (start % 2 ≡ 0 → ⊥) → {r : Unsheeted} → r ≡ refused_at 9 0 → SheetFound start image lent lent r
  odd_start h q = refused_found (not_placed (rw (ne_eqb (start % 2) 0 h))) q

  pub past_end : 2 ^ 32 < start + 2 * length image → {r : Unsheeted} → r ≡ refused_at 9 0 → SheetFound start image lent lent r
  past_end h q = refused_found (not_placed (rw (lt-leb (end_of start (length image)) (2 ^ 32) h) (and-false (eqb (start % 2) 0)))) q

  module _ (even : start % 2 ≡ 0) (ends : start + 2 * length image ≤ 2 ^ 32) where
    placed-is : opens ≡ true
    placed-is = rw (eq-eqb (start % 2) 0 even, le-leb (end_of start (length image)) (2 ^ 32) ends)

    pub empty : length image ≡ 0 → {r : Unsheeted} → r ≡ refused_at 5 0 → SheetFound start image lent lent r
    unfolding unsheet_outcome
    empty h q = refused_found (rw (placed-is, lt-leb 1 (length image) (omega arith))) q

    pub some_found : 1 ≤ length image → {lent' : List ℕ} {r : Unsheeted} → Gives (found_outcome start image (length lent)) (sheet_text start image) (length (lines_in start image)) lent lent' r → SheetFound start image lent lent' r
    unfolding unsheet_outcome
    some_found h u = as_found (rw (placed-is, le-leb 1 (length image) h)) u

-- places filled with 0
pub all_zero : (n k : ℕ) → ◌≡◌ {A = ℕ} (get_or (replicate n 0) k 0) 0
all_zero n k = go (lt? k n)
  where
    go : Lt k n → ◌≡◌ {A = ℕ} (get_or (replicate n 0) k 0) 0
    go (less h b) = get_or-replicate n k 0 0 h
    go (past h b) = sym (outside (replicate n 0) k 0 (omega (arith, length-replicate {A = ℕ} n 0)))
