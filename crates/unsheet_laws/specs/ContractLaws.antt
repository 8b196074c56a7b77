-- What the entry points return, from what they ensure: SheetFound of the sheet of an image, Translated of the translator. Assumes nothing.
use Rattle.std.specs.Prelude.{ℕ, ◌≤◌, ◌≡◌, List, length, take}
use Rattle.std.proofs.Math.Path.{refl, sym, ap}
use Rattle.std.proofs.Common.{◌∙◌, subst, arith, take_at}
use Rattle.std.proofs.Math.ListN.{drop}
use Rattle.std.proofs.Math.Seq.{drop_at}
use Rattle.read_spec.specs.Accepted.{Words}
use Rattle.sheet_spec.specs.declared.Listed.{Listed}
use Rattle.sheet_spec.specs.Sheet.{start_in, sheet_in, line_count, word_count, image}
use Rattle.sheet_spec.specs.Translate.{full, Outcome, in_order, refused, over, outcome_of, listed_as, listed_of, image_as, image_of}
use Rattle.sheet_spec.specs.Promises.{Translated}
use Rattle.sheet_size_facts.specs.OutcomeLaws.{Sound, outcome_sound}
use Rattle.sheet_size_facts.specs.Counted.{image-counts}
use Rattle.unsheet_spec.specs.declared.Unsheeted.{Unsheeted}
use Rattle.unsheet_spec.specs.Lines.{lines_in}
use Rattle.unsheet_spec.specs.Text.{sheet_text}
use Rattle.unsheet_spec.specs.Unsheet.{length_outcome, unsheet_outcome, unsheeted_as, unsheeted_of, bytes_left}
use Rattle.unsheet_spec.specs.Promises.{SheetFound}
use Rattle.srecord_facts.specs.Printing.{Outside}
use Rattle.unsheet_facts.specs.Stages.{outside}
use Rattle.unsheet_laws.specs.Found.{found_sound, found_complete}
use Rattle.unsheet_laws.specs.FoundText.{count_is, found_returns}
use Rattle.unsheet_laws.specs.SheetImage.{lines_found, sheet_found}

fine_by : (o : Outcome) → Outside o → (bytes lines : ℕ) → (unsheeted_as o bytes lines).number ≡ 0 → o ≡ in_order
fine_by in_order s bytes lines e = refl
fine_by (refused number line detail value) s bytes lines e = absurd (s.0 e)

listed_by : (o : Outcome) → Sound o → (lines words : ℕ) → (listed_as o lines words).number ≡ 0 → o ≡ in_order
listed_by in_order s lines words e = refl
listed_by (refused number line detail value) s lines words e = absurd (s e)

-- ---- the sheet of an image: the answer, the text, and the bytes that are left
module _ {start : ℕ} {v t t' : List ℕ} {r : Unsheeted} (f : SheetFound start v t t' r) where
  found_fine : r.number ≡ 0 → unsheet_outcome start v (length t) ≡ in_order
  unfolding unsheeted_of
  found_fine h = fine_by (unsheet_outcome start v (length t)) (outside start v (length t)) _ _ (sym (ap (λ (x : Unsheeted). x.number) f.answer) ∙ h)

  found_answer : unsheet_outcome start v (length t) ≡ in_order → r ≡ unsheeted_as in_order (length (sheet_text start v)) (length (lines_in start v))
  unfolding unsheeted_of
  found_answer e = f.answer ∙ ap (λ (o : Outcome). unsheeted_as o (length (sheet_text start v)) (length (lines_in start v))) e

  found_bytes : unsheet_outcome start v (length t) ≡ in_order → t' ≡ over (sheet_text start v) t
  unfolding bytes_left
  found_bytes e = f.bytes ∙ ap (λ (o : Outcome). image_as o (sheet_text start v) t) e

  -- with number 0 the first bytes are the text
  text_of : r.number ≡ 0 → take r.bytes t' ≡ sheet_text start v
  text_of h =
      let n : r.bytes ≡ length (sheet_text start v) = ap (λ (x : Unsheeted). x.bytes) (found_answer (found_fine h)) in
      ap (take r.bytes) (found_bytes (found_fine h)) ∙ take_at (sheet_text start v) (drop (length (sheet_text start v)) t) r.bytes (sym n)

  -- a refusal leaves the lent bytes as they were
  unchanged : (r.number ≡ 0 → ⊥) → t' ≡ t
  unfolding bytes_left unsheeted_of
  unchanged h = f.bytes ∙ go (unsheet_outcome start v (length t)) (λ e. h (ap (λ (x : Unsheeted). x.number) (found_answer e)))
    where
      go : (o : Outcome) → (o ≡ in_order → ⊥) → image_as o (sheet_text start v) t ≡ t
      go in_order n = absurd (n refl)
      go (refused number line detail value) n = refl

  -- the bytes past the text are as they were
  past : drop r.bytes t' ≡ drop r.bytes t
  unfolding bytes_left unsheeted_of
  past = (λ i. drop (f.answer i).bytes (f.bytes i)) ∙ go (unsheet_outcome start v (length t)) ∙ sym (ap (λ (x : Unsheeted). drop x.bytes t) f.answer)
    where
      go : (o : Outcome) → drop (unsheeted_as o (length (sheet_text start v)) (length (lines_in start v))).bytes (image_as o (sheet_text start v) t)
          ≡ drop (unsheeted_as o (length (sheet_text start v)) (length (lines_in start v))).bytes t
      go in_order = drop_at (sheet_text start v) (drop (length (sheet_text start v)) t) (length (sheet_text start v)) refl
      go (refused number line detail value) = refl

-- with as many bytes lent as the text has
same-room : (start : ℕ) (v : List ℕ) (room more : ℕ) → unsheet_outcome start v room ≡ in_order → length (sheet_text start v) ≤ more → unsheet_outcome start v more ≡ in_order
same-room start v room more e h =
    let f = found_sound start v room e in
    (found_complete start v more (lines_in start v)
    (record { even = f.even; ends = f.ends; some = f.some; whole = f.whole; lines = f.lines; branches = f.branches; text = f.text; lent = h })).1

-- of any answer
pub found_text : {start : ℕ} {v t t' : List ℕ} {r : Unsheeted} → SheetFound start v t t' r → r.number ≡ 0 → take r.bytes t' ≡ sheet_text start v
found_text f h = text_of f h

pub found_unchanged : {start : ℕ} {v t t' : List ℕ} {r : Unsheeted} → SheetFound start v t t' r → (r.number ≡ 0 → ⊥) → t' ≡ t
found_unchanged f h = unchanged f h

pub found_past : {start : ℕ} {v t t' : List ℕ} {r : Unsheeted} → SheetFound start v t t' r → drop r.bytes t' ≡ drop r.bytes t
found_past f = past f

-- ---- found, then translated: start and image come back, word for word
pub found_translated : {start : ℕ} {v t t' : List ℕ} {r : Unsheeted} → Words v → SheetFound start v t t' r → r.number ≡ 0
    → {w s w' s' : List ℕ} {q : Listed} → Translated full (take r.bytes t') w s w' s' q → r.lines ≤ length s → length v ≤ length w
    → (q.number ≡ 0) × (q.lines ≡ r.lines) × (q.words ≡ length v) × (take (length v) w' ≡ v) × (start_in (take r.bytes t') ≡ start)
unfolding listed_of image_of
found_translated {start} {v} {t} {t'} {r} words f h {w} {s} {w'} {s'} {q} d scratch room =
    let x = sheet_text start v in
    let e = found_fine f h in
    let text = found_text f h in
    let back = found_returns start v (length t) words e in
    let lines : r.lines ≡ line_count (sheet_in x) = ap (λ (a : Unsheeted). a.lines) (found_answer f e) ∙ sym (count_is start v (length t) words e) in
    let d : Translated full x w s w' s' q = subst (λ (b : List ℕ). Translated full b w s w' s' q) text d in
    let o = back.accepts (length s) (length w) (omega (arith, lines, scratch)) room in
    let a : q ≡ listed_as in_order (line_count (sheet_in x)) (word_count (sheet_in x)) = d.listed ∙ ap (λ (u : Outcome). listed_as u (line_count (sheet_in x)) (word_count (sheet_in x))) o in
    let counted : word_count (sheet_in x) ≡ length v = sym (image-counts full x (start_in x) (length s) (length w) o) ∙ ap length back.words in
    let left : w' ≡ over v w = d.image ∙ ap (λ (u : Outcome). image_as u (image (sheet_in x)) w) o ∙ ap (λ (b : List ℕ). over b w) back.words in
    (ap (λ (b : Listed). b.number) a, ap (λ (b : Listed). b.lines) a ∙ sym lines, ap (λ (b : Listed). b.words) a ∙ counted, ap (take (length v)) left ∙ take_at v (drop (length v) w) (length v) refl, ap start_in text ∙ back.starts)

-- ---- translated, then found: the answer is the text's length and the sheet's lines, or 17 where the text is longer than 65,536 bytes or than what is lent
pub translated_found : {text w s w' s' : List ℕ} {q : Listed} → Translated full text w s w' s' q → q.number ≡ 0
    → {t t' : List ℕ} {r : Unsheeted} → SheetFound (start_in text) (take q.words w') t t' r
    → r ≡ unsheeted_as (length_outcome (sheet_text (start_in text) (take q.words w')) (length t)) (length (sheet_text (start_in text) (take q.words w'))) q.lines
unfolding listed_of image_of unsheeted_of
translated_found {text} {w} {s} {w'} {s'} {q} d h {t} {t'} {r} f =
    let v = image (sheet_in text) in
    let o : outcome_of full text (length s) (length w) ≡ in_order = listed_by (outcome_of full text (length s) (length w)) (outcome_sound full text (start_in text) (length s) (length w)) (line_count (sheet_in text)) (word_count (sheet_in text)) (sym (ap (λ (x : Listed). x.number) d.listed) ∙ h) in
    let a : q ≡ listed_as in_order (line_count (sheet_in text)) (word_count (sheet_in text)) = d.listed ∙ ap (λ (u : Outcome). listed_as u (line_count (sheet_in text)) (word_count (sheet_in text))) o in
    let n : length v ≡ q.words = image-counts full text (start_in text) (length s) (length w) o ∙ sym (ap (λ (x : Listed). x.words) a) in
    let left : w' ≡ over v w = d.image ∙ ap (λ (u : Outcome). image_as u v w) o in
    let words : take q.words w' ≡ v = ap (take q.words) left ∙ take_at v (drop (length v) w) q.words n in
    let lines : length (lines_in (start_in text) v) ≡ q.lines = lines_found text (start_in text) (length s) (length w) o ∙ sym (ap (λ (x : Listed). x.lines) a) in
    f.answer
    ∙ ap (λ (u : List ℕ). unsheeted_as (unsheet_outcome (start_in text) u (length t)) (length (sheet_text (start_in text) u)) (length (lines_in (start_in text) u))) words
    ∙ (λ i. unsheeted_as (sheet_found text (length s) (length w) o (length t) i) (length (sheet_text (start_in text) v)) (lines i))
    ∙ ap (λ (u : List ℕ). unsheeted_as (length_outcome (sheet_text (start_in text) u) (length t)) (length (sheet_text (start_in text) u)) q.lines) (sym words)

-- ---- found, translated and found again: the same answer, and the same text
pub found_again : {start : ℕ} {v t t' : List ℕ} {r : Unsheeted} → Words v → SheetFound start v t t' r → r.number ≡ 0
    → {w s w' s' : List ℕ} {q : Listed} → Translated full (take r.bytes t') w s w' s' q → r.lines ≤ length s → length v ≤ length w
    → {u u' : List ℕ} {p : Unsheeted} → SheetFound (start_in (take r.bytes t')) (take q.words w') u u' p → r.bytes ≤ length u
    → (p ≡ r) × (take p.bytes u' ≡ take r.bytes t')
found_again {start} {v} {t} {t'} {r} words f h {w} {s} {w'} {s'} {q} d scratch room {u} {u'} {p} g lent =
    let b = found_translated words f h d scratch room in
    let image : take q.words w' ≡ v = ap (λ (n : ℕ). take n w') b.2 ∙ b.3 in
    let g' : SheetFound start v u u' p = subst (λ (x : List ℕ). SheetFound start x u u' p) image (subst (λ (x : ℕ). SheetFound x (take q.words w') u u' p) b.4 g) in
    let e = found_fine f h in
    let n : r.bytes ≡ length (sheet_text start v) = ap (λ (x : Unsheeted). x.bytes) (found_answer f e) in
    let i = same-room start v (length t) (length u) e (omega (arith, n, lent)) in
    let a : p ≡ r = found_answer g' i ∙ sym (found_answer f e) in
    (a, found_text g' (ap (λ (x : Unsheeted). x.number) a ∙ h) ∙ sym (found_text f h))
