-- What the passes give, against the stages of what is answered.
use Rattle.std.specs.Prelude.{ℕ, suc, ◌+◌, ◌≤◌, ◌<◌, ◌≡◌, refl, Bool, true, false, cond, List, [], ◌∷◌, ◌++◌, ltb, pos, length}
use Rattle.std.proofs.Common.{ap, ◌∙◌, arith, length-append, le-leb}
use Rattle.std.proofs.Math.Option.{Option}
use Rattle.std.proofs.lemmas.Bool.{lt-leb}
use Rattle.read_spec.specs.Reading.{Reading, Read, Short, Nothing}
use Rattle.sheet_spec.specs.Promises.{start_text}
use Rattle.sheet_spec.specs.Translate.{Outcome, in_order, refused, and_then, in_turn}
use Rattle.base_facts.specs.Tests.{Lt, less, past, lt?, and-false}
use Rattle.unsheet_spec.specs.Lines.{ReadLine}
use Rattle.unsheet_spec.specs.Text.{spelled_line, spelled_lines, text_by}
use Rattle.unsheet_spec.specs.Unsheet.{reading_outcome, branch_outcome, along_lines, length_outcome}
use Rattle.unsheet_facts.specs.Lines.{Below}
use Rattle.unsheet_write.specs.Survey.{surveyed_by, surveyed, lands_by, astray, text_within}

-- ---- 5 and 6
abbrev reads : ℕ → ReadLine → Outcome
reads k l = reading_outcome l.place l.reading

abbrev lined : ℕ → List ReadLine → ℕ
lined k ls = (surveyed k ls).lines

survey_line : (r : Reading) (place k : ℕ) (ls : List ReadLine) (o : Outcome) → (surveyed_by r place k (surveyed (suc k) ls)).number ≡ 0
    → ((surveyed (suc k) ls).number ≡ 0 → (o ≡ in_order) × (lined (suc k) ls ≡ suc k + length ls))
    → (and_then (reading_outcome place r) o ≡ in_order) × ((surveyed_by r place k (surveyed (suc k) ls)).lines ≡ k + suc (length ls))
survey_line (Read i n) place k ls o z h = ((h z).0, (h z).1 ∙ omega arith)
survey_line Short place k ls o z h = absurd (omega arith)
survey_line Nothing place k ls o z h = absurd (omega arith)

survey_in_order : (j k : ℕ) (ls : List ReadLine) → (surveyed k ls).number ≡ 0 → (in_turn reads j ls ≡ in_order) × (lined k ls ≡ k + length ls)
survey_in_order j k [] z = (refl, omega arith)
survey_in_order j k (l ∷ ls) z = survey_line l.reading l.place k ls (in_turn reads (suc j) ls) z (λ y. survey_in_order (suc j) (suc k) ls y)

pub survey_fine : (ls : List ReadLine) → (surveyed 0 ls).number ≡ 0 → (along_lines reading_outcome ls ≡ in_order) × ((surveyed 0 ls).lines ≡ length ls)
survey_fine ls z = let h = survey_in_order 1 0 ls z in (h.0, h.1 ∙ omega arith)

refused_line : (r : Reading) (place k : ℕ) (ls : List ReadLine) (o : Outcome) → ((surveyed_by r place k (surveyed (suc k) ls)).number ≡ 0 → ⊥)
    → (((surveyed (suc k) ls).number ≡ 0 → ⊥) → o ≡ refused (surveyed (suc k) ls).number 0 0 (pos (surveyed (suc k) ls).place))
    → and_then (reading_outcome place r) o ≡ refused (surveyed_by r place k (surveyed (suc k) ls)).number 0 0 (pos (surveyed_by r place k (surveyed (suc k) ls)).place)
refused_line (Read i n) place k ls o z h = h z
refused_line Short place k ls o z h = refl
refused_line Nothing place k ls o z h = refl

refused-from : (j k : ℕ) (ls : List ReadLine) → ((surveyed k ls).number ≡ 0 → ⊥) → in_turn reads j ls ≡ refused (surveyed k ls).number 0 0 (pos (surveyed k ls).place)
refused-from j k [] z = absurd (z refl)
refused-from j k (l ∷ ls) z = refused_line l.reading l.place k ls (in_turn reads (suc j) ls) z (λ y. refused-from (suc j) (suc k) ls y)

pub survey_refused : (ls : List ReadLine) → ((surveyed 0 ls).number ≡ 0 → ⊥) → along_lines reading_outcome ls ≡ refused (surveyed 0 ls).number 0 0 (pos (surveyed 0 ls).place)
survey_refused ls z = refused-from 1 0 ls z

-- ---- 16
module _ (lands : ℕ → Option ℕ) (end : ℕ) where
  abbrev branches : ℕ → ReadLine → Outcome
  branches k l = branch_outcome lands l.place l.reading

  branch_by : (r : Reading) (place : ℕ) → branch_outcome lands place r ≡ cond (lands_by lands r) in_order (refused 16 0 0 (pos place))
  branch_by (Read i n) place = refl
  branch_by Short place = refl
  branch_by Nothing place = refl

  off_line : (b : Bool) (place : ℕ) (ls : List ReadLine) (o : Outcome) → cond b (astray lands end ls) place < end → (astray lands end ls < end → o ≡ refused 16 0 0 (pos (astray lands end ls)))
      → and_then (cond b in_order (refused 16 0 0 (pos place))) o ≡ refused 16 0 0 (pos (cond b (astray lands end ls) place))
  off_line true place ls o h g = g h
  off_line false place ls o h g = refl

  off_from : (j : ℕ) (ls : List ReadLine) → astray lands end ls < end → in_turn branches j ls ≡ refused 16 0 0 (pos (astray lands end ls))
  off_from j [] h = absurd (omega arith)
  off_from j (l ∷ ls) h =
      ap (λ (o : Outcome). and_then o (in_turn branches (suc j) ls)) (branch_by l.reading l.place)
      ∙ off_line (lands_by lands l.reading) l.place ls (in_turn branches (suc j) ls) h (λ g. off_from (suc j) ls g)

  pub astray_off : (ls : List ReadLine) → astray lands end ls < end → along_lines (branch_outcome lands) ls ≡ refused 16 0 0 (pos (astray lands end ls))
  astray_off ls h = off_from 1 ls h

  on_line : (b : Bool) (place : ℕ) (ls : List ReadLine) (o : Outcome) → place < end → end ≤ cond b (astray lands end ls) place → (end ≤ astray lands end ls → o ≡ in_order)
      → and_then (cond b in_order (refused 16 0 0 (pos place))) o ≡ in_order
  on_line true place ls o l h g = g h
  on_line false place ls o l h g = absurd (omega arith)

  on_from : (j : ℕ) (ls : List ReadLine) → Below end ls → end ≤ astray lands end ls → in_turn branches j ls ≡ in_order
  on_from j [] b h = refl
  on_from j (l ∷ ls) b h =
      ap (λ (o : Outcome). and_then o (in_turn branches (suc j) ls)) (branch_by l.reading l.place)
      ∙ on_line (lands_by lands l.reading) l.place ls (in_turn branches (suc j) ls) b.0 h (λ g. on_from (suc j) ls b.1 g)

  pub astray-none : (ls : List ReadLine) → Below end ls → end ≤ astray lands end ls → along_lines (branch_outcome lands) ls ≡ in_order
  astray-none ls b h = on_from 1 ls b h

-- ---- 17
module _ (lands : ℕ → Option ℕ) where
  within_shorter : (at : ℕ) (ls : List ReadLine) → length (text_within lands at ls) ≤ length (spelled_lines lands ls)
  within_shorter at [] = omega arith
  within_shorter at (l ∷ ls) =
      let t = spelled_line lands l.reading in
      go (ltb 65536 at) (omega (arith, length-append t (text_within lands (at + length t) ls), length-append t (spelled_lines lands ls), within_shorter (at + length t) ls))
    where
      go : (b : Bool) → length (spelled_line lands l.reading ++ text_within lands (at + length (spelled_line lands l.reading)) ls) ≤ length (spelled_lines lands (l ∷ ls))
          → length (cond b [] (spelled_line lands l.reading ++ text_within lands (at + length (spelled_line lands l.reading)) ls)) ≤ length (spelled_lines lands (l ∷ ls))
      go true h = omega arith
      go false h = h

  pub within_all : (at : ℕ) (ls : List ReadLine) → at + length (text_within lands at ls) ≤ 65536 → text_within lands at ls ≡ spelled_lines lands ls
  within_all at [] h = refl
  within_all at (l ∷ ls) h = go (lt? 65536 at) (within_all (at + length (spelled_line lands l.reading)) ls)
    where
      go : Lt 65536 at
          → (at + length (spelled_line lands l.reading) + length (text_within lands (at + length (spelled_line lands l.reading)) ls) ≤ 65536 → text_within lands (at + length (spelled_line lands l.reading)) ls ≡ spelled_lines lands ls)
          → text_within lands at (l ∷ ls) ≡ spelled_lines lands (l ∷ ls)
      go (less p b) g = absurd (omega arith)
      go (past p b) g =
          let t = spelled_line lands l.reading in
          let e : text_within lands at (l ∷ ls) ≡ t ++ text_within lands (at + length t) ls = ap (λ (c : Bool). cond c [] (t ++ text_within lands (at + length t) ls)) b in
          e ∙ ap (λ (u : List ℕ). t ++ u) (g (omega (arith, ap (λ (u : List ℕ). length u) e, length-append t (text_within lands (at + length t) ls))))

  module _ (start room : ℕ) (ls : List ReadLine) where
    abbrev front : List ℕ
    front = start_text start ++ (10 ∷ [])

    abbrev pub part_text : List ℕ
    part_text = front ++ text_within lands (length front) ls

    -- the text is too long, or longer than what is lent
    pub fits_not : 65536 < length part_text → length_outcome (text_by lands start ls) room ≡ refused 17 0 0 (pos 0)
    fits_not h =
        let long : 65536 < length (text_by lands start ls) =
        omega (arith, length-append front (spelled_lines lands ls), length-append front (text_within lands (length front) ls), within_shorter (length front) ls) in
        rw (lt-leb (length (text_by lands start ls)) 65536 long)

    module _ (h : length part_text ≤ 65536) where
      pub written_is : part_text ≡ text_by lands start ls
      written_is =
          ap (λ (t : List ℕ). front ++ t) (within_all (length front) ls (omega (arith, length-append front (text_within lands (length front) ls))))

      short : length (text_by lands start ls) ≤ 65536
      short = omega (arith, ap (λ (t : List ℕ). length t) written_is)

      pub fits_lent : room < length part_text → length_outcome (text_by lands start ls) room ≡ refused 17 0 0 (pos 0)
      fits_lent g =
          rw (lt-leb (length (text_by lands start ls)) room (omega (arith, ap (λ (t : List ℕ). length t) written_is)), and-false)

      pub fits_both : length part_text ≤ room → length_outcome (text_by lands start ls) room ≡ in_order
      fits_both g =
          rw (le-leb (length (text_by lands start ls)) 65536 short, le-leb (length (text_by lands start ls)) room (omega (arith, ap (λ (t : List ℕ). length t) written_is)))
