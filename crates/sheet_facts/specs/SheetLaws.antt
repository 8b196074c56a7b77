-- A sheet's lines: as many as line feeds, the first of them START's.
use Rattle.std.specs.Prelude.{◌≡◌, refl, Bool, true, false, cond, ◌&&◌, List, [], ◌∷◌, ℕ, zero, suc, ◌+◌, ◌-◌, ◌≤◌, leb, eqb, length, take, drop}
use Rattle.std.proofs.Common.{ap, ◌∙◌, arith, length-drop, eq-eqb, eqb-true, leb-true}
use Rattle.std.proofs.lemmas.List.{length-map}
use Rattle.base_text.specs.Parts.{before, part_end}
use Rattle.base_spec.specs.Parts.{onto}
use Rattle.base_text.specs.PartLaws.{take_before}
use Rattle.base_spec.specs.Lines.{lines_of}
use Rattle.base_text.specs.LinesLaws.{lines_next}
use Rattle.sheet_spec.specs.Line.{line_of}
use Rattle.sheet_spec.specs.Sheet.{feeds, last, is_sheet, start_line, instruction_lines, sheet_in, line_count}
use Rattle.base_facts.specs.Tests.{and-true}

-- ---- what a sheet is, place by place
pub record Outline (text : List ℕ) : Type 0 where
  pub some : 1 ≤ length text
  pub bytes : length text ≤ 65536
  pub final : last text ≡ 10
  pub least : 2 ≤ feeds text
  pub most : feeds text ≤ 4097

pub outline : (text : List ℕ) → is_sheet text ≡ true → Outline text
outline text e =
    let p = and-true (leb 1 (length text) && leb (length text) 65536 && eqb (last text) 10 && leb 2 (feeds text)) (leb (feeds text) 4097) e in
    let q = and-true (leb 1 (length text) && leb (length text) 65536 && eqb (last text) 10) (leb 2 (feeds text)) p.0 in
    let r = and-true (leb 1 (length text) && leb (length text) 65536) (eqb (last text) 10) q.0 in
    let s = and-true (leb 1 (length text)) (leb (length text) 65536) r.0 in
    record {
      some = leb-true 1 (length text) s.0;
      bytes = leb-true (length text) 65536 s.1;
      final = eqb-true (last text) 10 r.1;
      least = leb-true 2 (feeds text) q.1;
      most = leb-true (feeds text) 4097 p.1;
    }

-- ---- as many lines as line feeds, where the last byte is one
onto_length : (b : ℕ) (ls : List (List ℕ)) → 1 ≤ length ls → length (onto b ls) ≡ length ls
onto_length b [] h = absurd (omega arith)
onto_length b (l ∷ ls) h = refl

lines_some : (b : ℕ) (bs : List ℕ) → 1 ≤ length (lines_of (b ∷ bs))
lines_some b bs = go (eqb b 10) (lines_of bs)
  where
    go : (t : Bool) (ls : List (List ℕ)) → 1 ≤ length (cond t ([] ∷ ls) (onto b ls))
    go true ls = omega arith
    go false [] = omega arith
    go false (l ∷ ls) = omega arith

pub lines-feeds : (text : List ℕ) → last text ≡ 10 → length (lines_of text) ≡ feeds text
lines-feeds [] e = absurd (omega arith)
lines-feeds (b ∷ []) e = rw (eq-eqb b 10 e)
lines-feeds (b ∷ (d ∷ bs)) e = go (eqb b 10) (lines-feeds (d ∷ bs) e)
  where
    go : (t : Bool) → length (lines_of (d ∷ bs)) ≡ feeds (d ∷ bs)
        → length (cond t ([] ∷ lines_of (d ∷ bs)) (onto b (lines_of (d ∷ bs)))) ≡ cond t (suc (feeds (d ∷ bs))) (feeds (d ∷ bs))
    go true h = ap suc h
    go false h = onto_length b (lines_of (d ∷ bs)) (lines_some d bs) ∙ h

-- the instruction lines of a sheet are one fewer than its line feeds
pub count_feeds : (text : List ℕ) → is_sheet text ≡ true → line_count (sheet_in text) ≡ feeds text - 1
count_feeds text e = rw (length-map (instruction_lines text) line_of, length-drop 1 (lines_of text), lines-feeds text (outline text e).final)

-- at most 4,096
pub count_most : (text : List ℕ) → is_sheet text ≡ true → line_count (sheet_in text) ≤ 4096
count_most text e = omega (arith, count_feeds text e, (outline text e).most)

-- and at least 1
pub count_some : (text : List ℕ) → is_sheet text ≡ true → 1 ≤ line_count (sheet_in text)
count_some text e = omega (arith, count_feeds text e, (outline text e).least)

-- ---- the first line, and the others
pub start_line_lem : (text : List ℕ) (e : ℕ) → e ≡ part_end 10 text 0 → start_line text ≡ take e text
start_line_lem [] e g = go e
  where
    go : (n : ℕ) → ◌≡◌ {A = List ℕ} [] (take n [])
    go zero = refl
    go (suc n) = refl
start_line_lem (b ∷ bs) e g = let q : e - 0 ≡ e = omega arith in rw (lines_next (b ∷ bs) 0 e (omega arith) g, q)

pub lines_begin : (text : List ℕ) (e : ℕ) → e ≡ part_end 10 text 0 → instruction_lines text ≡ lines_of (drop (e + 1) text)
lines_begin [] e g = go (e + 1)
  where
    go : (n : ℕ) → lines_of [] ≡ lines_of (drop n [])
    go zero = refl
    go (suc n) = refl
lines_begin (b ∷ bs) e g = rw (lines_next (b ∷ bs) 0 e (omega arith) g)

pub start_length : (text : List ℕ) → length (start_line text) ≡ part_end 10 text 0
start_length text =
    let q : length (before 10 text) ≡ part_end 10 text 0 = omega arith in
    ap length (start_line_lem text (length (before 10 text)) q ∙ take_before 10 text) ∙ q

pub lines_after : (text : List ℕ) → instruction_lines text ≡ lines_of (drop (length (start_line text) + 1) text)
lines_after text = lines_begin text (length (start_line text)) (start_length text)
