-- The found text is a sheet: its first line the start's, the others what the lines say. Translating it returns start and image.
use Rattle.std.specs.Prelude.{ℕ, suc, ◌+◌, ◌%◌, ◌^◌, ◌≤◌, ◌<◌, ◌≡◌, refl, true, ◌&&◌, List, [], ◌∷◌, ◌++◌, map, length, drop, get_or}
use Rattle.std.proofs.Common.{sym, ◌∙◌, subst, append_assoc, append-nil, arith, le-leb, eq-eqb}
use Rattle.std.proofs.Math.Path.{ap}
use Rattle.std.proofs.Math.Option
use Rattle.std.proofs.Math.Option.{Option, some}
use Rattle.std.proofs.Math.Dec.{leb, eqb}
use Rattle.std.proofs.lemmas.List.{length-map}
use Rattle.std.proofs.Math.Seq.{append_snoc}
use Rattle.base_spec.specs.Lines.{lines_of}
use Rattle.base_spec.specs.Written.{decimal_of}
use Rattle.base_facts.specs.Lists.{outside}
use Rattle.base_facts.specs.Tests.{Lt, less, past, lt?, true_and}
use Rattle.isa.specs.declared.Instruction.{Instruction}
use Rattle.read_spec.specs.Reading.{Reading, Read, Nothing}
use Rattle.read_spec.specs.Accepted.{Words}
use Rattle.sheet_spec.specs.Names.{bytes}
use Rattle.sheet_spec.specs.Line.{Parsed, says, no, line_of}
use Rattle.sheet_spec.specs.Made.{is_some, Line}
use Rattle.sheet_spec.specs.Spell.{spell}
use Rattle.sheet_spec.specs.Sheet.{feeds, last, is_sheet, start_line, start_of, Sheet, sheet_at, start_in, sheet_in, line_count, resolved, image, line_at}
use Rattle.sheet_spec.specs.Translate.{full, in_order, require, opening, sheet_outcome, outcome_at, outcome_of}
use Rattle.sheet_spec.specs.Promises.{start_text}
use Rattle.sheet_facts.specs.SheetLaws.{lines-feeds}
use Rattle.sheet_form_laws.specs.JoinForm.{joined_line}
use Rattle.sheet_form_laws.specs.FieldForm.{decimal_solid}
use Rattle.sheet_form_laws.specs.LineForm.{line_spelled, line_in_text}
use Rattle.sheet_laws.specs.StartForm.{start_complete}
use Rattle.sheet_laws.specs.Otherwise.{require-is, and_fine}
use Rattle.sheet_size_facts.specs.Outcomes.{map_at}
use Rattle.unsheet_spec.specs.Lines.{ReadLine, lines_in, landing}
use Rattle.unsheet_spec.specs.Text.{tokens_of, spelled_line, spelled_lines, sheet_text}
use Rattle.unsheet_spec.specs.Unsheet.{unsheet_outcome}
use Rattle.unsheet_spec.specs.Promises.{Successive, Found, Returns}
use Rattle.unsheet_laws.specs.Found.{found_sound}
use Rattle.unsheet_laws.specs.FoundLines.{saying_of, lines_said, Grammatical, found_sheet, found_image, found_accepted, found_made, found_spelling}

-- ---- what ends with a line feed
abbrev Fed : List ℕ → Type 0
Fed xs = (ys : List ℕ) × (xs ≡ ys ++ (10 ∷ []))

fed_last : (ys : List ℕ) → last (ys ++ (10 ∷ [])) ≡ 10
fed_last [] = refl
fed_last (y ∷ []) = refl
fed_last (y ∷ (z ∷ ys)) = fed_last (z ∷ ys)

lines_fed : (lands : ℕ → Option ℕ) (ls : List ReadLine) → Grammatical lands ls → (xs : List ℕ) → Fed xs → Fed (xs ++ spelled_lines lands ls)
lines_fed lands [] g xs (ys, e) = (ys, append-nil xs ∙ e)
lines_fed lands (l ∷ ls) ((i, n, q, h), g) xs f =
    let a : xs ++ spelled_line lands l.reading ≡ (xs ++ spell (tokens_of lands i)) ++ (10 ∷ []) = ap (λ (r : Reading). xs ++ spelled_line lands r) q ∙ sym (append_assoc xs (spell (tokens_of lands i)) (10 ∷ [])) in
    let b = lines_fed lands ls g (xs ++ spelled_line lands l.reading) (xs ++ spell (tokens_of lands i), a) in
    (b.0, sym (append_assoc xs (spelled_line lands l.reading) (spelled_lines lands ls)) ∙ b.1)

-- ---- the lines of the text
lines_back : (lands : ℕ → Option ℕ) (ls : List ReadLine) → Grammatical lands ls → map line_of (lines_of (spelled_lines lands ls)) ≡ lines_said lands ls
lines_back lands [] g = refl
lines_back lands (l ∷ ls) ((i, n, q, h), g) =
    let t = spelled_lines lands ls in
    let a : spelled_line lands l.reading ++ t ≡ spell (tokens_of lands i) ++ (10 ∷ t) = ap (λ (r : Reading). spelled_line lands r ++ t) q ∙ append_snoc (spell (tokens_of lands i)) 10 t in
    let s : line_of (spell (tokens_of lands i)) ≡ saying_of lands l.reading = line_spelled (tokens_of lands i) h ∙ sym (ap (saying_of lands) q) in
    ap (λ (x : List ℕ). map line_of (lines_of x)) a ∙ ap (map line_of) (line_in_text (tokens_of lands i) h t) ∙ (λ j. s j ∷ lines_back lands ls g j)

start_in_text : (n : ℕ) (rest : List ℕ) → lines_of (start_text n ++ (10 ∷ rest)) ≡ start_text n ∷ lines_of rest
start_in_text n rest = joined_line (bytes "START" ∷ decimal_of n ∷ []) rest (refl, (decimal_solid n, tt))

read_not : {i : Instruction} {n : ℕ} → Nothing ≡ Read i n → ⊥
read_not e = let z : ◌≡◌ {A = ℕ} 0 1 = cc in absurd (omega arith)

module _ (start : ℕ) (v : List ℕ) (room : ℕ) (words : Words v) (e : unsheet_outcome start v room ≡ in_order) where
  u : Found start v room (lines_in start v)
  u = found_sound start v room e

  abbrev ls : List ReadLine
  ls = lines_in start v

  abbrev lands : ℕ → Option ℕ
  lands = landing start ls

  abbrev X : List ℕ
  X = sheet_text start v

  abbrev found : Sheet
  found = found_sheet start v words ls u.whole u.ends u.branches

  spelling : Grammatical lands ls
  spelling = found_spelling start v words ls u.whole u.ends u.branches

  low : start < 2 ^ 32
  low = omega (arith, u.ends, u.some)

  text_lines : lines_of X ≡ start_text start ∷ lines_of (spelled_lines lands ls)
  unfolding sheet_text
  text_lines = ap lines_of (append_snoc (start_text start) 10 (spelled_lines lands ls)) ∙ start_in_text start (spelled_lines lands ls)

  start_there : start_of (start_line X) ≡ some start
  start_there = ap (λ (ps : List (List ℕ)). start_of (get_or ps 0 [])) text_lines ∙ start_complete start low

  start_is : start_in X ≡ start
  start_is = ap (λ (o : Option ℕ). Option.get_or o 0) start_there

  lines_are : (sheet_at start X).lines ≡ lines_said lands ls
  lines_are = ap (λ (ps : List (List ℕ)). map line_of (drop 1 ps)) text_lines ∙ lines_back lands ls spelling

  sheet_is : sheet_in X ≡ found
  sheet_is = λ t. record { start = start_is t; lines = lines_are t }

  pub count_is : line_count (sheet_in X) ≡ length (lines_in start v)
  count_is = ap length lines_are ∙ length-map ls (λ l. saying_of lands l.reading)

  last-is : last X ≡ 10
  unfolding sheet_text
  last-is =
      let f = lines_fed lands ls spelling (start_text start ++ (10 ∷ [])) (start_text start, refl) in
      ap last f.1 ∙ fed_last f.0

  feeds_are : feeds X ≡ suc (length ls)
  feeds_are = sym (lines-feeds X last-is) ∙ ap length text_lines ∙ ap suc (sym (length-map (lines_of (spelled_lines lands ls)) line_of) ∙ ap length (lines_back lands ls spelling) ∙ length-map ls (λ l. saying_of lands l.reading))

  one_line : (ps : List ReadLine) → Successive start v 0 ps → 1 ≤ length ps
  one_line [] c = absurd (omega (arith, c, u.some))
  one_line (p ∷ ps) c = omega arith

  is_sheet_lem : is_sheet X ≡ true
  unfolding sheet_text
  is_sheet_lem =
      let n = one_line ls u.whole in
      true_and (leb 1 (length X) && leb (length X) 65536 && eqb (last X) 10 && leb 2 (feeds X)) (leb (feeds X) 4097)
      (true_and (leb 1 (length X) && leb (length X) 65536 && eqb (last X) 10) (leb 2 (feeds X))
      (true_and (leb 1 (length X) && leb (length X) 65536) (eqb (last X) 10)
      (true_and (leb 1 (length X)) (leb (length X) 65536) (le-leb 1 (length X) (omega arith)) (le-leb (length X) 65536 u.text))
      (eq-eqb (last X) 10 last-is))
      (le-leb 2 (feeds X) (omega (arith, feeds_are, n))))
      (le-leb (feeds X) 4097 (omega (arith, feeds_are, u.lines)))

  opens : (places : ℕ) → line_count (sheet_in X) ≤ places → opening full X (start_in X) places ≡ in_order
  opens places h =
      and_fine (require (is_sheet X) 10) _ (require-is (is_sheet X) 10 is_sheet_lem)
      (and_fine (require (is_some (start_of (start_line X))) 7) _ (require-is _ 7 (ap is_some start_there))
      (and_fine (require (eqb (start_in X % 2) 0) 9) _ (require-is _ 9 (eq-eqb (start_in X % 2) 0 (ap (λ (n : ℕ). n % 2) start_is ∙ u.even)))
      (require-is _ 11 (le-leb (line_count (sheet_in X)) places h))))

  accepts : (places lent : ℕ) → line_count (sheet_in X) ≤ places → length v ≤ lent → outcome_of full X places lent ≡ in_order
  unfolding outcome_at
  accepts places lent h g =
      and_fine (opening full X (start_in X) places) _ (opens places h)
      (ap (λ (s : Sheet). sheet_outcome s lent) sheet_is ∙ found_accepted start v words ls u.whole u.ends u.branches lent g)

  found_returns' : Returns X start v
  found_returns' = record { accepts = accepts; starts = start_is; words = ap image sheet_is ∙ found_image start v words ls u.whole u.ends u.branches }

  line_is : (k : ℕ) (i : Instruction) (n : ℕ) → (get_or ls k (record { place = 0; reading = Nothing })).reading ≡ Read i n → Line (resolved (sheet_in X)) (tokens_of lands i) i
  line_is k i n q = subst (λ (s : Sheet). Line (resolved s) (tokens_of lands i) i) (sym sheet_is) (found_made start v words ls u.whole u.ends u.branches k i n q)

  -- the line's text says these tokens
  there : (k : ℕ) (i : Instruction) (n : ℕ) → (get_or ls k (record { place = 0; reading = Nothing })).reading ≡ Read i n → k < length ls
  there k i n q = go (lt? k (length ls))
    where
      go : Lt k (length ls) → k < length ls
      go (less h b) = h
      go (past h b) = absurd (read_not (ap (λ (l : ReadLine). l.reading) (outside ls k (record { place = 0; reading = Nothing }) h) ∙ q))

  said : (k : ℕ) (i : Instruction) (n : ℕ) → (get_or ls k (record { place = 0; reading = Nothing })).reading ≡ Read i n → line_at (sheet_in X) (suc k) ≡ says (tokens_of lands i)
  said k i n q =
      ap (λ (ps : List Parsed). get_or ps k no) lines_are
      ∙ map_at (λ l. saying_of lands l.reading) ls k (record { place = 0; reading = Nothing }) no (there k i n q)
      ∙ ap (saying_of lands) q

-- ---- the statements

-- line k + 1, which reads as i, says the tokens of i in the found sheet, and they make i
pub found_line : (start : ℕ) (v : List ℕ) (room : ℕ) → Words v → unsheet_outcome start v room ≡ in_order → (k : ℕ) (i : Instruction) (n : ℕ)
    → (get_or (lines_in start v) k (record { place = 0; reading = Nothing })).reading ≡ Read i n
    → (line_at (sheet_in (sheet_text start v)) (suc k) ≡ says (tokens_of (landing start (lines_in start v)) i)) × Line (resolved (sheet_in (sheet_text start v))) (tokens_of (landing start (lines_in start v)) i) i
found_line start v room words e k i n q = (said start v room words e k i n q, line_is start v room words e k i n q)

-- the found text, translated with enough lent, returns start and image
pub found_returns : (start : ℕ) (v : List ℕ) (room : ℕ) → Words v → unsheet_outcome start v room ≡ in_order → Returns (sheet_text start v) start v
found_returns start v room words e = found_returns' start v room words e

-- the found text of what it is translated into is itself, and is found again
pub fixed_point : (start : ℕ) (v : List ℕ) (room : ℕ) → Words v → unsheet_outcome start v room ≡ in_order
    → (sheet_text (start_in (sheet_text start v)) (image (sheet_in (sheet_text start v))) ≡ sheet_text start v)
    × (unsheet_outcome (start_in (sheet_text start v)) (image (sheet_in (sheet_text start v))) room ≡ in_order)
fixed_point start v room words e =
    let r = found_returns start v room words e in
    ((λ t. sheet_text (r.starts t) (r.words t)), ((λ t. unsheet_outcome (r.starts t) (r.words t) room) ∙ e))
