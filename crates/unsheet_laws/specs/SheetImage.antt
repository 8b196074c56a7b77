-- The image of an accepted sheet is found, size of text allowing. Assumes nothing.
use Rattle.std.specs.Prelude.{ℕ, zero, suc, pred, ◌+◌, ◌*◌, ◌-◌, ◌/◌, ◌%◌, ◌^◌, ◌≤◌, ◌<◌, ◌≡◌, refl, ◌⊎◌, eqb, take, drop}
use Rattle.std.proofs.Common.{sym, ◌∙◌, inl, inr, arith, take_all, eq-eqb, le-leb}
use Rattle.std.proofs.Math.Path.{ap, subst}
use mathlib.Core.List.{List, [], ◌∷◌}
use Rattle.std.proofs.Math.ListN.{length}
use Rattle.base_facts.specs.Tests.{true_and, Eq, eq?, same, other}
use Rattle.isa.specs.declared.Instruction.{Instruction}
use Rattle.read_spec.specs.Reading.{Reading, Read}
use Rattle.read_spec.specs.Plain.{plain}
use Rattle.read_spec.specs.Read.{read_of}
use Rattle.sheet_spec.specs.Made.{made}
use Rattle.sheet_spec.specs.Sheet.{Sheet, sheet_at, start_in, sheet_in, line_count, counts, total, end_of, count_of_line, address_of_line, resolved, image}
use Rattle.sheet_spec.specs.Translate.{full, Outcome, in_order, and_then, outcome_at, outcome_of}
use Rattle.sheet_spec.specs.Follow.{Next, to, either, next_of, line_next, next_with, target_line, reading_at, Reads}
use Rattle.sheet_spec.specs.Promises.{AcceptedText, Demand3}
use Rattle.sheet_facts.specs.Lines.{line_grammar}
use Rattle.sheet_facts.specs.SheetLaws as sheets
use Rattle.sheet_size_facts.specs.Says.{line_makes}
use Rattle.sheet_size_facts.specs.Image.{total_suc, total_some}
use Rattle.sheet_size_facts.specs.Outcomes.{counts_length, accepted}
use Rattle.sheet_size_facts.specs.Bounds.{before, address_is, count_some}
use Rattle.sheet_size_facts.specs.Counted.{image-counts}
use Rattle.sheet_laws.specs.Follows.{Aims, Within}
use Rattle.sheet_laws.specs.Demand.{line_stands}
use Rattle.sheet_laws.specs.Demand3.{demand_3_text}
use Rattle.sheet_laws.specs.Otherwise.{require-is}
use Rattle.unsheet_spec.specs.Lines.{ReadLine, address_at, lines_in, landing}
use Rattle.unsheet_spec.specs.Text.{sheet_text}
use Rattle.unsheet_spec.specs.Unsheet.{reading_outcome, branch_outcome, along_lines, length_outcome, unsheet_outcome}
use Rattle.unsheet_spec.specs.Promises.{Successive, OnLine, Land}
use Rattle.unsheet_laws.specs.LinesLaws.{successive_read}
use Rattle.unsheet_laws.specs.Found.{land_branches}

-- where a plain form goes: to the address of a line of m
going : (x : Next) (a k m : ℕ) → Aims x a → Within x m k → (t : ℕ) → (x ≡ to t) ⊎ (x ≡ either t) → (t ≡ a) × (1 ≤ k) × (k ≤ m)
going x a k m p q t (inl e) = let h = subst (λ (y : Next). Aims y a × Within y m k) e (p, q) in (h.0, h.1.0, h.1.1)
going x a k m p q t (inr e) = let h = subst (λ (y : Next). Aims y a × Within y m k) e (p, q) in (h.0, h.1.0, h.1.1)

past : {u w o : Outcome} → u ≡ in_order → w ≡ o → and_then u w ≡ o
past {w = w} p q = ap (λ (x : Outcome). and_then x w) p ∙ q

module _ (text : List ℕ) (start places lent : ℕ) (e : outcome_at full text start places lent ≡ in_order) where
  abbrev s : Sheet
  s = sheet_at start text

  abbrev v : List ℕ
  v = image s

  ok : AcceptedText full text start places lent
  ok = accepted text start places lent e

  demand : Demand3 s v
  demand = demand_3_text full text start places lent e

  length_is : length v ≡ total (counts s)
  length_is = image-counts full text start places lent e

  -- the lines from line k on, m of them
  abbrev sheet_lines : ℕ → ℕ → List ReadLine
  sheet_lines k zero = []
  sheet_lines k (suc m) = record { place = before s k; reading = reading_at start v (address_of_line s k) } ∷ sheet_lines (suc k) m

  lines_length : (k m : ℕ) → length (sheet_lines k m) ≡ m
  lines_length k zero = refl
  lines_length k (suc m) = ap suc (lines_length (suc k) m)

  module _ (k : ℕ) (h : 1 ≤ k) (g : k ≤ line_count s) where
    d : Reads s v k
    d = (demand.each k h g).read

    address : address_of_line s k ≡ address_at start (before s k)
    address = address_is s k h g

    reads : read_of (drop (before s k) v) (address_at start (before s k)) ≡ Read (plain d.instruction) (2 * count_of_line s k)
    reads =
        let q : before s k ≡ (address_of_line s k - start) / 2 = omega (arith, address) in
        (λ t. read_of (drop (q t) v) (sym address t)) ∙ d.reads

    next_place : before s k + 2 * count_of_line s k / 2 ≡ before s (suc k)
    next_place =
        let z : suc (pred k) ≡ pred (suc k) = omega arith in
        omega (arith, total_suc (counts s) (pred k) (omega (arith, counts_length s)), ap (λ (n : ℕ). total (take n (counts s))) z)

    goes : next_with (resolved s) s k ≡ next_of (plain d.instruction)
    goes = ap line_next (ap (made (resolved s)) d.parsed ∙ line_makes (resolved s) d.tokens d.instruction d.line)

    lands : (i : Instruction) (n t : ℕ) → reading_at start v (address_of_line s k) ≡ Read i n → (next_of i ≡ to t) ⊎ (next_of i ≡ either t)
        → (j : ℕ) × (t ≡ address_at start (before s j)) × (1 ≤ j) × (j ≤ line_count s)
    lands i n t q x =
        let l = line_stands s (line_grammar text) lent ok.lines k h g in
        let r : Read (plain d.instruction) (2 * count_of_line s k) ≡ Read i n = sym d.reads ∙ q in
        let p : plain d.instruction ≡ i = cc in
        let y : next_with (resolved s) s k ≡ next_of i = goes ∙ ap next_of p in
        let j = target_line s k in
        let w = going (next_of i) (address_of_line s j) j (line_count s) (subst (λ (z : Next). Aims z (address_of_line s j)) y l.aims) (subst (λ (z : Next). Within z (line_count s) j) y l.within) t x in
        (j, w.0 ∙ address_is s j w.1 w.2, w.1, w.2)

  successive : (k m : ℕ) → 1 ≤ k → k + m ≡ suc (line_count s) → Successive start v (before s k) (sheet_lines k m)
  successive k zero h q =
      omega (arith, length_is, ap total (take_all (pred k) (counts s) (omega (arith, q, counts_length s))))
  successive k (suc m) h q =
      let g : k ≤ line_count s = omega arith in
      (plain (d k h g).instruction, 2 * count_of_line s k, ap (λ (r : Reading). record { place = before s k; reading = r }) (d k h g).reads, reads k h g, subst (λ (p : ℕ). Successive start v p (sheet_lines (suc k) m)) (sym (next_place k h g)) (successive (suc k) m (omega arith) (omega arith)))

  on_line : (k m j : ℕ) → k ≤ j → j < k + m → OnLine start (sheet_lines k m) (address_at start (before s j))
  on_line k zero j h g = absurd (omega arith)
  on_line k (suc m) j h g = go (on_line (suc k) m j) (eq? k j)
    where
      go : (suc k ≤ j → j < suc k + m → OnLine start (sheet_lines (suc k) m) (address_at start (before s j))) → Eq k j → OnLine start (sheet_lines k (suc m)) (address_at start (before s j))
      go next (same p q) = inl (ap (λ (n : ℕ). address_at start (before s n)) p)
      go next (other p q) = inr (next (omega (arith, h, p)) (omega (arith, g)))

  abbrev all : List ReadLine
  all = sheet_lines 1 (line_count s)

  land : (k m : ℕ) → 1 ≤ k → k + m ≡ suc (line_count s) → Land start all (sheet_lines k m)
  land k zero h q = tt
  land k (suc m) h q = (
    (λ i n t r x.
        let w = lands k h (omega arith) i n t r x in
        subst (OnLine start all) (sym w.1) (on_line 1 (line_count s) w.0 w.2 (omega (arith, w.3)))),
    land (suc k) m (omega arith) (omega arith),
  )

  read : (lines_in start v ≡ all) × (along_lines reading_outcome (lines_in start v) ≡ in_order)
  read =
      let c = successive_read start v all (successive 1 (line_count s) (omega arith) (omega arith)) in
      (sym c.0, subst (λ (ls : List ReadLine). along_lines reading_outcome ls ≡ in_order) c.0 c.1)

  -- at least one word
  some_words : 1 ≤ length v
  some_words =
      let c = total_some (counts s) (λ k q. count_some s (line_grammar text) ok.lines.measured (suc k) (omega arith) (omega (arith, counts_length s))) in
      omega (arith, length_is, c, counts_length s, sheets.count_some text ok.sheet)

  found_but : (room : ℕ) → unsheet_outcome start v room ≡ length_outcome (sheet_text start v) room
  unfolding unsheet_outcome
  found_but room =
      let ls = lines_in start v in
      let branches : along_lines (branch_outcome (landing start ls)) ls ≡ in_order = subst (λ (ms : List ReadLine). along_lines (branch_outcome (landing start ms)) ms ≡ in_order) (sym read.0) (land_branches start all all 1 (land 1 (line_count s) (omega arith) (omega arith))) in
      past (require-is _ 9 (true_and (eqb (start % 2) 0) _ (eq-eqb (start % 2) 0 ok.even) (le-leb (end_of start (length v)) (2 ^ 32) (omega (arith, length_is, ok.lines.measured.ends)))))
      (past (require-is _ 5 (le-leb 1 (length v) some_words))
      (past read.1
      (past (require-is _ 10 (le-leb (length ls) 4096 (omega (arith, ap length read.0, lines_length 1 (line_count s), sheets.count_most text ok.sheet))))
      (past branches refl))))

-- as many lines are read as the sheet has
pub lines_found : (text : List ℕ) (start places words : ℕ) → outcome_at full text start places words ≡ in_order → length (lines_in start (image (sheet_at start text))) ≡ line_count (sheet_at start text)
lines_found text start places words e = ap length (read text start places words e).0 ∙ lines_length text start places words e 1 (line_count (sheet_at start text))

-- of a text at a start: found, or 17 and the spelling is too long
pub sheet_found_at : (text : List ℕ) (start places words : ℕ) → outcome_at full text start places words ≡ in_order → (room : ℕ)
    → unsheet_outcome start (image (sheet_at start text)) room
    ≡ length_outcome (sheet_text start (image (sheet_at start text))) room
sheet_found_at text start places words e room = found_but text start places words e room

-- at its own
pub sheet_found : (text : List ℕ) (places words : ℕ) → outcome_of full text places words ≡ in_order → (room : ℕ)
    → unsheet_outcome (start_in text) (image (sheet_in text)) room
    ≡ length_outcome (sheet_text (start_in text) (image (sheet_in text))) room
sheet_found text places words e room = sheet_found_at text (start_in text) places words e room
