-- The stages of what `unsheet` answers: all are in order where it accepts, and a refusal is outside lines. Assumes nothing.
use Rattle.std.specs.Prelude.{ℕ, ◌%◌, ◌^◌, ◌≡◌, refl, Bool, true, ◌&&◌, List, eqb, leb, pos, length}
use Rattle.std.proofs.Math.Option.{Option}
use Rattle.std.proofs.Common.{arith}
use Rattle.read_spec.specs.Reading.{Reading, Read, Short, Nothing}
use Rattle.sheet_spec.specs.Sheet.{end_of}
use Rattle.sheet_spec.specs.Follow.{next_of}
use Rattle.sheet_spec.specs.Translate.{Outcome, in_order, refused, require}
use Rattle.sheet_facts.specs.Listing.{both_in_order, require_true}
use Rattle.srecord_facts.specs.Refused.{of_then, of_cond, of_turn}
use Rattle.srecord_facts.specs.Printing.{Outside}
use Rattle.unsheet_spec.specs.Lines.{ReadLine, lines_in, landing}
use Rattle.unsheet_spec.specs.Text.{sheet_text}
use Rattle.unsheet_spec.specs.Unsheet.{reading_outcome, goes_to_line, branch_outcome, along_lines, length_outcome, landed_outcome, found_outcome, unsheet_outcome}

-- ---- accepted
pub record Stages (start : ℕ) (image : List ℕ) (room : ℕ) : Type 0 where
  pub starts : eqb (start % 2) 0 && leb (end_of start (length image)) (2 ^ 32) ≡ true
  pub some : leb 1 (length image) ≡ true
  pub reads : along_lines reading_outcome (lines_in start image) ≡ in_order
  pub few : leb (length (lines_in start image)) 4096 ≡ true
  pub lands : along_lines (branch_outcome (landing start (lines_in start image))) (lines_in start image) ≡ in_order
  pub short : leb (length (sheet_text start image)) 65536 && leb (length (sheet_text start image)) room ≡ true

pub stages : (start : ℕ) (image : List ℕ) (room : ℕ) → unsheet_outcome start image room ≡ in_order → Stages start image room
unfolding unsheet_outcome
stages start image room e =
    let a = both_in_order (require (eqb (start % 2) 0 && leb (end_of start (length image)) (2 ^ 32)) 9) _ e in
    let b = both_in_order (require (leb 1 (length image)) 5) _ a.1 in
    let c = both_in_order (along_lines reading_outcome (lines_in start image)) _ b.1 in
    let d = both_in_order (require (leb (length (lines_in start image)) 4096) 10) _ c.1 in
    let f = both_in_order (along_lines (branch_outcome (landing start (lines_in start image))) (lines_in start image)) _ d.1 in
    record { starts = require_true _ 9 a.0; some = require_true _ 5 b.0; reads = c.0; few = require_true _ 10 d.0; lands = f.0; short = require_true _ 17 f.1 }

-- ---- refused outside lines, if at all
outside_require : (b : Bool) (n : ℕ) → (n ≡ 0 → ⊥) → Outside (require b n)
outside_require b n h = of_cond Outside b in_order (refused n 0 0 (pos 0)) tt (h, refl, refl)

outside_read : (place : ℕ) (r : Reading) → Outside (reading_outcome place r)
outside_read place (Read i n) = tt
outside_read place Short = ((λ h. omega arith), refl, refl)
outside_read place Nothing = ((λ h. omega arith), refl, refl)

outside_branch : (lands : ℕ → Option ℕ) (place : ℕ) (r : Reading) → Outside (branch_outcome lands place r)
outside_branch lands place (Read i n) = of_cond Outside (goes_to_line lands (next_of i)) in_order (refused 16 0 0 (pos place)) tt ((λ h. omega arith), refl, refl)
outside_branch lands place Short = tt
outside_branch lands place Nothing = tt

outside_along : (says : ℕ → Reading → Outcome) → ((place : ℕ) (r : Reading) → Outside (says place r)) → (ls : List ReadLine) → Outside (along_lines says ls)
outside_along says f ls = of_turn Outside (λ (k : ℕ) (l : ReadLine). says l.place l.reading) tt (λ k l. f l.place l.reading) 1 ls

outside_landed : (lands : ℕ → Option ℕ) (ls : List ReadLine) (text : List ℕ) (room : ℕ) → Outside (landed_outcome lands ls text room)
outside_landed lands ls text room =
    of_then Outside (along_lines (branch_outcome lands) ls) (length_outcome text room) (outside_along (branch_outcome lands) (outside_branch lands) ls)
    (outside_require (leb (length text) 65536 && leb (length text) room) 17 (λ h. omega arith))

pub outside : (start : ℕ) (image : List ℕ) (room : ℕ) → Outside (unsheet_outcome start image room)
unfolding unsheet_outcome
outside start image room =
    let ls = lines_in start image in
    of_then Outside (require (eqb (start % 2) 0 && leb (end_of start (length image)) (2 ^ 32)) 9) _ (outside_require (eqb (start % 2) 0 && leb (end_of start (length image)) (2 ^ 32)) 9 (λ h. omega arith))
    (of_then Outside (require (leb 1 (length image)) 5) (found_outcome start image room) (outside_require (leb 1 (length image)) 5 (λ h. omega arith))
    (of_then Outside (along_lines reading_outcome ls) _ (outside_along reading_outcome outside_read ls)
    (of_then Outside (require (leb (length ls) 4096) 10) _ (outside_require (leb (length ls) 4096) 10 (λ h. omega arith))
    (outside_landed (landing start ls) ls (sheet_text start image) room))))
