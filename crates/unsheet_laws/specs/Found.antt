-- An image is accepted exactly where every sentence of 02 (N6) is met, by one list of lines. Assumes nothing.
use Rattle.std.specs.Prelude.{ℕ, suc, ◌%◌, ◌^◌, ◌≡◌, refl, Bool, true, false, cond, ◌&&◌, List, [], ◌∷◌, ◌⊎◌, eqb, leb, length}
use Rattle.std.proofs.Common.{subst, inl, inr, eq-eqb, eqb-true, le-leb, leb-true}
use Rattle.std.proofs.Math.Option.{Option}
use Rattle.base_facts.specs.Tests.{and-true, true_and}
use Rattle.isa.specs.declared.Instruction.{Instruction}
use Rattle.read_spec.specs.Reading.{Reading, Read, Short, Nothing}
use Rattle.sheet_spec.specs.Made.{is_some}
use Rattle.sheet_spec.specs.Sheet.{end_of}
use Rattle.sheet_spec.specs.Follow.{Next, on, to, either, stop, next_of}
use Rattle.sheet_spec.specs.Translate.{Outcome, in_order, require, in_turn}
use Rattle.sheet_facts.specs.Listing.{both_in_order, refused_not}
use Rattle.sheet_laws.specs.Otherwise.{require-is, and_fine}
use Rattle.unsheet_spec.specs.Lines.{ReadLine, lines_in, landing}
use Rattle.unsheet_spec.specs.Text.{sheet_text}
use Rattle.unsheet_spec.specs.Unsheet.{reading_outcome, goes_to_line, branch_outcome, along_lines, unsheet_outcome}
use Rattle.unsheet_spec.specs.Promises.{Land, Found}
use Rattle.unsheet_facts.specs.Stages.{stages}
use Rattle.unsheet_laws.specs.LinesLaws.{read_successive, successive_read}
use Rattle.unsheet_laws.specs.Lands.{some_on, on_some}

-- ---- branches
abbrev Going : Next → ℕ → Type 0
Going x t = (x ≡ to t) ⊎ (x ≡ either t)

goes_on : (lands : ℕ → Option ℕ) (x : Next) → goes_to_line lands x ≡ true → (t : ℕ) → Going x t → is_some (lands t) ≡ true
goes_on lands x h t (inl e) = rw e at h
goes_on lands x h t (inr e) = rw e at h

pub on_goes : (lands : ℕ → Option ℕ) (x : Next) → ((t : ℕ) → Going x t → is_some (lands t) ≡ true) → goes_to_line lands x ≡ true
on_goes lands on h = refl
on_goes lands (to t) h = h t (inl refl)
on_goes lands (either t) h = h t (inr refl)
on_goes lands stop h = refl

cond_in_order : (b : Bool) (o : Outcome) → (o ≡ in_order → b ≡ true) → cond b in_order o ≡ in_order → b ≡ true
cond_in_order true o h e = refl
cond_in_order false o h e = h e

branch_goes : (lands : ℕ → Option ℕ) (p : ℕ) (r : Reading) → branch_outcome lands p r ≡ in_order → (i : Instruction) (n : ℕ) → r ≡ Read i n → goes_to_line lands (next_of i) ≡ true
branch_goes lands p r e i n q = cond_in_order (goes_to_line lands (next_of i)) _ refused_not (rw q at e)

goes_branch : (lands : ℕ → Option ℕ) (p : ℕ) (r : Reading) → ((i : Instruction) (n : ℕ) → r ≡ Read i n → goes_to_line lands (next_of i) ≡ true) → branch_outcome lands p r ≡ in_order
goes_branch lands p (Read i n) h = rw (h i n refl)
goes_branch lands p Short h = refl
goes_branch lands p Nothing h = refl

module _ (start : ℕ) (all : List ReadLine) where
  abbrev Along : List ReadLine → ℕ → Type 0
  Along ls j = in_turn (λ k l. branch_outcome (landing start all) l.place l.reading) j ls ≡ in_order

  branches_land : (ls : List ReadLine) (j : ℕ) → Along ls j → Land start all ls
  branches_land [] j e = tt
  branches_land (l ∷ ls) j e =
      let b = both_in_order (branch_outcome (landing start all) l.place l.reading) _ e in
      ((λ i n t q g. some_on start 1 all t (goes_on (landing start all) (next_of i) (branch_goes (landing start all) l.place l.reading b.0 i n q) t g)), branches_land ls (suc j) b.1)

  pub land_branches : (ls : List ReadLine) (j : ℕ) → Land start all ls → Along ls j
  land_branches [] j h = refl
  land_branches (l ∷ ls) j h =
      and_fine (branch_outcome (landing start all) l.place l.reading) _
      (goes_branch (landing start all) l.place l.reading (λ i n q. on_goes (landing start all) (next_of i) (λ t g. on_some start 1 all t (h.0 i n t q g))))
      (land_branches ls (suc j) h.1)

-- ---- accepted: every sentence is met by the lines of the image
pub found_sound : (start : ℕ) (v : List ℕ) (room : ℕ) → unsheet_outcome start v room ≡ in_order → Found start v room (lines_in start v)
found_sound start v room e =
    let n = length (sheet_text start v) in
    let s = stages start v room e in
    let x = and-true (eqb (start % 2) 0) (leb (end_of start (length v)) (2 ^ 32)) s.starts in
    let y = and-true (leb n 65536) (leb n room) s.short in
    record {
      even = eqb-true (start % 2) 0 x.0;
      ends = leb-true (end_of start (length v)) (2 ^ 32) x.1;
      some = leb-true 1 (length v) s.some;
      whole = read_successive start v s.reads;
      lines = leb-true (length (lines_in start v)) 4096 s.few;
      branches = branches_land start (lines_in start v) (lines_in start v) 1 s.lands;
      text = leb-true n 65536 y.0;
      lent = leb-true n room y.1;
    }

-- ---- and where it is met by some list of lines, these are the lines of the image and it is accepted
found_all : (start : ℕ) (v : List ℕ) (room : ℕ) → Found start v room (lines_in start v) → unsheet_outcome start v room ≡ in_order
unfolding unsheet_outcome
found_all start v room u =
    let ls = lines_in start v in
    let n = length (sheet_text start v) in
    and_fine (require (eqb (start % 2) 0 && leb (end_of start (length v)) (2 ^ 32)) 9) _ (require-is _ 9 (true_and (eqb (start % 2) 0) _ (eq-eqb (start % 2) 0 u.even) (le-leb (end_of start (length v)) (2 ^ 32) u.ends)))
    (and_fine (require (leb 1 (length v)) 5) _ (require-is _ 5 (le-leb 1 (length v) u.some))
    (and_fine (along_lines reading_outcome ls) _ (successive_read start v ls u.whole).1
    (and_fine (require (leb (length ls) 4096) 10) _ (require-is _ 10 (le-leb (length ls) 4096 u.lines))
    (and_fine (along_lines (branch_outcome (landing start ls)) ls) _ (land_branches start ls ls 1 u.branches)
    (require-is _ 17 (true_and (leb n 65536) (leb n room) (le-leb n 65536 u.text) (le-leb n room u.lent)))))))

pub found_complete : (start : ℕ) (v : List ℕ) (room : ℕ) (ls : List ReadLine) → Found start v room ls → (ls ≡ lines_in start v) × (unsheet_outcome start v room ≡ in_order)
found_complete start v room ls u =
    let e = (successive_read start v ls u.whole).0 in
    (e, found_all start v room (subst (Found start v room) e u))
