-- No refusal comes otherwise: a sheet with every place of 01's table in order is accepted. Assumes nothing.
use Rattle.std.specs.Prelude.{ℕ, suc, pred, ◌%◌, ◌^◌, ◌≤◌, ◌<◌, ◌≡◌, refl, Bool, true, false, List, [], ◌∷◌, leb, eqb, length, get_or}
use Rattle.std.proofs.Common.{ap, ◌∙◌, arith, eq-eqb, le-leb}
use Rattle.std.proofs.lemmas.Bool.{false≢true}
use Rattle.std.proofs.lemmas.List.{length-map}
use Rattle.isa.specs.declared.Measured.{Measured}
use Rattle.isa.specs.declared.Encoded.{Encoded}
use Rattle.sheet_spec.specs.Line.{Parsed, no}
use Rattle.sheet_spec.specs.Made.{is_some}
use Rattle.sheet_spec.specs.Sheet.{is_sheet, start_line, start_of, sized_of, sizes_of, Sheet, sheet_at, line_count, word_count, end_of, addresses, resolved, encoded}
use Rattle.sheet_spec.specs.Translate.{ScratchRule, Outcome, in_order, and_then, require, in_turn, size_outcome, encode_outcome, opening, sizing, closing, encoding, sheet_outcome, outcome_at}
use Rattle.sheet_spec.specs.Promises.{AcceptedSheet, AcceptedText}
use Rattle.sheet_facts.specs.Listing.{as_in_order}
use Rattle.sheet_size_facts.specs.Image.{no_words, encoded-is}
use Rattle.sheet_size_facts.specs.Outcomes.{map_at, places_length, lines_length}

pub require-is : (b : Bool) (k : ℕ) → b ≡ true → require b k ≡ in_order
require-is true k e = refl
require-is false k e = absurd (false≢true e)

pub and_fine : (u v : Outcome) → u ≡ in_order → v ≡ in_order → and_then u v ≡ in_order
and_fine u v p q = ap (λ w. and_then w v) p ∙ q

all_in_order : {A : Type 0} (says : ℕ → A → Outcome) (d : A) (k : ℕ) (xs : List A) → ((j : ℕ) → j < length xs → (n : ℕ) → says n (get_or xs j d) ≡ in_order) → in_turn says k xs ≡ in_order
all_in_order says d k [] h = refl
all_in_order says d k (x ∷ xs) h = and_fine (says k x) (in_turn says (suc k) xs) (h 0 (omega arith) k) (all_in_order says d (suc k) xs (λ j q. h (suc j) (omega arith)))

-- of a sheet
all_sized : (ps : List Parsed) → ((n : ℕ) → 1 ≤ n → n ≤ length ps → (sized_of (length ps) (get_or ps (pred n) no)).number ≡ 0) → sizing ps ≡ in_order
all_sized ps ok =
    let d = sized_of (length ps) no in
    all_in_order size_outcome d 1 (sizes_of ps) (λ j q n.
    let m = get_or (sizes_of ps) j d in
    let r : j < length ps = omega (arith, length-map ps (sized_of (length ps))) in
    as_in_order n m.number m.detail m.value (ap (λ (x : Measured). x.number) (map_at (sized_of (length ps)) ps j no d r) ∙ ok (suc j) (omega arith) (omega arith)))

all-encoded : (s : Sheet) (room : ℕ) → AcceptedSheet s room → encoding (encoded s) ≡ in_order
all-encoded s room ok =
    all_in_order encode_outcome no_words 1 (encoded s) (λ j q n.
    let e = get_or (encoded s) j no_words in
    let r : j < line_count s = omega (arith, lines_length s) in
    as_in_order n e.number e.detail e.value
    (ap (λ (x : Encoded). x.number) (encoded-is (resolved s) (addresses s) s.lines (places_length s) j r) ∙ ok.encoded (suc j) (omega arith) (omega arith)))

pub sheet_not_otherwise : (s : Sheet) (room : ℕ) → AcceptedSheet s room → sheet_outcome s room ≡ in_order
sheet_not_otherwise s room ok =
    let stop = end_of s.start (word_count s) in
    and_fine (sizing s.lines) _ (all_sized s.lines ok.measured.sized)
    (and_fine (closing s.start (word_count s) room) _
    (and_fine (require (leb stop (2 ^ 32)) 9) _ (require-is _ 9 (le-leb stop (2 ^ 32) ok.measured.ends)) (require-is _ 11 (le-leb (word_count s) room ok.image)))
    (all-encoded s room ok))

-- of a text at a start
pub not_otherwise : {rule : ScratchRule} (text : List ℕ) (start places room : ℕ) → AcceptedText rule text start places room → outcome_at rule text start places room ≡ in_order
unfolding outcome_at
not_otherwise {rule} text start places room ok =
    let s = sheet_at start text in
    and_fine (opening rule text start places) _
    (and_fine (require (is_sheet text) 10) _ (require-is (is_sheet text) 10 ok.sheet)
    (and_fine (require (is_some (start_of (start_line text))) 7) _ (require-is _ 7 (ap is_some ok.form))
    (and_fine (require (eqb (start % 2) 0) 9) _ (require-is _ 9 (eq-eqb (start % 2) 0 ok.even))
    (require-is _ 11 (le-leb (rule.needed (line_count s)) places ok.scratch)))))
    (sheet_not_otherwise s room ok.lines)
