-- What an accepted sheet is: every place of 01's table in order.
use Rattle.std.specs.Prelude.{ℕ, zero, suc, pred, ◌+◌, ◌%◌, ◌^◌, ◌≤◌, ◌<◌, ◌≡◌, refl, true, List, [], ◌∷◌, map, leb, eqb, length, get_or}
use Rattle.std.proofs.Common.{sym, ap, ◌∙◌, arith, eqb-true, leb-true}
use Rattle.std.proofs.lemmas.Bool.{false≢true}
use Rattle.std.proofs.Math.Option
use Rattle.std.proofs.Math.Option.{Option, none, some}
use Rattle.std.proofs.lemmas.List.{length-map}
use Rattle.isa.specs.declared.Measured.{Measured}
use Rattle.isa.specs.declared.Encoded.{Encoded}
use Rattle.sheet_spec.specs.Line.{Parsed, no}
use Rattle.sheet_spec.specs.Made.{is_some}
use Rattle.sheet_spec.specs.Sheet.{is_sheet, start_line, start_of, sized_of, sizes_of, half_of, Sheet, sheet_at, line_count, counts, word_count, end_of, addresses, line_at, count_of_line, resolved, encoded}
use Rattle.sheet_spec.specs.Translate.{ScratchRule, Outcome, in_order, require, in_turn, size_outcome, encode_outcome, opening, sizing, closing, encoding, sheet_outcome, outcome_at}
use Rattle.sheet_spec.specs.Promises.{MeasuredSheet, AcceptedSheet, AcceptedText}
use Rattle.sheet_facts.specs.Listing.{both_in_order, require_true, in_order_zero}
use Rattle.sheet_size_facts.specs.Image.{addresses_length, no_words, encoded_length, encoded-is}

-- ---- START
start_form : (s : Option ℕ) → is_some s ≡ true → s ≡ some (Option.get_or s 0)
start_form (some n) e = refl
start_form none e = absurd (false≢true e)

-- ---- each line in turn
pub each_in_order : {A : Type 0} (says : ℕ → A → Outcome) (k : ℕ) (xs : List A) → in_turn says k xs ≡ in_order → (d : A) (j : ℕ) → j < length xs → says (k + j) (get_or xs j d) ≡ in_order
each_in_order says k [] e d j h = absurd (omega arith)
each_in_order says k (x ∷ xs) e d zero h =
    let z : k + 0 ≡ k = omega arith in
    ap (λ (n : ℕ). says n x) z ∙ (both_in_order (says k x) (in_turn says (suc k) xs) e).0
each_in_order says k (x ∷ xs) e d (suc j) h =
    let z : k + suc j ≡ suc k + j = omega arith in
    ap (λ (n : ℕ). says n (get_or xs j d)) z ∙ each_in_order says (suc k) xs (both_in_order (says k x) (in_turn says (suc k) xs) e).1 d j (omega arith)

pub map_at : {A B : Type 0} (f : A → B) (xs : List A) (k : ℕ) (a : A) (b : B) → k < length xs → get_or (map f xs) k b ≡ f (get_or xs k a)
map_at f [] k a b h = absurd (omega arith)
map_at f (x ∷ xs) zero a b h = refl
map_at f (x ∷ xs) (suc k) a b h = map_at f xs k a b (omega arith)

-- ---- what the lines count
module _ (s : Sheet) where
  pub counts_length : length (counts s) ≡ line_count s
  counts_length = length-map (sizes_of s.lines) half_of ∙ length-map s.lines (sized_of (line_count s))

  pub count_half : (n : ℕ) → 1 ≤ n → n ≤ line_count s → count_of_line s n ≡ half_of (sized_of (line_count s) (line_at s n))
  count_half n h g =
      let d = sized_of (line_count s) no in
      map_at half_of (sizes_of s.lines) (pred n) d 0 (omega (arith, length-map s.lines (sized_of (line_count s))))
      ∙ ap half_of (map_at (sized_of (line_count s)) s.lines (pred n) no d (omega arith))

  pub places_length : length (addresses s) ≡ line_count s
  places_length = addresses_length s.start (counts s) ∙ counts_length

  pub lines_length : length (encoded s) ≡ line_count s
  lines_length = encoded_length (resolved s) (addresses s) s.lines places_length

  encoding-each : encoding (encoded s) ≡ in_order → (n : ℕ) → 1 ≤ n → n ≤ line_count s → (get_or (encoded s) (pred n) no_words).number ≡ 0
  encoding-each e n h g = in_order_zero _ (get_or (encoded s) (pred n) no_words).number _ _ (each_in_order encode_outcome 1 (encoded s) e no_words (pred n) (omega (arith, lines_length)))

pub sizing-each : (ps : List Parsed) → sizing ps ≡ in_order → (n : ℕ) → 1 ≤ n → n ≤ length ps → (sized_of (length ps) (get_or ps (pred n) no)).number ≡ 0
sizing-each ps e n h g =
    let m = each_in_order size_outcome 1 (sizes_of ps) e (sized_of (length ps) no) (pred n) (omega (arith, length-map ps (sized_of (length ps)))) in
    let z = in_order_zero _ (get_or (sizes_of ps) (pred n) (sized_of (length ps) no)).number _ _ m in
    sym (ap (λ (x : Measured). x.number) (map_at (sized_of (length ps)) ps (pred n) no (sized_of (length ps) no) (omega arith))) ∙ z

pub measured_sheet : (s : Sheet) (room : ℕ) → sizing s.lines ≡ in_order → closing s.start (word_count s) room ≡ in_order → MeasuredSheet s
measured_sheet s room e f =
    let c = both_in_order (require (leb (end_of s.start (word_count s)) (2 ^ 32)) 9) _ f in
    record { sized = sizing-each s.lines e; ends = leb-true (end_of s.start (word_count s)) (2 ^ 32) (require_true _ 9 c.0) }

pub accepted_sheet : (s : Sheet) (room : ℕ) → sheet_outcome s room ≡ in_order → AcceptedSheet s room
accepted_sheet s room e =
    let a = both_in_order (sizing s.lines) _ e in
    let b = both_in_order (closing s.start (word_count s) room) _ a.1 in
    let c = both_in_order (require (leb (end_of s.start (word_count s)) (2 ^ 32)) 9) _ b.0 in
    record {
      measured = measured_sheet s room a.0 b.0;
      image = leb-true (word_count s) room (require_true _ 11 c.1);
      encoded = λ n h g. sym (ap (λ (x : Encoded). x.number) (encoded-is (resolved s) (addresses s) s.lines (places_length s) (pred n) (omega arith))) ∙ encoding-each s b.1 n h g;
    }

-- ---- a text
pub even_start : (rule : ScratchRule) (text : List ℕ) (start places : ℕ) → opening rule text start places ≡ in_order → start % 2 ≡ 0
even_start rule text start places e =
    let a = both_in_order (require (is_sheet text) 10) _ e in
    let b = both_in_order (require (is_some (start_of (start_line text))) 7) _ a.1 in
    let c = both_in_order (require (eqb (start % 2) 0) 9) _ b.1 in
    eqb-true (start % 2) 0 (require_true _ 9 c.0)

pub accepted : {rule : ScratchRule} (text : List ℕ) (start places room : ℕ) → outcome_at rule text start places room ≡ in_order → AcceptedText rule text start places room
unfolding outcome_at
accepted {rule} text start places room e =
    let o = both_in_order (opening rule text start places) _ e in
    let a = both_in_order (require (is_sheet text) 10) _ o.0 in
    let b = both_in_order (require (is_some (start_of (start_line text))) 7) _ a.1 in
    let c = both_in_order (require (eqb (start % 2) 0) 9) _ b.1 in
    record {
      sheet = require_true (is_sheet text) 10 a.0;
      form = start_form (start_of (start_line text)) (require_true _ 7 b.0);
      even = even_start rule text start places o.0;
      scratch = leb-true (rule.needed (line_count (sheet_at start text))) places (require_true _ 11 c.1);
      lines = accepted_sheet (sheet_at start text) room o.1;
    }
