-- Laws of the translator's steps. Assumes nothing.
use mathlib.Core.Path.{◌≡◌, refl, sym, ap, ◌∙◌}
use mathlib.Core.Bool.{Bool, true, false}
use mathlib.Core.List.{List, ◌∷◌, ◌++◌}
use mathlib.Core.Option.{Option}
use Prim.Native.Nat.{ℕ, zero, suc, ◌+◌, ◌-◌, ◌%◌, ◌^◌, ◌≤◌, ◌<◌}
use native.Mathlib.Omega.{arith}
use native.Mathlib.Numerals.{add-one}
use lib.Dec.{eqb, leb}
use lib.IntN.{pos}
use lib.ListN.{length, take, drop, get_or, set, replicate, length-replicate, length-take, length-map}
use lib.Seq.{drop-cons, set_at}
use borrow.Author.Tests.{eq-eqb, ne_eqb, le-leb, lt-leb}
use Rattle.sheet_start.specs.declared.StartAt.{StartAt}
use Rattle.sheet_start.specs.StartLine.{start_at}
use Rattle.sheet_facts.specs.SheetLaws.{outline, count_feeds, count_most}
use Rattle.sheet_spec.specs.declared.Listed.{Listed}
use Rattle.sheet_spec.specs.Made.{is_some}
use Rattle.sheet_spec.specs.Sheet.{feeds, is_sheet, start_line, start_of, sized_of, sizes_of, Sheet, start_in, sheet_in, line_count, word_count, end_of, addresses, encoded, all_words}
use Rattle.sheet_spec.specs.Translate.{Outcome, in_order, refused, and_then, require, full, opening, sizing, closing, encoding, listed_as, over}
use Rattle.sheet_spec.specs.Promises.{MeasuredSheet, Translated}
use Rattle.sheet_facts.specs.Listing.{over_length}
use Rattle.sheet_passes.specs.declared.Passed.{Passed}
use Rattle.sheet_labels.specs.Labels.{listed}
use Rattle.sheet_passes.specs.declared.Sized.{Sized}
use Rattle.sheet_passes.specs.Passes.{passed_of, filled_of, parsed_at, Placed, encoded_at}
use Rattle.sheet_passes.specs.Settle.{sized_sheet, Settled}
use Rattle.sheet_passes.specs.PassLaws.{filled-addresses}
use Rattle.sheet_passes.specs.SettleLaws.{sized_passed, sized_settled, settled_fine}
use Rattle.sheet_translate.specs.Translated.{outcome_number, SizedSheet}
use Rattle.sheet_translate.specs.StageLaws.{Opened, opened}
use Rattle.sheet_translate.specs.Stages.{lines_from, start_ok, start_address, start_is, refused-size, sizes_in_order, needed, words_most, refused_end, measured-lines, encoding_left, placed-lines, encoded-lines, refused_range, image-fits, laid}
use Rattle.sheet_translate.specs.PlaceLaws.{over_take, over-same, sheet_places, filled_length, from-over}

-- ---- one more zero in the front
pub zero_more : (p : List ℕ) (i : ℕ) → i < length p → set (replicate i 0 ++ drop i p) i 0 ≡ replicate (i + 1) 0 ++ drop (i + 1) p
zero_more p i g = rw (add-one, drop-cons p i 0 g, set_at (replicate i 0) (get_or p i 0) (drop (suc i) p) 0 i (length-replicate i 0)) (rep i (drop (suc i) p))
  where
    rep : (n : ℕ) (l : List ℕ) → replicate n 0 ++ (0 ∷ l) ≡ 0 ∷ (replicate n 0 ++ l)
    rep zero l = refl
    rep (suc n) l = ap (λ (x : List ℕ). 0 ∷ x) (rep n l)

-- ---- the opening
module _ (text : List ℕ) (places : ℕ) where
  abbrev start : Option ℕ
  start = start_of (start_line text)

  abbrev staged : Bool → Bool → Bool → Outcome
  staged outline form even = and_then (require outline 10) (and_then (require form 7) (and_then (require even 9) (require (leb (line_count (sheet_in text)) places) 11)))

  pub open_10 : is_sheet text ≡ false → outcome_number (opening full text (start_in text) places) ≡ 10
  open_10 e = ap (λ (b : Bool). outcome_number (staged b (is_some start) (eqb (start_in text % 2) 0))) e

  module _ (e : is_sheet text ≡ true) (s : StartAt) (f : s ≡ start_at start) where
    form : (b : Bool) → s.ok ≡ b → is_some start ≡ b
    form b g = sym (start_ok start) ∙ ap (λ (t : StartAt). t.ok) (sym f) ∙ g

    address : start_in text ≡ s.address
    address = sym (start_address start) ∙ ap (λ (t : StartAt). t.address) (sym f)

    pub open_7 : s.ok ≡ false → outcome_number (opening full text (start_in text) places) ≡ 7
    open_7 g = λ i. outcome_number (staged (e i) (form false g i) (eqb (start_in text % 2) 0))

    module _ (g : s.ok ≡ true) where
      even : (b : Bool) → eqb (s.address % 2) 0 ≡ b → opening full text (start_in text) places ≡ staged true true b
      even b h = λ i. staged (e i) (form true g i) ((ap (λ (n : ℕ). eqb (n % 2) 0) address ∙ h) i)

      pub open_9 : (s.address % 2 ≡ 0 → ⊥) → outcome_number (opening full text (start_in text) places) ≡ 9
      open_9 h = ap outcome_number (even false (ne_eqb (s.address % 2) 0 h))

      module _ (h : s.address % 2 ≡ 0) where
        rest : opening full text (start_in text) places ≡ require (leb (line_count (sheet_in text)) places) 11
        rest = even true (eq-eqb (s.address % 2) 0 h)

        pub open_11 : places < feeds text - 1 → outcome_number (opening full text (start_in text) places) ≡ 11
        open_11 k = ap outcome_number rest ∙ rw (lt-leb (line_count (sheet_in text)) places (omega (arith, count_feeds text e)))

        pub open_0 : feeds text - 1 ≤ places → outcome_number (opening full text (start_in text) places) ≡ 0
        open_0 k = ap outcome_number rest ∙ rw (le-leb (line_count (sheet_in text)) places (omega (arith, count_feeds text e)))

-- ---- the closing
module _ (start words room : ℕ) where
  pub close_9 : 2 ^ 32 < end_of start words → outcome_number (closing start words room) ≡ 9
  close_9 h = rw (lt-leb (end_of start words) (2 ^ 32) h)

  pub close_11 : end_of start words ≤ 2 ^ 32 → room < words → outcome_number (closing start words room) ≡ 11
  close_11 h g = rw (le-leb (end_of start words) (2 ^ 32) h, lt-leb words room g)

  pub close_0 : end_of start words ≤ 2 ^ 32 → words ≤ room → outcome_number (closing start words room) ≡ 0
  close_0 h g = rw (le-leb (end_of start words) (2 ^ 32) h, le-leb words room g)

-- ---- the lines at their addresses
module _ {text : List ℕ} {from lines words : ℕ} {settled : Bool} {v s : List ℕ} (z : SizedSheet text from lines words settled v s) where
  pub lent : lines ≡ length (take lines s)
  lent = rw length-take (omega (arith, z.places))

  pub placed : Placed (take lines s) (parsed_at text from)
  placed = rw (z.addresses, z.begin) (placed-lines text z.measured (omega (arith, z.most, z.counted)))

  pub settled_lines : settled ≡ true → Settled (take lines s) (parsed_at text from)
  settled_lines t = rw (z.addresses, z.begin) (z.settles t)

  encoded-is : encoded_at (take lines s) (parsed_at text from) ≡ encoded (sheet_in text)
  encoded-is = rw (z.addresses, z.begin) (encoded-lines text)

  module _ (p : Passed) (e : p ≡ passed_of (encoding (encoded_at (take lines s) (parsed_at text from))) 0) where
    pub range_refused : (p.number ≡ 0 → ⊥) → (s' : List ℕ) (r : Listed) → r ≡ listed_as (refused p.number p.line p.detail p.value) 0 0
        → s' ≡ replicate (length s) 0 → Translated full text v s v s' r
    range_refused = refused_range full text v s z.outcome (encoded_at (take lines s) (parsed_at text from)) encoded-is p e

    module _ (h : p.number ≡ 0) where
      pub words_fit : length (all_words (encoded_at (take lines s) (parsed_at text from))) ≤ length v
      words_fit = image-fits full text v s z.outcome (encoded_at (take lines s) (parsed_at text from)) encoded-is p e h

      pub laid_down : (v' : List ℕ) → v' ≡ over (all_words (encoded_at (take lines s) (parsed_at text from))) v → Translated full text v s v' s (listed_as in_order lines words)
      laid_down v' f =
          laid full text v s z.outcome (encoded_at (take lines s) (parsed_at text from)) encoded-is p e h v' s lines words f
          (sym (over-same lines (addresses (sheet_in text)) s z.addresses z.places)) z.counted z.needed

-- ---- the lines of a sheet whose opening is in order
module _ (text v s : List ℕ) (o : opening full text (start_in text) (length s) ≡ in_order) (n : ℕ) (en : n ≡ feeds text) where
  abbrev T : Sheet
  T = sheet_in text

  begun : Opened full text (length s)
  begun = opened full text (start_in text) (length s) o

  pub feeds_some : 1 ≤ n
  feeds_some = omega (arith, (outline text begun.sheet).least)

  counted : n - 1 ≡ line_count T
  counted = ap (λ (k : ℕ). k - 1) en ∙ sym (count_feeds text begun.sheet)

  few : n - 1 ≤ 4096
  few = omega (arith, counted, count_most text begun.sheet)

  module _ (from : ℕ) (ef : from ≡ length (start_line text) + 1) where
    begin : parsed_at text from ≡ T.lines
    begin = lines_from text from ef

    pub sizes_ready : (n - 1 ≡ length (parsed_at text from)) × (n - 1 ≤ 4096) × (n - 1 ≤ length s)
    sizes_ready = (counted ∙ ap length (sym begin), few, omega (arith, counted, begun.scratch))

    module _ (t : StartAt) (et : t ≡ start_at (start_of (start_line text))) where
      started : t.address ≡ T.start
      started = start_is text t et

      module _ (x : Sized) (s₁ : List ℕ) (ex : x ≡ sized_sheet t.address (parsed_at text from)) (es : s₁ ≡ over (filled_of t.address (sizes_of (parsed_at text from))) s) where
        abbrev p : Passed
        p = x.passed

        sized_is : x ≡ sized_sheet T.start T.lines
        sized_is = ex ∙ rw (begin, started)

        pass_is : p ≡ passed_of (sizing T.lines) (word_count T)
        pass_is = ap (λ (y : Sized). y.passed) sized_is ∙ sized_passed T.start T.lines

        filled : s₁ ≡ over (filled_of T.start (sizes_of T.lines)) s
        filled = es ∙ rw (begin, started)

        kept : length s₁ ≡ length s
        kept =
            ap length filled
            ∙ over_length (filled_of T.start (sizes_of T.lines)) s
            (omega (arith, filled_length T.start (sizes_of T.lines), length-map T.lines (sized_of (line_count T)), begun.scratch))

        pub size-refused : (p.number ≡ 0 → ⊥) → (s' : List ℕ) (r : Listed) → r ≡ listed_as (refused p.number p.line p.detail p.value) 0 0
            → s' ≡ replicate (length s₁) 0 → Translated full text v s v s' r
        size-refused = refused-size full text v s o p pass_is s₁ kept

        module _ (h : p.number ≡ 0) where
          pub few_words : p.words ≤ 45056
          few_words = words_most full text v s o p pass_is s₁ kept h

          module _ (k : ℕ) (ek : k ≡ outcome_number (closing t.address p.words (length v))) where
            pub end_refused : (k ≡ 0 → ⊥) → (s' : List ℕ) (r : Listed) → r ≡ listed_as (refused k 0 0 (pos 0)) 0 0
                → s' ≡ replicate (length s₁) 0 → Translated full text v s v s' r
            end_refused = refused_end full text v s o p pass_is s₁ kept h t.address started k ek

            module _ (m : k ≡ 0) where
              measures : MeasuredSheet T
              measures = measured-lines full text v s o p pass_is s₁ kept h t.address started k ek m

              sizes_fine : sizing T.lines ≡ in_order
              sizes_fine = sizes_in_order full text v s o p pass_is s₁ kept h

              addressed : s₁ ≡ over (addresses T) s
              addressed = filled ∙ ap (λ (x : List ℕ). over x s) (filled-addresses (line_count T) 1 T.start T.lines sizes_fine measures.ends)

              settles : x.settled ≡ true → Settled (addresses T) T.lines
              settles q =
                  settled_fine (line_count T) (listed (addresses T)) 1 T.start T.lines sizes_fine measures.ends
                  (sym (ap (λ (y : Sized). y.settled) sized_is ∙ sized_settled T.start T.lines sizes_fine) ∙ q)

              pub ready : SizedSheet text from (n - 1) p.words x.settled v s₁
              ready =
                  record {
                    begin = begin;
                    most = few;
                    counted = counted;
                    needed = needed full text v s o p pass_is s₁ kept h;
                    places = omega (arith, kept, counted, begun.scratch);
                    addresses = rw addressed (over_take (addresses T) s (n - 1) (sheet_places text ∙ sym counted));
                    measured = measures;
                    settles = settles;
                    outcome = encoding_left full text v s o p pass_is s₁ kept h t.address started k ek m;
                  }

              pub done : (v' s' : List ℕ) (r : Listed) → Translated full text v s₁ v' s' r → Translated full text v s v' s' r
              done v' s' r d = from-over text v s v' s' r (addresses T) refl (omega (arith, sheet_places text, begun.scratch)) (rw addressed at d)
