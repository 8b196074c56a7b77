-- Laws of the steps of `translate_sparse`. Assumes nothing.
use mathlib.Core.Path.{◌≡◌, refl, sym, ap, ◌∙◌}
use mathlib.Core.Bool.{Bool, true, false}
use mathlib.Core.List.{List, map}
use Prim.Native.Nat.{ℕ, ◌+◌, ◌*◌, ◌-◌, ◌/◌, ◌%◌, ◌≤◌, ◌<◌}
use native.Mathlib.Omega.{arith}
use lib.Dec.{eqb, leb}
use lib.IntN.{pos}
use lib.ListN.{length, take, get_or, replicate, length-take}
use borrow.Author.Tests.{le-leb}
use Rattle.base_facts.specs.Tests.{Lt, less, past, lt?}
use Rattle.sheet_start.specs.declared.StartAt.{StartAt}
use Rattle.sheet_start.specs.StartLine.{start_at}
use Rattle.sheet_facts.specs.SheetLaws.{outline, count_feeds, count_most}
use Rattle.sheet_facts.specs.Listing.{over_length}
use Rattle.sheet_spec.specs.declared.Listed.{Listed}
use Rattle.sheet_spec.specs.Made.{is_some}
use Rattle.sheet_spec.specs.Sheet.{feeds, is_sheet, start_line, start_of, sizes_of, half_of, total, Sheet, start_in, sheet_in, line_count, word_count, addresses, encoded, all_words}
use Rattle.sheet_spec.specs.Translate.{in_order, refused, and_then, require, full, sparse, firsts_from, opening, sizing, closing, encoding, listed_as, over}
use Rattle.sheet_spec.specs.Promises.{Translated}
use Rattle.sheet_size_facts.specs.Scratch.{sparse-filled, sparse_enough}
use Rattle.sheet_size_facts.specs.OutcomeLaws.{encoded_sound}
use Rattle.sheet_passes.specs.declared.Passed.{Passed}
use Rattle.sheet_passes.specs.Passes.{passed_of, parsed_at, encoded_at}
use Rattle.sheet_passes.specs.PassLaws.{total-most}
use Rattle.sheet_translate.specs.Translated.{outcome_number}
use Rattle.sheet_translate.specs.StageLaws.{Opened, opened}
use Rattle.sheet_translate.specs.Stages.{passed_in_order, lines_from, start_is, refused-size, sizes_in_order, needed, words_most, refused_end, measured-lines, encoding_left, placed-lines, encoded-lines, refused_range, image-fits, laid}
use Rattle.sheet_translate.specs.PlaceLaws.{over_take, held_places, from-over}
use Rattle.sheet_blocks.specs.Blocks.{blocks_from, address_held, BlockAt, BlockLines}
use Rattle.sheet_blocks.specs.BlockLaws.{blocks_from_lem, blocks_length, blocks_most, blocks_addresses}
use Rattle.sheet_sparse.specs.SizedBlocks.{lines_served, SizedBlocks}

-- ---- the opening: so many places serve a sheet exactly where the lines that they serve are as many as it has
served : (n places : ℕ) → n ≤ 4096 → leb n (lines_served places) ≡ leb (sparse.needed n) places
served n places most = go (lt? places 64)
  where
    go : Lt places 64 → leb n (lines_served places) ≡ leb ((n + 63) / 64) places
    go (less h e) = rw e (sym (sparse_enough n places))
    go (past h e) = rw (e, le-leb n 4096 most, le-leb ((n + 63) / 64) places (omega arith))

served_opening : (text : List ℕ) (places : ℕ) → opening full text (start_in text) (lines_served places) ≡ opening sparse text (start_in text) places
served_opening text places = go (is_sheet text) refl
  where
    go : (t : Bool) → is_sheet text ≡ t → opening full text (start_in text) (lines_served places) ≡ opening sparse text (start_in text) places
    go true e =
        ap (λ (b : Bool). and_then (require (is_sheet text) 10) (and_then (require (is_some (start_of (start_line text))) 7) (and_then (require (eqb (start_in text % 2) 0) 9) (require b 11))))
        (served (line_count (sheet_in text)) places (count_most text e))
    go false e = rw e

pub opening-number : (text : List ℕ) (places m : ℕ) → m ≡ lines_served places → (k : ℕ) → k ≡ outcome_number (opening full text (start_in text) m)
    → k ≡ outcome_number (opening sparse text (start_in text) places)
opening-number text places m e k f = f ∙ ap (λ (x : ℕ). outcome_number (opening full text (start_in text) x)) e ∙ ap outcome_number (served_opening text places)

-- ---- the lines by their blocks
module _ {text : List ℕ} {from lines words start : ℕ} {v s : List ℕ} (z : SizedBlocks text from lines words start v s) where
  abbrev S : Sheet
  S = sheet_in text

  abbrev count : ℕ
  count = (lines + 63) / 64

  abbrev placed : List ℕ
  placed = take count s

  pub lent : count ≡ length (take count s)
  lent = rw length-take (omega (arith, z.places))

  few : total (map half_of (sizes_of S.lines)) ≤ 45056
  few = omega (arith, total-most (line_count S) S.lines, z.counted, z.most)

  places_are : placed ≡ blocks_from text (line_count S) 0 from 0 S.lines
  places_are = z.blocks ∙ rw (z.counted, z.begin)

  block_at : (b : ℕ) → 64 * b < lines → BlockAt text (64 * b) (get_or placed b 0)
  block_at b h =
      let f = blocks_from_lem text (line_count S) from S.lines z.sized (omega (arith, few)) z.begin b (omega (arith, z.counted)) in
      rw places_are (record { lines = f.lines; words = omega (arith, f.words_are) })

  pub block_lines : BlockLines text from lines start placed
  block_lines =
      record {
        blocks = record { counted = z.counted; few = z.most; started = z.started; measured = z.measured; enough = omega (arith, lent); at = block_at };
        begin = z.begin;
        placed = rw z.begin (placed-lines text z.measured (omega (arith, z.most, z.counted)));
      }

  encoded-is : encoded_at (addresses S) (parsed_at text from) ≡ encoded S
  encoded-is = rw z.begin (encoded-lines text)

  -- the addresses of the blocks
  firsts_are : map (address_held start) placed ≡ firsts_from 0 (addresses S)
  firsts_are = rw (places_are, z.started) (blocks_addresses text (line_count S) from S.lines z.sized (omega (arith, few)) S.start z.measured.ends)

  module _ (p : Passed) (e : p ≡ passed_of (encoding (encoded_at (addresses S) (parsed_at text from))) 0) where
    pub range_refused : (p.number ≡ 0 → ⊥) → (s' : List ℕ) (r : Listed) → r ≡ listed_as (refused p.number p.line p.detail p.value) 0 0
        → s' ≡ replicate (length s) 0 → Translated sparse text v s v s' r
    range_refused = refused_range sparse text v s z.outcome (encoded_at (addresses S) (parsed_at text from)) encoded-is p e

    module _ (h : p.number ≡ 0) where
      pub in_order_lem : encoding (encoded_at (addresses S) (parsed_at text from)) ≡ in_order
      in_order_lem = passed_in_order (encoding (encoded_at (addresses S) (parsed_at text from))) (encoded_sound 1 (encoded_at (addresses S) (parsed_at text from))) 0 p e h

      pub words_fit : length (all_words (encoded_at (addresses S) (parsed_at text from))) ≤ length v
      words_fit = image-fits sparse text v s z.outcome (encoded_at (addresses S) (parsed_at text from)) encoded-is p e h

      pub laid_down : (v' s' : List ℕ) → v' ≡ over (all_words (encoded_at (addresses S) (parsed_at text from))) v → s' ≡ over (map (address_held start) placed) s
          → Translated sparse text v s v' s' (listed_as in_order lines words)
      laid_down v' s' f g =
          laid sparse text v s z.outcome (encoded_at (addresses S) (parsed_at text from)) encoded-is p e h v' s' lines words f (g ∙ ap (λ (x : List ℕ). over x s) firsts_are) z.counted z.needed

-- ---- the lines of a sheet whose opening is in order
module _ (text v s : List ℕ) (o : opening sparse text (start_in text) (length s) ≡ in_order) (n : ℕ) (en : n ≡ feeds text) where
  abbrev T : Sheet
  T = sheet_in text

  begun : Opened sparse text (length s)
  begun = opened sparse text (start_in text) (length s) o

  pub feeds_some : 1 ≤ n
  feeds_some = omega (arith, (outline text begun.sheet).least)

  counted : n - 1 ≡ line_count T
  counted = ap (λ (k : ℕ). k - 1) en ∙ sym (count_feeds text begun.sheet)

  few_lines : n - 1 ≤ 4096
  few_lines = omega (arith, counted, count_most text begun.sheet)

  room : (n - 1 + 63) / 64 ≤ length s
  room = rw counted begun.scratch

  module _ (from : ℕ) (ef : from ≡ length (start_line text) + 1) where
    begin : parsed_at text from ≡ T.lines
    begin = lines_from text from ef

    pub sizes_ready : (length text ≤ 65536) × (n - 1 ≡ length (parsed_at text from)) × (n - 1 ≤ 4096) × ((n - 1 + 63) / 64 ≤ length s)
    sizes_ready = ((outline text begun.sheet).bytes, counted ∙ ap length (sym begin), few_lines, room)

    module _ (t : StartAt) (et : t ≡ start_at (start_of (start_line text))) where
      started : t.address ≡ T.start
      started = start_is text t et

      module _ (p : Passed) (s₁ : List ℕ) (ep : p ≡ passed_of (sizing (parsed_at text from)) (total (map half_of (sizes_of (parsed_at text from)))))
          (es : s₁ ≡ over (blocks_from text (n - 1) 0 from 0 (parsed_at text from)) s) where
        abbrev blocks : List ℕ
        blocks = blocks_from text (n - 1) 0 from 0 (parsed_at text from)

        pass_is : p ≡ passed_of (sizing T.lines) (word_count T)
        pass_is = ep ∙ rw begin

        blocks_few : length blocks ≤ length s
        blocks_few = omega (arith, blocks_most text (n - 1) from (parsed_at text from), room, counted, ap length begin)

        kept : length s₁ ≡ length s
        kept = ap length es ∙ over_length blocks s blocks_few

        pub size-refused : (p.number ≡ 0 → ⊥) → (s' : List ℕ) (r : Listed) → r ≡ listed_as (refused p.number p.line p.detail p.value) 0 0
            → s' ≡ replicate (length s₁) 0 → Translated sparse text v s v s' r
        size-refused = refused-size sparse text v s o p pass_is s₁ kept

        module _ (h : p.number ≡ 0) where
          pub few_words : p.words ≤ 45056
          few_words = words_most sparse text v s o p pass_is s₁ kept h

          sizes_fine : sizing T.lines ≡ in_order
          sizes_fine = sizes_in_order sparse text v s o p pass_is s₁ kept h

          blocks_all : length blocks ≡ (n - 1 + 63) / 64
          blocks_all =
              let e = blocks_length text (line_count T) from T.lines sizes_fine in
              let b : blocks ≡ blocks_from text (line_count T) 0 from 0 T.lines = rw (counted, begin) in
              omega (arith, e, ap length b, counted)

          module _ (k : ℕ) (ek : k ≡ outcome_number (closing t.address p.words (length v))) where
            pub end_refused : (k ≡ 0 → ⊥) → (s' : List ℕ) (r : Listed) → r ≡ listed_as (refused k 0 0 (pos 0)) 0 0
                → s' ≡ replicate (length s₁) 0 → Translated sparse text v s v s' r
            end_refused = refused_end sparse text v s o p pass_is s₁ kept h t.address started k ek

            module _ (m : k ≡ 0) where
              pub ready : SizedBlocks text from (n - 1) p.words t.address v s₁
              ready =
                  record {
                    begin = begin;
                    most = few_lines;
                    counted = counted;
                    needed = needed sparse text v s o p pass_is s₁ kept h;
                    started = started;
                    places = omega (arith, kept, room);
                    blocks = rw es (over_take blocks s ((n - 1 + 63) / 64) blocks_all);
                    sized = sizes_fine;
                    measured = measured-lines sparse text v s o p pass_is s₁ kept h t.address started k ek m;
                    outcome = encoding_left sparse text v s o p pass_is s₁ kept h t.address started k ek m;
                  }

              pub done : (v' s' : List ℕ) (r : Listed) → Translated sparse text v s₁ v' s' r → Translated sparse text v s v' s' r
              done v' s' r d =
                  from-over text v s v' s' r blocks (omega (arith, blocks_all, held_places sparse-filled text, counted)) blocks_few (rw es at d)
