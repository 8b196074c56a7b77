-- Laws of the passes' loops, a line at a time.
use Rattle.std.proofs.Common.{◌≡◌, ℕ, suc, ◌+◌, ◌-◌, ◌*◌, ◌/◌, ◌%◌, ◌^◌, ◌<◌, ◌≤◌, Bool, true, false, cond, eqb, List, [], ◌∷◌, ◌++◌, map, length, get_or, take, drop, set, sym, refl, ap, ◌∙◌, append-nil, add-one, arith, length-append, length-set, length-take-le, drop-cons, take-suc, eq-eqb, ne_eqb, eqb-true}
use lib.ListN.{length-map}
use lib.Seq.{append_snoc, get_or_at}
use borrow.Rule.Slice.PartMut.{put_mid}
use borrow.Author.Tests.{eqb-false}
use Rattle.isa.specs.declared.Encoded.{Encoded}
use Rattle.isa.specs.declared.Measured.{Measured}
use Rattle.base_facts.specs.Lists.{map_more}
use Rattle.base_text.specs.Parts.{part_end}
use Rattle.sheet_spec.specs.Line.{Parsed, no, line_of}
use Rattle.sheet_spec.specs.Made.{made, judged, built_as, of_lines}
use Rattle.sheet_spec.specs.Sheet.{sized_as, sized_of, sizes_of, half_of, total, Sheet, sheet_in, line_count, counts, line_at, count_of_line, addresses, address_of_line, resolved, encoded_line, encoded_words, all_words}
use Rattle.sheet_spec.specs.Translate.{in_order, refused, and_then, in_turn, encode_outcome, sizing, encoding, over, firsts_from}
use Rattle.sheet_facts.specs.Lines.{line_grammar}
use Rattle.sheet_size_facts.specs.Image.{total_suc, total_take}
use Rattle.sheet_size_facts.specs.Outcomes.{counts_length, count_half, places_length}
use Rattle.sheet_size_facts.specs.Bounds.{address_is, address_low}
use Rattle.sheet_size_facts.specs.Counted.{line_count_lem}
use Rattle.sheet_facts.specs.Listing.{over_set, both_in_order, in_order_zero}
use Rattle.numeric_spec.specs.declared.Built.{Built}
use Rattle.numeric_places.specs.Places.{built_from}
use Rattle.numeric_fields.specs.Number.{numbers_in}
use Rattle.sheet_labels.specs.Labels as labels
use Rattle.sheet_labels.specs.Labels.{listed, aimed}
use Rattle.sheet_line.specs.declared.LineRead.{LineRead}
use Rattle.sheet_line.specs.LineRead.{FieldsRead}
use Rattle.sheet_line.specs.Aimed.{aimed_built}
use Rattle.sheet_line.specs.declared.LineMade.{LineMade}
use Rattle.sheet_line.specs.LineMade.{line_made}
use Rattle.sheet_passes.specs.declared.Passed.{Passed}
use Rattle.sheet_passes.specs.Passes.{parsed_at, passed_of, line_encoded, encoded_at}
use Rattle.sheet_passes.specs.PassLaws.{counted_most, total-most}
use Rattle.sheet_passes.specs.Walks as walks
use Rattle.sheet_passes.specs.Walks.{line_to, lines_end, lines-inside, parsed_next, made-is, Sizing, sizing_begin, all_sizes, sizing_end, sizing-room, sizing_here, sizing_next, encoded_left, Going, going, place_inside, going_next, encoded_here, left_here, nothing_left, Writing, writing_end, writing_most, writing_room, writing_next}
use Rattle.sheet_blocks.specs.Blocks.{block_place, line_places, blocks_from, BlockLines}

-- ---- a line measured
pub measured_line : (n : ℕ) (line : List ℕ) {m : LineMade} → m ≡ line_made n [] (line_of line) → sized_as (judged m.built m.resolves) ≡ sized_of n (line_of line)
unfolding sized_of
measured_line n line e = ap sized_as (made-is n line e)

pub kept : (k next words : ℕ) (places places' : List ℕ) (m : ℕ) → places' ≡ cond (eqb (k % 64) 0) (set places (k / 64) (block_place next words)) places → length places ≡ m
    → length places' ≡ m
kept k next words places places' m e h = ap length e ∙ go (eqb (k % 64) 0)
  where
    go : (t : Bool) → length (cond t (set places (k / 64) (block_place next words)) places) ≡ m
    go true = rw length-set h
    go false = h

-- ---- sizes: the lines measured, and the blocks put into the places
module _ (text : List ℕ) (from n : ℕ) (lent : List ℕ) where
  abbrev blocks : List ℕ
  blocks = blocks_from text n 0 from 0 (parsed_at text from)

  pub record Blocking (next k words : ℕ) (places : List ℕ) : Type 0 where
    pub go : Sizing text from n next k words
    pub written : List ℕ
    pub filled : blocks ≡ written ++ blocks_from text n k next words (parsed_at text next)
    pub held : length written ≡ (k + 63) / 64
    pub places_are : places ≡ over written lent

  pub blocking : n ≡ length (parsed_at text from) → Blocking from 0 0 lent
  blocking e = record { go = sizing_begin text from n e; written = []; filled = refl; held = refl; places_are = refl }

  abbrev pub Blocked : Passed → List ℕ → Type 0
  Blocked r places = (r ≡ passed_of (sizing (parsed_at text from)) (total (map half_of (sizes_of (parsed_at text from))))) × (places ≡ over blocks lent)

  module _ {next k words : ℕ} {places : List ℕ} (s : Blocking next k words places) where
    pub blocking_end : n ≡ length (parsed_at text from) → length text ≤ next → (r : Passed) → r ≡ passed_of in_order words → Blocked r places
    blocking_end q h r is =
        let z = sizing_end text from n s.go h in
        (rw (all_sizes text from n q, z.0, z.1) is, rw (s.places_are, s.filled, lines_end text next h, append-nil))

    module _ (e : ℕ) (m : Measured) (h : next < length text) (g : e ≡ part_end 10 text next) (is : m ≡ sized_of n (line_of (line_to text next e))) where
      pub blocking_inside : k < n
      blocking_inside = sizing-room text from n s.go e m h g is

      pub blocking_room : (n + 63) / 64 ≤ length lent → k / 64 < length lent
      blocking_room r = omega (arith, blocking_inside)

      abbrev later : List ℕ
      later = line_places text n (e + 1) (words + half_of m) (parsed_at text (e + 1))

      filled_here : blocks ≡ s.written ++ firsts_from k (cond (eqb m.number 0) (block_place next words ∷ later) [])
      filled_here = s.filled ∙ rw (parsed_next text next e h g, is, g)

      pub blocking_stop : n ≡ length (parsed_at text from) → (m.number ≡ 0 → ⊥) → (r : Passed) → r ≡ passed_of (refused m.number (k + 1) m.detail m.value) 0 → Blocked r places
      blocking_stop q z r eq = (
        rw (all_sizes text from n q, sizing_here text from n s.go e m h g is, ne_eqb m.number 0 z, eq, add-one),
        rw (s.places_are, filled_here, ne_eqb m.number 0 z, append-nil),
      )

      pub blocking_next : m.number ≡ 0 → (n + 63) / 64 ≤ length lent → (places' : List ℕ)
          → places' ≡ cond (eqb (k % 64) 0) (set places (k / 64) (block_place next words)) places → Blocking (e + 1) (k + 1) (words + m.size / 2) places'
      blocking_next z room places' eq = go (eqb (k % 64) 0) refl
        where
          one : suc k ≡ k + 1
          one = omega arith

          filled_on : (t : Bool) → eqb (k % 64) 0 ≡ t
              → blocks ≡ s.written ++ cond t (block_place next words ∷ blocks_from text n (k + 1) (e + 1) (words + m.size / 2) (parsed_at text (e + 1))) (blocks_from text n (k + 1) (e + 1) (words + m.size / 2) (parsed_at text (e + 1)))
          filled_on t f = filled_here ∙ rw (eq-eqb m.number 0 z, f, one)

          go : (t : Bool) → eqb (k % 64) 0 ≡ t → Blocking (e + 1) (k + 1) (words + m.size / 2) places'
          go true f =
              let d = eqb-true (k % 64) 0 f in
              record {
                go = sizing_next text from n s.go e m h g is z;
                written = s.written ++ (block_place next words ∷ []);
                filled = filled_on true f ∙ sym (append_snoc s.written (block_place next words) (blocks_from text n (k + 1) (e + 1) (words + m.size / 2) (parsed_at text (e + 1))));
                held = omega (arith, d, s.held, length-append s.written (block_place next words ∷ []));
                places_are = eq ∙ rw (f, s.places_are) (over_set s.written lent (k / 64) (block_place next words) (omega (arith, d, s.held)) (blocking_room room));
              }
          go false f =
              let d = eqb-false (k % 64) 0 f in
              record {
                go = sizing_next text from n s.go e m h g is z;
                written = s.written;
                filled = filled_on false f;
                held = omega (arith, d, s.held);
                places_are = eq ∙ rw f s.places_are;
              }

-- ---- the words of so many lines
take_none : (l : List ℕ) → total (take 0 l) ≡ 0
take_none [] = refl
take_none (x ∷ l) = refl

module _ (text : List ℕ) (from count n : ℕ) where
  abbrev counts_at : ℕ → List ℕ
  counts_at next = map half_of (map (sized_of n) (parsed_at text next))

  pub record Summing (next left words : ℕ) : Type 0 where
    pub there : left ≤ length (parsed_at text next)
    pub few : words + 11 * left ≤ 11 * count
    pub sum : total (take count (counts_at from)) ≡ words + total (take left (counts_at next))

  pub summing : count ≤ length (parsed_at text from) → Summing from count 0
  summing h = record { there = h; few = omega arith; sum = omega arith }

  module _ {next left words : ℕ} (s : Summing next left words) where
    pub summing_end : left ≡ 0 → words ≡ total (take count (counts_at from))
    summing_end e = let q : left ≡ 0 = e in omega (arith, s.sum, ap (λ (k : ℕ). total (take k (counts_at next))) q, take_none (counts_at next))

    pub summing_inside : 0 < left → next < length text
    summing_inside h = lines-inside text next (omega (arith, s.there))

    pub summing_next : (e : ℕ) (m : Measured) → e ≡ part_end 10 text next → m ≡ sized_of n (line_of (line_to text next e)) → 0 < left
        → (half_of m ≤ 11) × Summing (e + 1) (left - 1) (words + m.size / 2)
    summing_next e m g is h =
        let lines = parsed_next text next e (summing_inside h) g in
        let most : half_of m ≤ 11 = rw is (counted_most n (line_of (line_to text next e))) in
        let here : counts_at next ≡ half_of m ∷ counts_at (e + 1) = rw (lines, is) in
        let one : left ≡ suc (left - 1) = omega arith in
        let part : total (take left (counts_at next)) ≡ half_of m + total (take (left - 1) (counts_at (e + 1))) = ap (λ (k : ℕ). total (take k (counts_at next))) one ∙ rw here in (
          most,
          record {
            there = omega (arith, s.there, ap (λ (l : List Parsed). length l) lines);
            few = omega (arith, s.few, most);
            sum = omega (arith, s.sum, part);
          },
        )

-- ---- a line with its labels made addresses
pub built_from_lem : (n : ℕ) (line : List ℕ) {r : LineRead} {negative : List Bool} {magnitude : List ℕ} {label : List Bool} → FieldsRead n (line_of line) r negative magnitude label
    → (A : List ℕ) → length A ≤ 4096 → (m : List ℕ) → m ≡ aimed (labels.address_in A) label magnitude → r.ok ≡ true
    → built_from (numbers_in r.count negative m) 0 ≡ built_as (listed A) (line_of line)
built_from_lem n line {r} {negative} F A few m e ok = ap (λ (x : List ℕ). built_from (numbers_in r.count negative x) 0) e ∙ aimed_built n line F A few ok

pub line_encoded_lem : (A : List ℕ) (p : Parsed) (a : ℕ) (b : Built) → b ≡ built_as (listed A) p → encoded_line a (judged b true) ≡ line_encoded A p a
unfolding line_encoded
line_encoded_lem A p a b e = ap (λ (x : Built). encoded_line a (judged x true)) e

-- ---- the lines at their addresses, line k + 1 at `next` with so many words before it
module _ (text : List ℕ) (from : ℕ) where
  abbrev S : Sheet
  S = sheet_in text

  abbrev A : List ℕ
  A = addresses S

  pub record At (next k words : ℕ) : Type 0 where
    pub go : Going text from A next k
    pub here : parsed_at text next ≡ drop k S.lines
    pub counted : words ≡ total (take k (counts S))

  pub record Ranging (next k words : ℕ) : Type 0 where
    pub at : At next k words
    pub verdict : encoding (encoded_at A (parsed_at text from)) ≡ in_turn encode_outcome (suc k) (encoded_left text from A next k)

  pub record Writes (lent : List ℕ) (next at : ℕ) (image : List ℕ) : Type 0 where
    pub k : ℕ
    pub there : At next k at
    pub left : in_turn encode_outcome (suc k) (encoded_left text from A next k) ≡ in_order
    pub writing : Writing text from A lent next k at image

  module _ {lines start : ℕ} {places : List ℕ} (z : BlockLines text from lines start places) where
    at_start : At from 0 0
    at_start = record { go = going text from A z.placed; here = z.begin; counted = sym (take_none (counts S)) }

    pub few_words : {next k words : ℕ} → At next k words → words ≤ 45056
    few_words {next} {k} {words} s = omega (arith, s.counted, total_take (counts S) k, total-most (line_count S) S.lines, z.blocks.counted, z.blocks.few)

    module _ {next k words : ℕ} (s : At next k words) (e : ℕ) (h : next < length text) (g : e ≡ part_end 10 text next) where
      pub line_inside : k < line_count S
      line_inside = omega (arith, place_inside text from A s.go e h g, places_length S)

      lines_there : drop k S.lines ≡ line_of (line_to text next e) ∷ parsed_at text (e + 1)
      lines_there = sym s.here ∙ parsed_next text next e h g

      line_there : line_at S (suc k) ≡ line_of (line_to text next e)
      line_there = ap (λ (l : List Parsed). get_or l 0 no) (sym (drop-cons S.lines k no line_inside) ∙ lines_there)

      rest_there : drop (suc k) S.lines ≡ parsed_at text (e + 1)
      rest_there = ap (λ (l : List Parsed). drop 1 l) (sym (drop-cons S.lines k no line_inside) ∙ lines_there)

      address_there : address_of_line S (suc k) ≡ start + 2 * words
      address_there = omega (arith, address_is S (suc k) (omega arith) line_inside, z.blocks.started, s.counted)

      module _ (a : ℕ) (put : a ≡ (start + 2 * words) % 2 ^ 32) where
        address_here : a ≡ get_or A k 0
        address_here = omega (arith, put, address_there, address_low S (line_grammar text) z.blocks.measured (suc k) (omega arith) line_inside)

        module _ (r : Encoded) (is : r ≡ line_encoded A (line_of (line_to text next e)) a) where
          pub is_here : r ≡ line_encoded A (line_of (line_to text next e)) (get_or A k 0)
          is_here = is ∙ ap (line_encoded A (line_of (line_to text next e))) address_here

          is_line : r ≡ encoded_line (address_of_line S (suc k)) (made (resolved S) (line_at S (suc k)))
          is_line =
              encoded_here text from A s.go e h g r is_here
              ∙ rw (line_there, ap (λ (n : ℕ). of_lines n (address_of_line S)) (places_length S))

          pub at_next : r.number ≡ 0 → (r.count ≤ 11) × At (e + 1) (k + 1) (words + r.count)
          at_next q =
              let one : suc k ≡ k + 1 = omega arith in
              let c : r.count ≡ count_of_line S (suc k) = ap (λ (x : Encoded). x.count) is_line ∙ line_count_lem S (line_grammar text) z.blocks.measured (suc k) (omega arith) line_inside (sym (ap (λ (x : Encoded). x.number) is_line) ∙ q) in (
                omega (arith, c, count_half S (suc k) (omega arith) line_inside, counted_most (line_count S) (line_at S (suc k))),
                record {
                  go = going_next text from A s.go e h g;
                  here = sym rest_there ∙ ap (λ (n : ℕ). drop n S.lines) one;
                  counted = rw add-one (omega (arith, c, s.counted, total_suc (counts S) k (omega (arith, counts_length S, line_inside))));
                },
              )

    -- ---- ranges
    pub ranging : Ranging from 0 0
    ranging = record { at = at_start; verdict = refl }

    module _ {next k words : ℕ} (s : Ranging next k words) where
      pub ranging_end : length text ≤ next → (r : Passed) → r ≡ passed_of in_order 0 → r ≡ passed_of (encoding (encoded_at A (parsed_at text from))) 0
      ranging_end h r is = is ∙ rw (s.verdict, nothing_left text from A next k h)

      module _ (e : ℕ) (h : next < length text) (g : e ≡ part_end 10 text next) (a : ℕ) (put : a ≡ (start + 2 * words) % 2 ^ 32)
          (r : Encoded) (is : r ≡ line_encoded A (line_of (line_to text next e)) a) where
        ranging_here : encoding (encoded_at A (parsed_at text from)) ≡ and_then (encode_outcome (suc k) r) (in_turn encode_outcome (suc (suc k)) (encoded_left text from A (e + 1) (k + 1)))
        ranging_here = s.verdict ∙ ap (in_turn encode_outcome (suc k)) (left_here text from A s.at.go e h g r (is_here s.at e h g a put r is))

        pub ranging_stop : (r.number ≡ 0 → ⊥) → (p : Passed) → p ≡ passed_of (refused r.number (k + 1) r.detail r.value) 0
            → p ≡ passed_of (encoding (encoded_at A (parsed_at text from))) 0
        ranging_stop q p eq = eq ∙ rw (ranging_here, ne_eqb r.number 0 q, add-one)

        pub ranging_next : r.number ≡ 0 → (r.count ≤ 11) × Ranging (e + 1) (k + 1) (words + r.count)
        ranging_next q =
            let onward : suc (suc k) ≡ suc (k + 1) = omega arith in
            let n = at_next s.at e h g a put r is q in
            (n.0, record { at = n.1; verdict = ranging_here ∙ rw (eq-eqb r.number 0 q, onward) })

    -- ---- write
    module _ (lent : List ℕ) where
      abbrev words : List ℕ
      words = all_words (encoded_at A (parsed_at text from))

      pub writes : encoding (encoded_at A (parsed_at text from)) ≡ in_order → Writes lent from 0 lent
      writes o = record { k = 0; there = at_start; left = o; writing = walks.writing text from A lent z.placed }

      module _ {next at : ℕ} {image : List ℕ} (s : Writes lent next at image) where
        pub writes_end : length text ≤ next → (at ≡ length words) × (image ≡ over words lent)
        writes_end h = writing_end text from A lent s.writing h

        module _ (e : ℕ) (h : next < length text) (g : e ≡ part_end 10 text next) (a : ℕ) (put : a ≡ (start + 2 * at) % 2 ^ 32)
            (r : Encoded) (is : r ≡ line_encoded A (line_of (line_to text next e)) a) where
          is-placed : r ≡ line_encoded A (line_of (line_to text next e)) (get_or A s.k 0)
          is-placed = is_here s.there e h g a put r is

          pub writes-most : r.count ≤ 11
          writes-most = writing_most text from A lent s.writing e h g r is-placed

          pub writes-room : length words ≤ length lent → at + r.count ≤ length lent
          writes-room = writing_room text from A lent s.writing e h g r is-placed

          pub writes_next : length words ≤ length lent → (last : List ℕ) → last ≡ over (encoded_words r) (take (length image - at) (drop at image))
              → Writes lent (e + 1) (at + r.count) (put_mid at (length image - at) image last)
          writes_next m last f =
              let left = sym (ap (in_turn encode_outcome (suc s.k)) (left_here text from A s.there.go e h g r is-placed)) ∙ s.left in
              let o = both_in_order (encode_outcome (suc s.k) r) (in_turn encode_outcome (suc (suc s.k)) (encoded_left text from A (e + 1) (s.k + 1))) left in
              let q = in_order_zero (suc s.k) r.number r.detail r.value o.0 in
              let onward : suc (suc s.k) ≡ suc (s.k + 1) = omega arith in
              record {
                k = s.k + 1;
                there = (at_next s.there e h g a put r is q).1;
                left = rw onward at o.1;
                writing = writing_next text from A lent s.writing e h g r is-placed m last f;
              }

-- ---- addresses put into places
pub addressing_none : (f : ℕ → ℕ) (lent : List ℕ) → lent ≡ over (map f (take 0 lent)) lent
addressing_none f [] = refl
addressing_none f (x ∷ lent) = refl

pub addressing : (f : ℕ → ℕ) (lent : List ℕ) (i : ℕ) → i < length lent
    → set (over (map f (take i lent)) lent) i (f (get_or (over (map f (take i lent)) lent) i 0)) ≡ over (map f (take (i + 1) lent)) lent
addressing f lent i h =
    let n : length (map f (take i lent)) ≡ i = length-map (take i lent) f ∙ length-take-le i lent (omega arith) in
    let v : get_or (over (map f (take i lent)) lent) i 0 ≡ get_or lent i 0 = rw (n, drop-cons lent i 0 h) (get_or_at (map f (take i lent)) (get_or lent i 0) (drop (suc i) lent) 0 i n) in
    rw (v, over_set (map f (take i lent)) lent i (f (get_or lent i 0)) n h, add-one, take-suc lent i 0 h, map_more f (take i lent) (get_or lent i 0))
