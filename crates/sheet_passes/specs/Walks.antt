-- The passes' walks over the lines of a text, a line at a time.
use Rattle.std.specs.Prelude.{◌≡◌, ℕ, suc, ◌+◌, ◌-◌, ◌*◌, ◌/◌, ◌<◌, ◌≤◌, true, List, [], ◌∷◌, ◌++◌, map, length, take, drop, slice_index, slice_index_or, slice_range, refl}
use Rattle.std.proofs.Common.{sym, ap, ◌∙◌, append_assoc, append-nil, arith, add-one, add-zero, length-append, drop_of_length-le, drop-cons, eq-eqb}
use borrow.Rule.Slice.PartMut.{put_mid}
use Rattle.isa.specs.declared.Measured.{Measured}
use Rattle.isa.specs.declared.Encoded.{Encoded}
use Rattle.base_facts.specs.Tests.{Lt, less, past, lt?}
use Rattle.base_text.specs.Parts.{part_end}
use Rattle.base_text.specs.LinesLaws.{lines_next}
use Rattle.sheet_spec.specs.Line.{Parsed, no, line_of}
use Rattle.sheet_labels.specs.Labels.{listed, labelled_in}
use Rattle.sheet_line.specs.declared.LineMade.{LineMade}
use Rattle.sheet_line.specs.LineMade.{line_made}
use Rattle.sheet_spec.specs.Made.{resolves_in, built_as, judged, made, of_lines}
use Rattle.sheet_spec.specs.Sheet.{sized_of, sizes_of, half_of, total, encoded_line, encoded_from, encoded_words, all_words}
use Rattle.sheet_spec.specs.Translate.{in_order, and_then, in_turn, size_outcome, over}
use Rattle.sheet_facts.specs.Listing.{over_more}
use Rattle.sheet_passes.specs.Passes.{parsed_at, line_encoded, Placed, encoded_at}
use Rattle.sheet_passes.specs.SettleLaws.{built_zero}
use Rattle.sheet_passes.specs.PassLaws.{counted_most, as_most, as_words, line_is}

-- the line from `next` to e
abbrev pub line_to : List ℕ → ℕ → ℕ → List ℕ
line_to text next e = slice_range text next e

pub lines_end : (text : List ℕ) (next : ℕ) → length text ≤ next → parsed_at text next ≡ []
lines_end text next h = rw (drop_of_length-le text {i = next} h)

pub lines-inside : (text : List ℕ) (next : ℕ) → 0 < length (parsed_at text next) → next < length text
lines-inside text next h = go (lt? next (length text))
  where
    go : Lt next (length text) → next < length text
    go (less g f) = g
    go (past g f) = absurd (omega (arith, ap length (lines_end text next g)))

pub parsed_next : (text : List ℕ) (next e : ℕ) → next < length text → e ≡ part_end 10 text next → parsed_at text next ≡ line_of (line_to text next e) ∷ parsed_at text (e + 1)
parsed_next text next e h g = ap (λ (ls : List (List ℕ)). map line_of ls) (lines_next text next e h g)

-- ---- one line, by what it makes with labels made 0
module _ (n : ℕ) (line : List ℕ) {m : LineMade} (e : m ≡ line_made n [] (line_of line)) where
  pub made_built : m.built ≡ built_as (of_lines n (λ k. 0)) (line_of line)
  unfolding line_made
  made_built = rw e (built_zero n (line_of line))

  pub made_labelled : m.labelled ≡ labelled_in (line_of line)
  unfolding line_made
  made_labelled = rw e

  pub made-resolves : m.resolves ≡ resolves_in (of_lines n (λ k. 0)) (line_of line)
  unfolding line_made
  made-resolves = rw e

  pub made-is : judged m.built m.resolves ≡ made (of_lines n (λ k. 0)) (line_of line)
  unfolding made
  made-is = λ i. judged (made_built i) (made-resolves i)

-- ---- the lines measured: from `next` on it goes as it went from `from` on, after k lines and so many words
module _ (text : List ℕ) (from n : ℕ) where
  abbrev pub sizes_at : ℕ → List Measured
  sizes_at next = map (sized_of n) (parsed_at text next)

  pub record Sizing (next k words : ℕ) : Type 0 where
    pub left : n ≡ k + length (parsed_at text next)
    pub few : words ≤ 11 * k
    pub verdict : in_turn size_outcome 1 (sizes_at from) ≡ in_turn size_outcome (suc k) (sizes_at next)
    pub counts : total (map half_of (sizes_at from)) ≡ words + total (map half_of (sizes_at next))

  pub sizing_begin : n ≡ length (parsed_at text from) → Sizing from 0 0
  sizing_begin e = record { left = omega arith; few = omega arith; verdict = refl; counts = omega arith }

  pub all_sizes : n ≡ length (parsed_at text from) → sizes_of (parsed_at text from) ≡ sizes_at from
  all_sizes e = ap (λ (k : ℕ). map (sized_of k) (parsed_at text from)) (sym e)

  module _ {next k words : ℕ} (s : Sizing next k words) where
    pub sizing_end : length text ≤ next → (in_turn size_outcome 1 (sizes_at from) ≡ in_order) × (total (map half_of (sizes_at from)) ≡ words)
    sizing_end h = let l = lines_end text next h in (s.verdict ∙ rw l, s.counts ∙ rw (l, add-zero))

    module _ (e : ℕ) (m : Measured) (h : next < length text) (g : e ≡ part_end 10 text next) (is : m ≡ sized_of n (line_of (line_to text next e))) where
      pub sizes_here : sizes_at next ≡ m ∷ sizes_at (e + 1)
      sizes_here = rw (parsed_next text next e h g, is)

      pub sizing-room : k < n
      sizing-room = omega (arith, s.left, ap (λ (ls : List Parsed). length ls) (parsed_next text next e h g))

      pub sizing_few : half_of m ≤ 11
      sizing_few = rw is (counted_most n (line_of (line_to text next e)))

      pub sizing_here : in_turn size_outcome 1 (sizes_at from) ≡ and_then (size_outcome (suc k) m) (in_turn size_outcome (suc (suc k)) (sizes_at (e + 1)))
      sizing_here = s.verdict ∙ ap (in_turn size_outcome (suc k)) sizes_here

      pub sizing_next : m.number ≡ 0 → Sizing (e + 1) (k + 1) (words + m.size / 2)
      sizing_next z =
          let onward : suc (suc k) ≡ suc (k + 1) = omega arith in
          record {
            left = omega (arith, s.left, ap (λ (ls : List Parsed). length ls) (parsed_next text next e h g));
            few = omega (arith, s.few, sizing_few);
            verdict = sizing_here ∙ rw (eq-eqb m.number 0 z, onward);
            counts = omega (arith, s.counts, ap (λ (ms : List Measured). total (map half_of ms)) sizes_here);
          }

-- ---- the lines at their addresses: those from place k on are of the lines that are left
module _ (text : List ℕ) (from : ℕ) (addresses : List ℕ) where
  abbrev pub encoded_left : ℕ → ℕ → List Encoded
  encoded_left next k = encoded_from (listed addresses) (drop k addresses) (parsed_at text next)

  pub record Going (next k : ℕ) : Type 0 where
    pub left : length addresses ≡ k + length (parsed_at text next)
    pub named : (j : ℕ) → j < length (parsed_at text next) → resolves_in (listed addresses) (slice_index_or (parsed_at text next) j no) ≡ true

  pub going : Placed addresses (parsed_at text from) → Going from 0
  going p = record { left = omega (arith, p.lines); named = p.named }

  module _ {next k : ℕ} (s : Going next k) (e : ℕ) (h : next < length text) (g : e ≡ part_end 10 text next) where
    pub lines_here : parsed_at text next ≡ line_of (line_to text next e) ∷ parsed_at text (e + 1)
    lines_here = parsed_next text next e h g

    pub place_inside : k < length addresses
    place_inside = omega (arith, s.left, ap (λ (ls : List Parsed). length ls) lines_here)

    pub going_next : Going (e + 1) (k + 1)
    going_next =
        record {
          left = omega (arith, s.left, ap (λ (ls : List Parsed). length ls) lines_here);
          named = λ j q. (rw lines_here at s.named) (suc j) (omega arith);
        }

    module _ (r : Encoded) (is : r ≡ line_encoded addresses (line_of (line_to text next e)) (slice_index addresses k)) where
      name_here : resolves_in (listed addresses) (line_of (line_to text next e)) ≡ true
      name_here = (rw lines_here at s.named) 0 (omega arith)

      pub encoded_here : r ≡ encoded_line (slice_index addresses k) (made (listed addresses) (line_of (line_to text next e)))
      encoded_here = is ∙ line_is addresses (line_of (line_to text next e)) (slice_index addresses k) name_here

      pub left_here : encoded_left next k ≡ r ∷ encoded_left (e + 1) (k + 1)
      left_here =
          let places : drop k addresses ≡ slice_index addresses k ∷ drop (k + 1) addresses = rw add-one (drop-cons addresses k 0 place_inside) in
          rw (lines_here, places, encoded_here)

  pub nothing_left : (next k : ℕ) → length text ≤ next → encoded_left next k ≡ []
  nothing_left next k h = rw (lines_end text next h) (none (drop k addresses))
    where
      none : (places : List ℕ) → encoded_from (listed addresses) places [] ≡ []
      none [] = refl
      none (a ∷ later) = refl

  -- ---- write
  abbrev words : List ℕ
  words = all_words (encoded_at addresses (parsed_at text from))

  module _ (lent : List ℕ) where
    pub record Writing (next k at : ℕ) (image : List ℕ) : Type 0 where
      pub go : Going next k
      pub written : List ℕ
      pub all : words ≡ written ++ all_words (encoded_left next k)
      pub places : at ≡ length written
      pub image-is : image ≡ over written lent

    pub writing : Placed addresses (parsed_at text from) → Writing from 0 0 lent
    writing p = record { go = going p; written = []; all = refl; places = refl; image-is = refl }

    module _ {next k at : ℕ} {image : List ℕ} (s : Writing next k at image) where
      pub writing_end : length text ≤ next → (at ≡ length words) × (image ≡ over words lent)
      writing_end h =
          let done : words ≡ s.written = s.all ∙ rw (nothing_left next k h, append-nil) in
          (rw done s.places, rw done s.image-is)

      module _ (e : ℕ) (h : next < length text) (g : e ≡ part_end 10 text next) (r : Encoded) (is : r ≡ line_encoded addresses (line_of (line_to text next e)) (slice_index addresses k)) where
        writing_count : length (encoded_words r) ≡ r.count
        writing_count = rw (encoded_here s.go e h g r is) (as_words (made (listed addresses) (line_of (line_to text next e))) (slice_index addresses k))

        pub writing_most : r.count ≤ 11
        writing_most = rw (encoded_here s.go e h g r is) (as_most (made (listed addresses) (line_of (line_to text next e))) (slice_index addresses k))

        all_here : words ≡ (s.written ++ encoded_words r) ++ all_words (encoded_left (e + 1) (k + 1))
        all_here = s.all ∙ rw (left_here s.go e h g r is, append_assoc)

        pub writing_room : length words ≤ length lent → at + r.count ≤ length lent
        writing_room m =
            omega (
              arith,
              m,
              s.places,
              writing_count,
              length-append s.written (encoded_words r),
              ap (λ (x : List ℕ). length x) all_here,
              length-append (s.written ++ encoded_words r) (all_words (encoded_left (e + 1) (k + 1))),
            )

        pub writing_next : length words ≤ length lent → (last : List ℕ) → last ≡ over (encoded_words r) (take (length image - at) (drop at image))
            → Writing (e + 1) (k + 1) (at + r.count) (put_mid at (length image - at) image last)
        writing_next m last f =
            record {
              go = going_next s.go e h g;
              written = s.written ++ encoded_words r;
              all = all_here;
              places = omega (arith, s.places, writing_count, length-append s.written (encoded_words r));
              image-is = rw s.image-is (over_more s.written (encoded_words r) lent last at s.places (omega (arith, writing_room m, writing_count)) (rw s.image-is at f));
            }
