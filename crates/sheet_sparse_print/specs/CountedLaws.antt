-- Lines printed by the words that each counts, a line at a time. Assumes nothing.
use Rattle.std.specs.Prelude.{ℕ, suc, ◌+◌, ◌*◌, ◌-◌, ◌/◌, ◌^◌, ◌≤◌, ◌<◌, ◌≡◌, refl, List, [], ◌∷◌, ◌++◌, map, length, take, drop}
use Rattle.std.proofs.Common.{sym, ap, ◌∙◌, append_assoc, append-nil, arith, add-one, length-drop, drop-drop}
use Rattle.isa.specs.declared.Measured.{Measured}
use Rattle.base_text.specs.Parts.{part_end}
use Rattle.base_text.specs.Wrote.{Wrote}
use Rattle.base_text.specs.WroteLaws.{wrote_none, wrote_then}
use Rattle.sheet_spec.specs.Line.{line_of}
use Rattle.sheet_spec.specs.Sheet.{sized_of, half_of, total, addresses_from, addresses}
use Rattle.sheet_spec.specs.Translate.{in_order, in_turn, size_outcome}
use Rattle.sheet_facts.specs.Listing.{both_in_order, in_order_zero}
use Rattle.sheet_passes.specs.PassLaws.{sized_least}
use Rattle.sheet_passes.specs.Walks.{line_to, lines_end, sizes_at, Sizing, sizing_begin, all_sizes, sizes_here, sizing-room, sizing_few, sizing_here, sizing_next}
use Rattle.print_spec.specs.Printed.{line_text}
use Rattle.sheet_print.specs.Listing.{first_count, lines_text}
use Rattle.sheet_sparse_print.specs.Counted.{sheet_from, Counted}

-- ---- the first line, where the words are those of all lines
first_words : (a c : ℕ) (cs words : List ℕ) → length words ≡ c + total cs → first_count (a ∷ addresses_from (a + 2 * c) cs) (length words) ≡ c
first_words a c [] words h = omega (arith, h)
first_words a c (d ∷ ds) words h = omega arith

pub lines_first : (k a c : ℕ) (cs words : List ℕ) → length words ≡ c + total cs
    → lines_text k (addresses_from a (c ∷ cs)) words ≡ line_text k a (take c words) ++ lines_text (suc k) (addresses_from (a + 2 * c) cs) (drop c words)
lines_first k a c cs words h =
    ap (λ (n : ℕ). line_text k a (take n words) ++ lines_text (suc k) (addresses_from (a + 2 * c) cs) (drop n words)) (first_words a c cs words h)

-- ---- a walk over the lines: k of them are printed, which takes the words before `begin` and the places before `at`
module _ (text : List ℕ) (from n start : ℕ) (words buf : List ℕ) where
  abbrev counts_at : ℕ → List ℕ
  counts_at next = map half_of (sizes_at text from n next)

  pub record Printing (next k begin at : ℕ) (out : List ℕ) : Type 0 where
    pub go : Sizing text from n next k begin
    pub few : at ≤ 69 * k
    pub kept : length out ≡ length buf
    pub written : List ℕ
    pub wrote : Wrote buf 0 written out at
    pub left : lines_text 1 (addresses_from start (counts_at from)) words
        ≡ written ++ lines_text (k + 1) (addresses_from (start + 2 * begin) (counts_at next)) (drop begin words)

  module _ (q : Counted (sheet_from start text from) n words) where
    all-counts : length words ≡ total (counts_at from)
    all-counts = q.counted ∙ ap (λ (ms : List Measured). total (map half_of ms)) (all_sizes text from n q.all)

    all_sized : in_turn size_outcome 1 (sizes_at text from n from) ≡ in_order
    all_sized = sym (ap (in_turn size_outcome 1) (all_sizes text from n q.all)) ∙ q.sized

    all_end : start + 2 * length words ≤ 2 ^ 32
    all_end = omega (arith, q.ends, q.counted)

    pub printing_begin : Printing from 0 0 0 buf
    printing_begin =
        let here : start ≡ start + 2 * 0 = omega arith in
        record {
          go = sizing_begin text from n q.all;
          few = omega arith;
          kept = refl;
          written = [];
          wrote = wrote_none buf 0;
          left = ap (λ (a : ℕ). lines_text 1 (addresses_from a (counts_at from)) words) here;
        }

    module _ {next k begin at : ℕ} {out : List ℕ} (s : Printing next k begin at out) where
      pub printing_end : length text ≤ next → Wrote buf 0 (lines_text 1 (addresses (sheet_from start text from)) words) out at × (at ≤ 69 * n)
      printing_end h =
          let done : lines_text 1 (addresses_from start (counts_at from)) words ≡ s.written = s.left ∙ rw (lines_end text next h, append-nil) in
          (rw (all_sizes text from n q.all, done) s.wrote, omega (arith, s.few, s.go.left))

      module _ (e : ℕ) (m : Measured) (h : next < length text) (g : e ≡ part_end 10 text next) (is : m ≡ sized_of n (line_of (line_to text next e))) where
        sized_here : m.number ≡ 0
        sized_here =
            let b = both_in_order (size_outcome (suc k) m) _ (sym (sizing_here text from n s.go e m h g is) ∙ all_sized) in
            in_order_zero (suc k) m.number m.detail m.value b.0

        counts_here : counts_at next ≡ half_of m ∷ counts_at (e + 1)
        counts_here = ap (λ (ms : List Measured). map half_of ms) (sizes_here text from n s.go e m h g is)

        words_left : length (drop begin words) ≡ half_of m + total (counts_at (e + 1))
        words_left = omega (arith, length-drop begin words, all-counts, s.go.counts, ap total counts_here)

        -- the line has a number, words, an address and places
        pub record Room : Type 0 where
          pub line : k < n
          pub few : m.size / 2 ≤ 11
          pub words_there : begin + m.size / 2 ≤ length words
          pub address : start + 2 * begin < 2 ^ 32
          pub counted : begin ≤ 45056
          pub places : 282624 ≤ length buf → at + 69 ≤ length out

        pub room : Room
        room =
            let k-room = sizing-room text from n s.go e m h g is in
            let most = sizing_few text from n s.go e m h g is in
            let least : 2 ≤ m.size = rw is (sized_least n (line_of (line_to text next e)) (rw is at sized_here)) in
            record {
              line = k-room;
              few = most;
              words_there = omega (arith, all-counts, s.go.counts, ap total counts_here);
              address = omega (arith, all_end, least, all-counts, s.go.counts, ap total counts_here);
              counted = omega (arith, s.go.few, q.few, k-room);
              places = λ b. omega (arith, s.few, s.kept, q.few, k-room);
            }

        pub printing_next : {out' : List ℕ} {r : ℕ} → length out' ≡ length out → r ≤ length buf
            → Wrote out at (line_text (k + 1) (start + 2 * begin) (take (begin + m.size / 2 - begin) (drop begin words))) out' r × (r ≤ at + 69)
            → Printing (e + 1) (k + 1) (begin + m.size / 2) r out'
        printing_next kept fits w =
            let part : begin + m.size / 2 - begin ≡ m.size / 2 = omega arith in
            let onward : start + 2 * begin + 2 * half_of m ≡ start + 2 * (begin + m.size / 2) = omega arith in
            let here = ap (λ (cs : List ℕ). lines_text (k + 1) (addresses_from (start + 2 * begin) cs) (drop begin words)) counts_here
            ∙ lines_first (k + 1) (start + 2 * begin) (half_of m) (counts_at (e + 1)) (drop begin words) words_left in
            record {
              go = sizing_next text from n s.go e m h g is sized_here;
              few = omega (arith, s.few, w.1);
              kept = kept ∙ s.kept;
              written = s.written ++ line_text (k + 1) (start + 2 * begin) (take (begin + m.size / 2 - begin) (drop begin words));
              wrote = wrote_then s.wrote w.0 fits;
              left = s.left ∙ rw (here, part, onward, drop-drop, append_assoc, add-one (k + 1));
            }
