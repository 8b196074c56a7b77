-- Laws of the passes' loops, a line at a time.
use Rattle.std.proofs.Common.{◌≡◌, ℕ, suc, ◌+◌, ◌*◌, ◌/◌, ◌%◌, ◌^◌, ◌<◌, ◌≤◌, Bool, true, false, cond, not, ◌&&◌, ◌||◌, eqb, List, [], ◌∷◌, ◌++◌, map, length, get_or, take, drop, set, pos, sym, refl, ap, ◌∙◌, append-nil, add-one, arith, length-append, drop_of_length-le, length-take-le, drop-cons, take-suc, eq-eqb, ne_eqb}
use mathlib.Core.Bool.{and-true}
use lib.Seq.{append_snoc}
use Rattle.isa.specs.declared.Measured.{Measured}
use Rattle.isa.specs.declared.Encoded.{Encoded}
use Rattle.isa.specs.declared.Instruction.{Instruction}
use Rattle.encode_spec.specs.Encode.{encode_of, size_of}
use Rattle.m68k_facts.specs.Laws.{size_law}
use Rattle.base_text.specs.Parts.{part_end}
use Rattle.sheet_spec.specs.Line.{no, line_of}
use Rattle.sheet_labels.specs.Labels.{listed, labelled_in}
use Rattle.sheet_labels.specs.LabelLaws.{and_assoc}
use Rattle.sheet_line.specs.declared.LineMade.{LineMade}
use Rattle.sheet_line.specs.LineMade.{line_made}
use Rattle.sheet_spec.specs.Made.{judged, made, of_lines}
use Rattle.sheet_spec.specs.Sheet.{sized_as, sized_of, sizes_of, half_of, total, encoded_line}
use Rattle.sheet_spec.specs.Translate.{in_order, refused, and_then, in_turn, size_outcome, encode_outcome, encoding, over}
use Rattle.sheet_facts.specs.Listing.{over_set}
use Rattle.sheet_passes.specs.declared.Passed.{Passed}
use Rattle.sheet_passes.specs.declared.LineJudged.{LineJudged}
use Rattle.sheet_passes.specs.declared.Sized.{Sized}
use Rattle.sheet_passes.specs.Passes.{parsed_at, passed_of, filled_of, line_encoded, Placed, encoded_at}
use Rattle.sheet_passes.specs.Settle.{judged_instruction, judged_made, settled_at, judged_line, settled_from, sized_by, sized_sheet, has_at, not_refused, refusal_parts, why_refused, Settled}
use Rattle.sheet_passes.specs.SettleLaws.{resolves_without, line_unlabelled}
use Rattle.sheet_passes.specs.Walks.{line_to, lines_end, parsed_next, made_labelled, made-resolves, made-is, sizes_at, Sizing, sizing_begin, all_sizes, sizing_end, sizes_here, sizing-room, sizing_here, sizing_next, encoded_left, Going, going, lines_here, going_next, encoded_here, left_here, nothing_left}

-- ---- places written in front of others
-- one word more in the front
pub put_more : (w p : List ℕ) (i : ℕ) → i < length w → i < length p → set (over (take i w) p) i (get_or w i 0) ≡ over (take (i + 1) w) p
put_more w p i h g = rw (add-one, take-suc w i 0 h) (over_set (take i w) p i (get_or w i 0) (length-take-le i w (omega arith)) g)

-- ---- the byte `@`, a byte at a time
module _ (line : List ℕ) (i : ℕ) where
  label_on : i < length line → has_at (drop i line) ≡ eqb (get_or line i 0) 64 || has_at (drop (i + 1) line)
  label_on h = rw (add-one, drop-cons line i 0 h)

  pub label_here : i < length line → get_or line i 0 ≡ 64 → has_at (drop i line) ≡ true
  label_here h e = label_on h ∙ rw (eq-eqb (get_or line i 0) 64 e)

  pub label_next : i < length line → (get_or line i 0 ≡ 64 → ⊥) → has_at (drop i line) ≡ has_at (drop (i + 1) line)
  label_next h e = label_on h ∙ rw (ne_eqb (get_or line i 0) 64 e)

  pub label_end : length line ≤ i → has_at (drop i line) ≡ false
  label_end h = rw (drop_of_length-le line {i = i} h)

-- ---- one line, by what it makes
module _ (n : ℕ) (line : List ℕ) {m : LineMade} (e : m ≡ line_made n [] (line_of line)) where
  pub judged_labelled : (a : ℕ) (x : Measured) → x ≡ sized_as (judged m.built m.resolves) → m.labelled ≡ true
      → record { measured = x; settled = true } ≡ judged_line n a (line_of line)
  unfolding sized_of settled_at
  judged_labelled a x h t =
      let l : labelled_in (line_of line) ≡ true = sym (made_labelled n line e) ∙ t in
      rw (h, made-is n line e, l)

  pub judged-unlabelled : (a : ℕ) → m.labelled ≡ false → judged_made a (judged m.built true) ≡ judged_line n a (line_of line)
  unfolding sized_of settled_at
  judged-unlabelled a t =
      let l : labelled_in (line_of line) ≡ false = sym (made_labelled n line e) ∙ t in
      let r : judged m.built true ≡ made (of_lines n (λ k. 0)) (line_of line)
      = ap (judged m.built) (sym (made-resolves n line e ∙ resolves_without (of_lines n (λ k. 0)) (line_of line) l)) ∙ made-is n line e in
      rw (r, l)

pub judged_accepted : (i : Instruction) (a : ℕ) → (encode_of i a).number ≡ 0
    → record { measured = record { size = 2 * (encode_of i a).count; number = 0; detail = 0; value = pos 0 }; settled = true } ≡ judged_instruction i a
judged_accepted i a h = rw (size_law i a h, eq-eqb (encode_of i a).number 0 h)

pub judged-refused : (i : Instruction) (a : ℕ) → ((encode_of i a).number ≡ 0 → ⊥) → record { measured = size_of i; settled = false } ≡ judged_instruction i a
judged-refused i a h = rw (ne_eqb (encode_of i a).number 0 h)

pub line_encoded_lem : (addresses line : List ℕ) (a n : ℕ) {m : LineMade} → m ≡ line_made n addresses (line_of line)
    → encoded_line a (judged m.built true) ≡ line_encoded addresses (line_of line) a
unfolding line_encoded line_made
line_encoded_lem addresses line a n e = rw e

module _ (addresses line : List ℕ) (a : ℕ) (settled b : Bool) (h : b ≡ has_at line) where
  pub range_looked : (e : Encoded) → e ≡ line_encoded addresses (line_of line) a → b || not settled ≡ true → refusal_parts e ≡ why_refused addresses line a settled
  unfolding why_refused
  range_looked e is t = rw (is, rw h at t)

  pub range_passed : (m : Measured) → m ≡ not_refused → b || not settled ≡ false → m ≡ why_refused addresses line a settled
  unfolding why_refused
  range_passed m is t = is ∙ rw (rw h at t)

-- ---- sizes: the lines measured, and their addresses put into the scratch
module _ (text : List ℕ) (from n start : ℕ) (lent : List ℕ) where
  abbrev sizes : ℕ → List Measured
  sizes = sizes_at text from n

  pub record Measuring (next k words : ℕ) (settled : Bool) (scratch : List ℕ) : Type 0 where
    pub go : Sizing text from n next k words
    pub settles : settled_from n start (parsed_at text from) ≡ settled && settled_from n (start + 2 * words) (parsed_at text next)
    pub written : List ℕ
    pub filled : filled_of start (sizes from) ≡ written ++ filled_of (start + 2 * words) (sizes next)
    pub places : length written ≡ k
    pub scratch_is : scratch ≡ over written lent

  pub measuring : n ≡ length (parsed_at text from) → Measuring from 0 0 true lent
  measuring e =
      let here : start ≡ start + 2 * 0 = omega arith in
      record {
        go = sizing_begin text from n e;
        settles = ap (λ (a : ℕ). settled_from n a (parsed_at text from)) here;
        written = [];
        filled = ap (λ (a : ℕ). filled_of a (sizes from)) here;
        places = refl;
        scratch_is = refl;
      }

  abbrev pub Measured-all : Sized → List ℕ → Type 0
  Measured-all r scratch = (r ≡ sized_sheet start (parsed_at text from)) × (scratch ≡ over (filled_of start (sizes_of (parsed_at text from))) lent)

  sized_sheet_lem : n ≡ length (parsed_at text from)
      → sized_sheet start (parsed_at text from) ≡ sized_by (in_turn size_outcome 1 (sizes from)) (total (map half_of (sizes from))) (settled_from n start (parsed_at text from))
  unfolding sized_sheet
  sized_sheet_lem e = ap (λ (k : ℕ). sized_by (in_turn size_outcome 1 (map (sized_of k) (parsed_at text from))) (total (map half_of (map (sized_of k) (parsed_at text from)))) (settled_from k start (parsed_at text from))) (sym e)

  module _ {next k words : ℕ} {settled : Bool} {scratch : List ℕ} (s : Measuring next k words settled scratch) where
    pub measuring_end : n ≡ length (parsed_at text from) → length text ≤ next → (r : Passed) → r ≡ passed_of in_order words
        → Measured-all (record { passed = r; settled = settled }) scratch
    measuring_end q h r is =
        let l = lines_end text next h in
        let z = sizing_end text from n s.go h in (
          rw (sized_sheet_lem q, z.0, z.1, s.settles, l, and-true settled, is),
          rw (all_sizes text from n q) (rw (s.scratch_is, s.filled, l, append-nil)),
        )

    module _ (e a : ℕ) (put : a ≡ (start + 2 * words) % 2 ^ 32) (x : LineJudged) (h : next < length text) (g : e ≡ part_end 10 text next)
        (judges : x ≡ judged_line n a (line_of (line_to text next e))) where
      abbrev m : Measured
      m = x.measured

      is : m ≡ sized_of n (line_of (line_to text next e))
      is = ap (λ (y : LineJudged). y.measured) judges

      settled_is : x.settled ≡ settled_at n ((start + 2 * words) % 2 ^ 32) (line_of (line_to text next e))
      settled_is = ap (λ (y : LineJudged). y.settled) judges ∙ ap (λ (b : ℕ). settled_at n b (line_of (line_to text next e))) put

      pub measuring_room : k < n
      measuring_room = sizing-room text from n s.go e m h g is

      filled_here : filled_of start (sizes from)
          ≡ s.written ++ cond (eqb m.number 0) ((start + 2 * words) % 2 ^ 32 ∷ filled_of (start + 2 * words + 2 * half_of m) (sizes (e + 1))) []
      filled_here = s.filled ∙ ap (λ (ms : List Measured). s.written ++ filled_of (start + 2 * words) ms) (sizes_here text from n s.go e m h g is)

      pub measuring_stop : n ≡ length (parsed_at text from) → (m.number ≡ 0 → ⊥) → (r : Passed) → r ≡ passed_of (refused m.number (k + 1) m.detail m.value) 0
          → Measured-all (record { passed = r; settled = false }) scratch
      measuring_stop q z r eq = (
        rw (sized_sheet_lem q, sizing_here text from n s.go e m h g is, ne_eqb m.number 0 z, eq, add-one),
        rw (all_sizes text from n q) (rw (s.scratch_is, filled_here, ne_eqb m.number 0 z, append-nil)),
      )

      pub measuring_next : m.number ≡ 0 → k < length lent → Measuring (e + 1) (k + 1) (words + m.size / 2) (settled && x.settled) (set scratch k a)
      measuring_next z room =
          let far : start + 2 * words + 2 * half_of m ≡ start + 2 * (words + m.size / 2) = omega arith in
          record {
            go = sizing_next text from n s.go e m h g is z;
            settles =
                s.settles
                ∙ rw (parsed_next text next e h g, ← is, far, ← settled_is) (and_assoc settled x.settled (settled_from n (start + 2 * (words + m.size / 2)) (parsed_at text (e + 1))));
            written = s.written ++ (a ∷ []);
            filled = filled_here ∙ rw (eq-eqb m.number 0 z, far, put, append_snoc);
            places = omega (arith, s.places, length-append s.written (a ∷ []));
            scratch_is = rw s.scratch_is (over_set s.written lent k a s.places room);
          }

-- ---- ranges
module _ (text : List ℕ) (from : ℕ) (addresses : List ℕ) where
  abbrev SettledLeft : ℕ → ℕ → Type 0
  SettledLeft next k = (j : ℕ) → j < length (parsed_at text next) → labelled_in (get_or (parsed_at text next) j no) ≡ false
      → (encoded_line (get_or addresses (k + j) 0) (made (listed addresses) (get_or (parsed_at text next) j no))).number ≡ 0

  pub record Ranging (settled : Bool) (next k : ℕ) : Type 0 where
    pub go : Going text from addresses next k
    pub verdict : encoding (encoded_at addresses (parsed_at text from)) ≡ in_turn encode_outcome (suc k) (encoded_left text from addresses next k)
    pub settles : settled ≡ true → SettledLeft next k

  pub ranging : (settled : Bool) → Placed addresses (parsed_at text from) → (settled ≡ true → Settled addresses (parsed_at text from)) → Ranging settled from 0
  ranging settled p h = record { go = going text from addresses p; verdict = refl; settles = λ t j q u. let z : 0 + j ≡ j = omega arith in rw z (h t j q u) }

  module _ {settled : Bool} {next k : ℕ} (s : Ranging settled next k) where
    pub ranging_end : length text ≤ next → (r : Passed) → r ≡ passed_of in_order 0 → r ≡ passed_of (encoding (encoded_at addresses (parsed_at text from))) 0
    ranging_end h r is = is ∙ rw (s.verdict, nothing_left text from addresses next k h)

    module _ (e : ℕ) (h : next < length text) (g : e ≡ part_end 10 text next) (m : Measured) (is : m ≡ why_refused addresses (line_to text next e) (get_or addresses k 0) settled) where
      abbrev line : List ℕ
      line = line_to text next e

      abbrev here : Encoded
      here = line_encoded addresses (line_of line) (get_or addresses k 0)

      here_is : here ≡ encoded_line (get_or addresses k 0) (made (listed addresses) (line_of line))
      here_is = encoded_here text from addresses s.go e h g here refl

      -- a line that is passed over is accepted
      passed_fine : has_at line ≡ false → settled ≡ true → here.number ≡ 0
      passed_fine u t =
          let first = (rw (lines_here text from addresses s.go e h g) at (s.settles t)) 0 (omega arith) (line_unlabelled line u) in
          let place : k + 0 ≡ k = omega arith in
          rw here_is (rw place at first)

      accepted_here : m.number ≡ 0 → here.number ≡ 0
      unfolding why_refused
      accepted_here z = go (has_at line) settled refl refl
        where
          go : (b t : Bool) → has_at line ≡ b → settled ≡ t → here.number ≡ 0
          go true t p q = let r : m ≡ refusal_parts here = is ∙ rw p in sym (ap (λ (x : Measured). x.number) r) ∙ z
          go false false p q = let r : m ≡ refusal_parts here = is ∙ rw (p, q) in sym (ap (λ (x : Measured). x.number) r) ∙ z
          go false true p q = passed_fine p q

      refused_here : (m.number ≡ 0 → ⊥) → m ≡ refusal_parts here
      unfolding why_refused
      refused_here z = go (has_at line || not settled) refl
        where
          go : (b : Bool) → has_at line || not settled ≡ b → m ≡ refusal_parts here
          go true p = is ∙ rw p
          go false p = let r : m ≡ not_refused = is ∙ rw p in absurd (z (ap (λ (x : Measured). x.number) r))

      ranging_here : encoding (encoded_at addresses (parsed_at text from)) ≡ and_then (encode_outcome (suc k) here) (in_turn encode_outcome (suc (suc k)) (encoded_left text from addresses (e + 1) (k + 1)))
      ranging_here = s.verdict ∙ ap (in_turn encode_outcome (suc k)) (left_here text from addresses s.go e h g here refl)

      pub ranging_stop : (m.number ≡ 0 → ⊥) → (r : Passed) → r ≡ passed_of (refused m.number (k + 1) m.detail m.value) 0
          → r ≡ passed_of (encoding (encoded_at addresses (parsed_at text from))) 0
      ranging_stop z r eq =
          let x = refused_here z in
          let y : here.number ≡ 0 → ⊥ = λ q. z (ap (λ (v : Measured). v.number) x ∙ q) in
          eq ∙ rw (x, ranging_here, ne_eqb here.number 0 y, add-one)

      pub ranging_next : m.number ≡ 0 → Ranging settled (e + 1) (k + 1)
      ranging_next z =
          let onward : suc (suc k) ≡ suc (k + 1) = omega arith in
          record {
            go = going_next text from addresses s.go e h g;
            verdict = ranging_here ∙ rw (eq-eqb here.number 0 (accepted_here z), onward);
            settles = λ t j q u. let i : k + 1 + j ≡ k + suc j = omega arith in rw i ((rw (lines_here text from addresses s.go e h g) at (s.settles t)) (suc j) (omega arith) u);
          }
