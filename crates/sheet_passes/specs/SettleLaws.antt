-- Laws of lines without a label: what they make does not depend on the addresses. Assumes nothing.
use Rattle.std.specs.Prelude.{◌≡◌, ℕ, zero, suc, ◌+◌, ◌*◌, ◌%◌, ◌^◌, ◌<◌, ◌≤◌, Bool, true, false, cond, not, ◌&&◌, ◌||◌, List, [], ◌∷◌, map, length, pos, ◌==◌, nat_eq, nat_le, slice_index, slice_index_or, refl}
use Rattle.std.proofs.Common.{sym, ap, ◌∙◌, arith, eqb-true}
use Rattle.std.proofs.lemmas.Bool.{false≢true}
use Rattle.std.proofs.Math.Option
use Rattle.std.proofs.Math.Option.{Option, none, some}
use Rattle.base_spec.specs.Number as number
use Rattle.base_spec.specs.Number.{Number, number_of}
use Rattle.base_spec.specs.Parts.{onto, parts, fields}
use Rattle.numeric_spec.specs.Build.{built_of}
use Rattle.base_facts.specs.Tests.{and-true}
use Rattle.sheet_spec.specs.declared.Kind.{Kind}
use Rattle.sheet_spec.specs.Names.{bytes, names_of}
use Rattle.sheet_spec.specs.Line.{Token, literal, label, invalid, as_number, as_label, is_label, equal, is_none, place_from, token, Parsed, says, no, line_of}
use Rattle.sheet_spec.specs.Made.{number_as, resolves_all, resolves_in, built_as, made, judged, of_lines}
use Rattle.sheet_spec.specs.Sheet.{sized_of, sizes_of, half_of, total, addresses_from, encoded_line}
use Rattle.sheet_spec.specs.Translate.{Outcome, in_order, refused, in_turn, size_outcome, sizing}
use Rattle.sheet_facts.specs.Fields.{Sorted, of_number, of_target, of_place, of_variant, sorted}
use Rattle.sheet_facts.specs.Lines.{by_line}
use Rattle.sheet_facts.specs.Listing.{both_in_order, in_order_zero}
use Rattle.sheet_tokens.specs.Values.{value_of}
use Rattle.sheet_labels.specs.Labels as labels
use Rattle.sheet_labels.specs.Labels.{listed, labelled_all, labelled_in}
use Rattle.sheet_passes.specs.PassLaws.{sized_least}
use Rattle.sheet_passes.specs.Passes.{passed_of}
use Rattle.sheet_passes.specs.Settle.{settled_at, settled_from, sized_by, sized_sheet, has_at}

neither : (a b : Bool) → a || b ≡ false → (a ≡ false) × (b ≡ false)
neither true b e = absurd (false≢true (sym e))
neither false b e = (refl, e)

none_of : (a b : Bool) → a ≡ false → b ≡ false → a || b ≡ false
none_of a b e f = rw (e, f)

-- ---- the addresses do not matter
module _ (f g : ℕ → Option ℕ) where
  number-unlabelled : (v : Token) → labels.says_label (value_of v) ≡ false → number_as f v ≡ number_as g v
  number-unlabelled (literal true n) h = refl
  number-unlabelled (literal false n) h = refl
  number-unlabelled (label n) h = absurd (false≢true (sym h))
  number-unlabelled invalid h = refl

  numbers_unlabelled : (vs : List Token) → labelled_all vs ≡ false → map (number_as f) vs ≡ map (number_as g) vs
  numbers_unlabelled [] h = refl
  numbers_unlabelled (v ∷ vs) h =
      let n = neither (labels.says_label (value_of v)) (labelled_all vs) h in
      λ i. number-unlabelled v n.0 i ∷ numbers_unlabelled vs n.1 i

  built_unlabelled : (p : Parsed) → labelled_in p ≡ false → built_as f p ≡ built_as g p
  built_unlabelled (says vs) h = ap built_of (numbers_unlabelled vs h)
  built_unlabelled no h = refl

module _ (f : ℕ → Option ℕ) where
  resolves-unlabelled : (vs : List Token) → labelled_all vs ≡ false → resolves_all f vs ≡ true
  resolves-unlabelled [] h = refl
  resolves-unlabelled (literal s n ∷ vs) h = resolves-unlabelled vs h
  resolves-unlabelled (label n ∷ vs) h = absurd (false≢true (sym h))
  resolves-unlabelled (invalid ∷ vs) h = resolves-unlabelled vs h

  pub resolves_without : (p : Parsed) → labelled_in p ≡ false → resolves_in f p ≡ true
  resolves_without (says vs) h = resolves-unlabelled vs h
  resolves_without no h = refl

pub made-unlabelled : (f g : ℕ → Option ℕ) (p : Parsed) → labelled_in p ≡ false → made f p ≡ made g p
unfolding made
made-unlabelled f g p h = rw (resolves_without f p h, resolves_without g p h) (ap (λ b. judged b true) (built_unlabelled f g p h))

-- with no addresses `@` is as 0
zero_address : (n k : ℕ) → Option.get_or (of_lines n (λ j. 0) k) 0 ≡ 0
zero_address n k = go (nat_le 1 k && nat_le k n)
  where
    go : (b : Bool) → ◌≡◌ {A = ℕ} (Option.get_or (cond b (some 0) none) 0) 0
    go true = refl
    go false = refl

number_zero : (n : ℕ) (v : Token) → number_as (listed []) v ≡ number_as (of_lines n (λ k. 0)) v
number_zero n (literal true m) = refl
number_zero n (literal false m) = refl
number_zero n (label k) = ap pos (zero_address 0 k ∙ sym (zero_address n k))
number_zero n invalid = refl

numbers_zero : (n : ℕ) (vs : List Token) → map (number_as (listed [])) vs ≡ map (number_as (of_lines n (λ k. 0))) vs
numbers_zero n [] = refl
numbers_zero n (v ∷ vs) = λ i. number_zero n v i ∷ numbers_zero n vs i

pub built_zero : (n : ℕ) (p : Parsed) → built_as (listed []) p ≡ built_as (of_lines n (λ k. 0)) p
built_zero n (says vs) = ap built_of (numbers_zero n vs)
built_zero n no = refl

-- ---- a line without `@` has no label
abbrev none_has : List (List ℕ) → Type 0
none_has [] = Unit {0}
none_has (f ∷ fs) = (has_at f ≡ false) × none_has fs

onto_has : (b : ℕ) (fs : List (List ℕ)) → (b == 64) ≡ false → none_has fs → none_has (onto b fs)
onto_has b [] e h = (none_of (b == 64) false e refl, tt)
onto_has b (f ∷ fs) e h = (none_of (b == 64) (has_at f) e h.0, h.1)

parts_have : (line : List ℕ) → has_at line ≡ false → none_has (fields line)
parts_have [] h = (refl, tt)
parts_have (b ∷ bs) h =
    let n = neither (b == 64) (has_at bs) h in
    go (b == 9) (parts_have bs n.1)
  where
    go : (t : Bool) → none_has (parts 9 bs) → none_has (cond t ([] ∷ parts 9 bs) (onto b (parts 9 bs)))
    go true g = (refl, g)
    go false g = onto_has b (parts 9 bs) (neither (b == 64) (has_at bs) h).0 g

not_label : (f : List ℕ) → has_at f ≡ false → is_label f ≡ false
not_label [] h = refl
not_label (b ∷ bs) h = (neither (b == 64) (has_at bs) h).0

abbrev unlabelled : Token → Type 0
unlabelled v = labels.says_label (value_of v) ≡ false

number_says : (n : Number) → unlabelled (as_number n)
number_says (number.Is s m) = refl
number_says number.No = refl

label_says : (f : List ℕ) → has_at f ≡ false → unlabelled (as_label f)
label_says [] h = refl
label_says (b ∷ bs) h = rw (neither (b == 64) (has_at bs) h).0

place_says : (k : ℕ) (f : List ℕ) (ns : List (List ℕ)) → unlabelled (place_from k f ns)
place_says k f [] = refl
place_says k f (n ∷ ns) = go (equal f n && not (is_none f)) (place_says (suc k) f ns)
  where
    go : (t : Bool) → unlabelled (place_from (suc k) f ns) → unlabelled (cond t (literal false k) (place_from (suc k) f ns))
    go true r = refl
    go false r = r

token_says : (k : Kind) (f : List ℕ) → has_at f ≡ false → unlabelled (token k f)
token_says k f h = go (sorted k)
  where
    go : {k : Kind} → Sorted k → unlabelled (token k f)
    go of_number = number_says (number_of f)
    go of_target = label_says f h
    go of_place = rw (not_label f h) (number_says (number_of f))
    go (of_variant {k} x) = rw (x.token f) (place_says 0 f (map bytes (names_of k)))

pub line_unlabelled : (line : List ℕ) → has_at line ≡ false → labelled_in (line_of line) ≡ false
line_unlabelled line h = go (line_of line) refl
  where
    go : (p : Parsed) → line_of line ≡ p → labelled_in p ≡ false
    go (says vs) e =
        by_line (λ ks fs ws. none_has fs → labelled_all ws ≡ false) (λ n. refl)
        (λ k ks f fs v ws q s r n. none_of (labels.says_label (value_of v)) (labelled_all ws) (rw q at (token_says k f n.0)) (r n.1))
        line vs e (parts_have line h)
    go no e = refl

-- ---- what `sizes` answers
passed_by : (w : Outcome) (words : ℕ) (t : Bool) → (sized_by w words t).passed ≡ passed_of w words
passed_by in_order words t = refl
passed_by (refused number line detail value) words t = refl

pub sized_passed : (start : ℕ) (ps : List Parsed) → (sized_sheet start ps).passed ≡ passed_of (sizing ps) (total (map half_of (sizes_of ps)))
unfolding sized_sheet
sized_passed start ps = passed_by (sizing ps) (total (map half_of (sizes_of ps))) (settled_from (length ps) start ps)

pub sized_settled : (start : ℕ) (ps : List Parsed) → sizing ps ≡ in_order → (sized_sheet start ps).settled ≡ settled_from (length ps) start ps
unfolding sized_sheet
sized_settled start ps e = ap (λ (w : Outcome). (sized_by w (total (map half_of (sizes_of ps))) (settled_from (length ps) start ps)).settled) e

-- ---- lines that are settled, not refused and end in time are accepted at their addresses
head_fine : (n a : ℕ) (f : ℕ → Option ℕ) (p : Parsed) → settled_at n a p ≡ true → labelled_in p ≡ false → (encoded_line a (made f p)).number ≡ 0
unfolding settled_at
head_fine n a f p s u =
    let t : nat_eq (encoded_line a (made (of_lines n (λ k. 0)) p)).number 0 ≡ true = rw u at s in
    rw (made-unlabelled f (of_lines n (λ k. 0)) p u) (eqb-true (encoded_line a (made (of_lines n (λ k. 0)) p)).number 0 t)

module _ (n : ℕ) (f : ℕ → Option ℕ) where
  pub settled_fine : (k a : ℕ) (ps : List Parsed) → in_turn size_outcome k (map (sized_of n) ps) ≡ in_order → a + 2 * total (map half_of (map (sized_of n) ps)) ≤ 2 ^ 32
      → settled_from n a ps ≡ true → (j : ℕ) → j < length ps → labelled_in (slice_index_or ps j no) ≡ false
      → (encoded_line (slice_index (addresses_from a (map half_of (map (sized_of n) ps))) j) (made f (slice_index_or ps j no))).number ≡ 0
  settled_fine k a [] e h s j q u = absurd (omega arith)
  settled_fine k a (p ∷ ps) e h s zero q u =
      let m = sized_of n p in
      let g = both_in_order (size_outcome k m) (in_turn size_outcome (suc k) (map (sized_of n) ps)) e in
      let z = in_order_zero k m.number m.detail m.value g.0 in
      let low : a % 2 ^ 32 ≡ a = omega (arith, sized_least n p z) in
      head_fine n a f p (rw low at (and-true (settled_at n (a % 2 ^ 32) p) (settled_from n (a + 2 * half_of m) ps) s).0) u
  settled_fine k a (p ∷ ps) e h s (suc j) q u =
      let m = sized_of n p in
      let g = both_in_order (size_outcome k m) (in_turn size_outcome (suc k) (map (sized_of n) ps)) e in
      settled_fine (suc k) (a + 2 * half_of m) ps g.1 (omega arith) (and-true (settled_at n (a % 2 ^ 32) p) (settled_from n (a + 2 * half_of m) ps) s).1 j (omega arith) u
