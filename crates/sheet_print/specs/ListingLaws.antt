-- Laws of listings, line by line. Assumes nothing.
use Rattle.std.specs.Prelude.{◌≡◌, refl, List, [], ◌∷◌, ◌++◌, ℕ, suc, ◌+◌, ◌*◌, ◌-◌, ◌/◌, ◌≤◌, ◌<◌, length, take, drop, get_or}
use Rattle.std.proofs.Common.{sym, ap, append-nil, arith, add-one, length-append, length-drop, take_all, take_at, drop_at, drop-cons, drop-drop}
use Rattle.isa.specs.declared.Encoded.{Encoded}
use Rattle.sheet_spec.specs.Sheet.{addresses_from, encoded_words, all_words}
use Rattle.sheet_size_facts.specs.Image.{Counts, later_counts}
use Rattle.print_spec.specs.Printed.{line_text, listing_from}
use Rattle.sheet_print.specs.Listing.{first_count, lines_text, Rises, Laid}

-- ---- the first count
pub count_last : (addresses : List ℕ) (left : ℕ) → length addresses < 2 → first_count addresses left ≡ left
count_last [] left h = refl
count_last (a ∷ []) left h = refl
count_last (a ∷ (b ∷ rest)) left h = absurd (omega arith)

pub count_more : (addresses : List ℕ) (left : ℕ) → 2 ≤ length addresses → first_count addresses left ≡ (get_or addresses 1 0 - get_or addresses 0 0) / 2
count_more [] left h = absurd (omega arith)
count_more (a ∷ []) left h = absurd (omega arith)
count_more (a ∷ (b ∷ rest)) left h = refl

pub rises_more : (addresses : List ℕ) → Rises addresses → 2 ≤ length addresses → get_or addresses 0 0 ≤ get_or addresses 1 0
rises_more [] r h = absurd (omega arith)
rises_more (a ∷ []) r h = absurd (omega arith)
rises_more (a ∷ (b ∷ rest)) r h = r

-- ---- one line more
rises_laid : (addresses words : List ℕ) → Laid addresses words → Rises addresses
rises_laid [] words l = omega arith
rises_laid (a ∷ rest) words l = l.0

module _ (A W : List ℕ) (k from : ℕ) (h : k < length A) (l : Laid (drop k A) (drop from W)) where
  abbrev left : List ℕ
  left = take (length A - k) (drop k A)

  left_is : left ≡ drop k A
  left_is = take_all (length A - k) (drop k A) (omega (arith, length-drop k A))

  pub laid_first : Rises left
  laid_first = rw left_is (rises_laid (drop k A) (drop from W) l)

  module _ (c : ℕ) (e : c ≡ first_count left (length W - from)) where
    count_is : first_count (get_or A k 0 ∷ drop (suc k) A) (length (drop from W)) ≡ c
    count_is = rw (length-drop from W, sym (drop-cons A k 0 h), sym left_is) (sym e)

    pub laid_next : (c ≤ 11) × (c ≤ length W - from) × Laid (drop (k + 1) A) (drop (from + c) W)
    laid_next =
        let m : Laid (get_or A k 0 ∷ drop (suc k) A) (drop from W) = rw (drop-cons A k 0 h) at l in
        let n = rw count_is at m in
        (n.1, rw (length-drop from W) at n.2, rw (add-one, sym (drop-drop c from W)) n.3)

    pub lines_next : lines_text (k + 1) (drop k A) (drop from W)
        ≡ line_text (k + 1) (get_or A k 0) (take (from + c - from) (drop from W)) ++ lines_text (k + 1 + 1) (drop (k + 1) A) (drop (from + c) W)
    lines_next =
        let first : lines_text (suc k) (drop k A) (drop from W) ≡ lines_text (suc k) (get_or A k 0 ∷ drop (suc k) A) (drop from W) =
        ap (λ (addresses : List ℕ). lines_text (suc k) addresses (drop from W)) (drop-cons A k 0 h) in
        let count : lines_text (suc k) (get_or A k 0 ∷ drop (suc k) A) (drop from W)
        ≡ line_text (suc k) (get_or A k 0) (take c (drop from W)) ++ lines_text (suc (suc k)) (drop (suc k) A) (drop c (drop from W)) =
        ap (λ (n : ℕ). line_text (suc k) (get_or A k 0) (take n (drop from W)) ++ lines_text (suc (suc k)) (drop (suc k) A) (drop n (drop from W))) count_is in
        let part : from + c - from ≡ c = omega arith in
        rw (part, add-one, add-one, first, count, drop-drop c from W)

-- ---- from encoded lines, each with as many words as counted
module _ (a c : ℕ) (cs : List ℕ) (e : Encoded) (es : List Encoded) (h : Counts (c ∷ cs) (e ∷ es)) where
  first_counts : length (encoded_words e) ≡ c
  first_counts = h.each 0 (omega arith)

  first_count_lem : first_count (a ∷ addresses_from (a + 2 * c) cs) (length (encoded_words e ++ all_words es)) ≡ c
  first_count_lem = go cs es h.lines first_counts
    where
      go : (ds : List ℕ) (fs : List Encoded) → length (c ∷ ds) ≡ length (e ∷ fs) → length (encoded_words e) ≡ c
          → first_count (a ∷ addresses_from (a + 2 * c) ds) (length (encoded_words e ++ all_words fs)) ≡ c
      go [] [] q w = rw append-nil w
      go [] (f ∷ fs) q w = absurd (omega arith)
      go (d ∷ ds) fs q w = omega arith

  rises : Rises (a ∷ addresses_from (a + 2 * c) cs)
  rises = go cs
    where
      go : (ds : List ℕ) → Rises (a ∷ addresses_from (a + 2 * c) ds)
      go [] = omega arith
      go (d ∷ ds) = omega arith

pub listing_is : (k a : ℕ) (cs : List ℕ) (es : List Encoded) → Counts cs es → lines_text k (addresses_from a cs) (all_words es) ≡ listing_from k (addresses_from a cs) es
listing_is k a [] es h = refl
listing_is k a (c ∷ cs) [] h = absurd (omega (arith, h.lines))
listing_is k a (c ∷ cs) (e ∷ es) h =
    let q = first_counts a c cs e es h in
    rw (first_count_lem a c cs e es h, take_at (encoded_words e) (all_words es) c q, drop_at (encoded_words e) (all_words es) c q)
    (ap (λ (t : List ℕ). line_text k a (encoded_words e) ++ t) (listing_is (suc k) (a + 2 * c) cs es (later_counts c cs e es h)))

pub laid : (a : ℕ) (cs : List ℕ) (es : List Encoded) → Counts cs es → ((k : ℕ) → k < length cs → get_or cs k 0 ≤ 11) → Laid (addresses_from a cs) (all_words es)
laid a [] es h few = tt
laid a (c ∷ cs) [] h few = absurd (omega (arith, h.lines))
laid a (c ∷ cs) (e ∷ es) h few =
    let q = first_counts a c cs e es h in
    rw (first_count_lem a c cs e es h, drop_at (encoded_words e) (all_words es) c q) (
      rises a c cs e es h,
      few 0 (omega arith),
      rw length-append (omega (arith, q)),
      laid (a + 2 * c) cs es (later_counts c cs e es h) (λ k g. few (suc k) (omega arith)),
    )
