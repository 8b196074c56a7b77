-- Where the words of lines stand: lists of counts, of addresses and of encoded lines.
use Rattle.std.specs.Prelude.{ℕ, zero, suc, ◌+◌, ◌*◌, ◌≤◌, ◌<◌, ◌≡◌, refl, List, [], ◌∷◌, ◌++◌, length, drop, take, get_or}
use Rattle.std.proofs.Common.{sym, ap, ◌∙◌, append_assoc, arith, length-append, take_at, take_all, drop_at}
use Rattle.std.proofs.Math.Option.{Option}
use Rattle.isa.specs.declared.Encoded.{Encoded}
use Rattle.sheet_spec.specs.Line.{Parsed, no}
use Rattle.sheet_spec.specs.Made.{turned_back, made}
use Rattle.sheet_spec.specs.Sheet.{total, addresses_from, encoded_line, encoded_from, encoded_words, all_words}

-- ---- counts and addresses
pub addresses_length : (a : ℕ) (cs : List ℕ) → length (addresses_from a cs) ≡ length cs
addresses_length a [] = refl
addresses_length a (c ∷ cs) = ap suc (addresses_length (a + 2 * c) cs)

pub addresses_are : (a : ℕ) (cs : List ℕ) (k : ℕ) → k < length cs → get_or (addresses_from a cs) k 0 ≡ a + 2 * total (take k cs)
addresses_are a [] k h = absurd (omega arith)
addresses_are a (c ∷ cs) zero h = omega arith
addresses_are a (c ∷ cs) (suc k) h = omega (arith, addresses_are (a + 2 * c) cs k (omega arith))

pub total_suc : (cs : List ℕ) (k : ℕ) → k < length cs → total (take (suc k) cs) ≡ total (take k cs) + get_or cs k 0
total_suc [] k h = absurd (omega arith)
total_suc (c ∷ cs) zero h = omega arith
total_suc (c ∷ cs) (suc k) h = omega (arith, total_suc cs k (omega arith))

pub total_take : (cs : List ℕ) (k : ℕ) → total (take k cs) ≤ total cs
total_take [] zero = omega arith
total_take [] (suc k) = omega arith
total_take (c ∷ cs) zero = omega arith
total_take (c ∷ cs) (suc k) = omega (arith, total_take cs k)

-- no more words up to a line's end than all lines count
pub total_part : (cs : List ℕ) (k : ℕ) → k < length cs → total (take k cs) + get_or cs k 0 ≤ total cs
total_part cs k h = omega (arith, total_suc cs k h, total_take cs (suc k))

-- where each counts at least one word
pub total_some : (cs : List ℕ) → ((k : ℕ) → k < length cs → 1 ≤ get_or cs k 0) → length cs ≤ total cs
total_some [] h = omega arith
total_some (c ∷ cs) h = omega (arith, h 0 (omega arith), total_some cs (λ k q. h (suc k) (omega arith)))

-- ---- lines encoded
abbrev pub no_words : Encoded
no_words = encoded_line 0 (turned_back 0)

pub encoded_length : (f : ℕ → Option ℕ) (places : List ℕ) (ps : List Parsed) → length places ≡ length ps → length (encoded_from f places ps) ≡ length ps
encoded_length f [] [] h = refl
encoded_length f [] (p ∷ ps) h = absurd (omega arith)
encoded_length f (a ∷ places) [] h = refl
encoded_length f (a ∷ places) (p ∷ ps) h = ap suc (encoded_length f places ps (omega arith))

pub encoded-is : (f : ℕ → Option ℕ) (places : List ℕ) (ps : List Parsed) → length places ≡ length ps → (k : ℕ) → k < length ps
    → get_or (encoded_from f places ps) k no_words ≡ encoded_line (get_or places k 0) (made f (get_or ps k no))
encoded-is f places [] h k g = absurd (omega arith)
encoded-is f [] (p ∷ ps) h k g = absurd (omega arith)
encoded-is f (a ∷ places) (p ∷ ps) h zero g = refl
encoded-is f (a ∷ places) (p ∷ ps) h (suc k) g = encoded-is f places ps (omega arith) k (omega arith)

-- ---- each line's words are as many as it counts
pub record Counts (cs : List ℕ) (es : List Encoded) : Type 0 where
  pub lines : length cs ≡ length es
  pub each : (k : ℕ) → k < length es → length (encoded_words (get_or es k no_words)) ≡ get_or cs k 0

pub later_counts : (c : ℕ) (cs : List ℕ) (e : Encoded) (es : List Encoded) → Counts (c ∷ cs) (e ∷ es) → Counts cs es
later_counts c cs e es h = record { lines = omega (arith, h.lines); each = λ k g. h.each (suc k) (omega arith) }

-- a line's words stand behind those of the lines before it
splits : (es : List Encoded) (k : ℕ) → k < length es → (rest : List ℕ) × (all_words es ≡ all_words (take k es) ++ (encoded_words (get_or es k no_words) ++ rest))
splits [] k h = absurd (omega arith)
splits (e ∷ es) zero h = (all_words es, refl)
splits (e ∷ es) (suc k) h =
    let r = splits es k (omega arith) in
    (r.0, ap (λ (x : List ℕ). encoded_words e ++ x) r.1 ∙ sym (append_assoc (encoded_words e) (all_words (take k es)) _))

front_length : (cs : List ℕ) (es : List Encoded) → Counts cs es → (k : ℕ) → length (all_words (take k es)) ≡ total (take k cs)
front_length [] [] h zero = refl
front_length [] [] h (suc k) = refl
front_length [] (e ∷ es) h k = absurd (omega (arith, h.lines))
front_length (c ∷ cs) [] h k = absurd (omega (arith, h.lines))
front_length (c ∷ cs) (e ∷ es) h zero = refl
front_length (c ∷ cs) (e ∷ es) h (suc k) =
    rw length-append (omega (arith, h.each 0 (omega arith), front_length cs es (later_counts c cs e es h) k))

module _ (cs : List ℕ) (es : List Encoded) (ok : Counts cs es) where
  pub words_length : length (all_words es) ≡ total cs
  words_length =
      sym (ap (λ (xs : List Encoded). length (all_words xs)) (take_all (length es) es (omega arith)))
      ∙ front_length cs es ok (length es)
      ∙ ap total (take_all (length es) cs (omega (arith, ok.lines)))

  -- what stands from the place of line k + 1 on
  pub drop_before : (k : ℕ) → k < length es → (rest : List ℕ) × (drop (total (take k cs)) (all_words es) ≡ encoded_words (get_or es k no_words) ++ rest)
  drop_before k h =
      let r = splits es k h in (
        r.0,
        ap (λ (ws : List ℕ). drop (total (take k cs)) ws) r.1
            ∙ drop_at (all_words (take k es)) (encoded_words (get_or es k no_words) ++ r.0) _ (front_length cs es ok k),
      )

  pub words_stand : (k : ℕ) → k < length es → take (get_or cs k 0) (drop (total (take k cs)) (all_words es)) ≡ encoded_words (get_or es k no_words)
  words_stand k h =
      let d = drop_before k h in
      ap (λ (ws : List ℕ). take (get_or cs k 0) ws) d.1 ∙ take_at (encoded_words (get_or es k no_words)) d.0 _ (ok.each k h)
