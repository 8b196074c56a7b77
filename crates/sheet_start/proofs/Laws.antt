-- Laws of what stands before the lines, a byte or a field at a time. Assumes nothing.
use mathlib.Core.Path.{◌≡◌, refl, sym, ap, ◌∙◌}
use mathlib.Core.Bool.{cond}
use mathlib.Core.List.{List, [], ◌∷◌}
use mathlib.Core.Option.{none}
use Prim.Native.Nat.{ℕ, suc, ◌+◌, ◌-◌, ◌≤◌, ◌<◌}
use native.Mathlib.Omega.{arith}
use native.Mathlib.Numerals.{add-one}
use lib.ListN.{length, take, drop, get_or, drop_of_length-le}
use lib.Seq.{drop-cons}
use borrow.Author.Tests.{eq-eqb, ne_eqb}
use Rattle.base_text.specs.Parts.{before, part_end}
use Rattle.base_spec.specs.Parts.{fields}
use Rattle.base_text.specs.PartLaws.{parts_from, parts_at, parts-start, parts_past, part_is}
use Rattle.base_spec.specs.Number.{number_of}
use Rattle.sheet_spec.specs.Names.{bytes}
use Rattle.sheet_spec.specs.Line.{equal}
use Rattle.sheet_spec.specs.Sheet.{feeds, last, start_as, start_fields, start_of}

-- ---- line feeds
module _ (s : List ℕ) (i : ℕ) (h : i < length s) where
  pub feeds-one : get_or s i 0 ≡ 10 → feeds (drop i s) ≡ feeds (drop (i + 1) s) + 1
  feeds-one e = rw (add-one, add-one, drop-cons s i 0 h, eq-eqb (get_or s i 0) 10 e)

  pub feeds-none : (get_or s i 0 ≡ 10 → ⊥) → feeds (drop i s) ≡ feeds (drop (i + 1) s)
  feeds-none e = rw (add-one, drop-cons s i 0 h, ne_eqb (get_or s i 0) 10 e)

pub feeds_end : (s : List ℕ) (i : ℕ) → length s ≤ i → feeds (drop i s) ≡ 0
feeds_end s i h = rw (drop_of_length-le s h)

-- ---- the last byte
pub last_none : (s : List ℕ) → length s ≡ 0 → last s ≡ 0
last_none [] h = refl
last_none (b ∷ bs) h = absurd (omega arith)

pub last_some : (s : List ℕ) → (length s ≡ 0 → ⊥) → last s ≡ get_or s (length s - 1) 0
last_some [] h = absurd (h refl)
last_some (b ∷ []) h = refl
last_some (b ∷ (d ∷ bs)) h =
    let q : suc (suc (length bs)) - 1 ≡ suc (length bs) = omega arith in
    let p : suc (length bs) - 1 ≡ length bs = omega arith in
    rw q (last_some (d ∷ bs) (λ e. omega arith) ∙ rw p)

-- ---- the fields of the START line
module _ (line : List ℕ) (e : ℕ) (g : e ≡ part_end 9 line 0) where
  first : fields line ≡ take e line ∷ parts_from 9 line (e + 1)
  first =
      let q : e - 0 ≡ e = omega arith in
      let t : take e line ≡ before 9 line = rw q at (part_is 9 line 0 e g) in
      sym (parts-start 9 line) ∙ parts_at 9 line 0 (omega arith) ∙ rw (t, g)

  pub one_field : e ≡ length line → start_of line ≡ none
  one_field h = ap start_fields (first ∙ ap (λ (ps : List (List ℕ)). take e line ∷ ps) (parts_past 9 line (e + 1) (omega arith)))

  module _ (h : e + 1 ≤ length line) (f : ℕ) (k : f ≡ part_end 9 line (e + 1)) where
    second : fields line ≡ take e line ∷ (take (f - (e + 1)) (drop (e + 1) line) ∷ parts_from 9 line (f + 1))
    second = first ∙ ap (λ (ps : List (List ℕ)). take e line ∷ ps) (parts_at 9 line (e + 1) h ∙ rw (part_is 9 line (e + 1) f k, k))

    pub more_fields : f < length line → start_of line ≡ none
    more_fields m =
        ap start_fields (second ∙ ap (λ (ps : List (List ℕ)). take e line ∷ (take (f - (e + 1)) (drop (e + 1) line) ∷ ps)) (parts_at 9 line (f + 1) (omega arith)))

    pub two_fields : f ≡ length line
        → start_of line ≡ cond (equal (take e line) (bytes "START")) (start_as (number_of (take (length line - (e + 1)) (drop (e + 1) line)))) none
    two_fields m =
        ap start_fields (second ∙ ap (λ (ps : List (List ℕ)). take e line ∷ (take (f - (e + 1)) (drop (e + 1) line) ∷ ps)) (parts_past 9 line (f + 1) (omega arith)))
        ∙ ap (λ (n : ℕ). cond (equal (take e line) (bytes "START")) (start_as (number_of (take (n - (e + 1)) (drop (e + 1) line)))) none) m
