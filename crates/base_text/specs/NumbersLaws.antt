-- Laws of the numbers of a line, a number at a time. Assumes nothing.
use Rattle.std.specs.Prelude.{◌≡◌, refl, Bool, true, false, cond, ◌&&◌, List, [], ◌∷◌, ◌++◌, map, ℕ, suc, ◌+◌, ◌-◌, ◌≤◌, ◌<◌, length, replicate, set, drop, take, leb, ltb}
use Rattle.std.proofs.Common.{sym, ap, ◌∙◌, append-nil, arith, length-append, le-leb, lt-ltb, le-ltb, ltb-true}
use Rattle.std.proofs.Math.Decide.{dec_le}
use Rattle.std.proofs.lemmas.List.{length-map, set_at}
use Rattle.std.proofs.Math.Seq.{append_snoc}
use Rattle.std.proofs.lemmas.Bool.{lt-leb}
use Rattle.base_text.specs.declared.LineNumbers.{LineNumbers}
use Rattle.base_text.specs.Parts.{part_end}
use Rattle.base_spec.specs.Parts.{fields}
use Rattle.base_text.specs.PartLaws.{parts_from, parts_at, parts-start, parts_past, part_is}
use Rattle.base_spec.specs.Number.{Number, Is, No, number_of}
use Rattle.base_text.specs.Numbers.{placed_number, with_number, negative_of, places, no_numbers, gathered, line_numbers}
use Rattle.base_spec.specs.Numbers.{is_number, magnitude_of, all_numbers}
use Rattle.base_facts.specs.Tests.{and-false, cond_true, cond_false}
use Rattle.base_facts.specs.Lists.{map_more}

all_more : (ns : List Number) (n : Number) → all_numbers (ns ++ (n ∷ [])) ≡ all_numbers ns && is_number n
all_more [] (Is s m) = refl
all_more [] No = refl
all_more (k ∷ ns) n = go (is_number k) (all_more ns n)
  where
    go : (t : Bool) → all_numbers (ns ++ (n ∷ [])) ≡ all_numbers ns && is_number n → t && all_numbers (ns ++ (n ∷ [])) ≡ t && all_numbers ns && is_number n
    go true e = e
    go false e = refl

module _ {A : Type 0} where
  places_more : (z : A) (l : List A) (k : ℕ) (a : A) → length l ≡ k → k < 24 → set (places z l) k a ≡ places z (l ++ (a ∷ []))
  places_more z l k a e h =
      let q : 24 - length l ≡ suc (24 - (k + 1)) = omega arith in
      let p : 24 - length (l ++ (a ∷ [])) ≡ 24 - (k + 1) = rw length-append (omega arith) in
      rw (q, p, set_at l z (replicate (24 - (k + 1)) z) a k e, append_snoc l a (replicate (24 - (k + 1)) z))

-- what a test leaves
abbrev numbers_if : Bool → List Number → LineNumbers
numbers_if t ns =
    cond t (record { ok = true; count = length ns; negative = places false (map negative_of ns); magnitude = places 0 (map magnitude_of ns) })
    no_numbers

refused : (ns : List Number) → all_numbers ns && leb (length ns) 24 ≡ false → gathered ns ≡ no_numbers
unfolding gathered
refused ns e = rw e

taken : (ns : List Number) → all_numbers ns && leb (length ns) 24 ≡ true → gathered ns ≡ numbers_if true ns
unfolding gathered
taken ns e = rw e

no_more : (s : Bool) (n : ℕ) → placed_number no_numbers s n ≡ no_numbers
unfolding placed_number no_numbers
no_more s n = refl

place : (ns : List Number) (s : Bool) (n : ℕ) → all_numbers ns ≡ true → length ns < 24 → placed_number (numbers_if true ns) s n ≡ numbers_if true (ns ++ (Is s n ∷ []))
unfolding placed_number
place ns s n a h =
    rw (
      lt-ltb (length ns) 24 h,
      map_more negative_of ns (Is s n),
      map_more magnitude_of ns (Is s n),
      length-append ns (Is s n ∷ []),
      places_more false (map negative_of ns) (length ns) s (length-map ns negative_of) h,
      places_more 0 (map magnitude_of ns) (length ns) n (length-map ns magnitude_of) h,
    )

full : (ns : List Number) (s : Bool) (n : ℕ) → 24 ≤ length ns → placed_number (numbers_if true ns) s n ≡ no_numbers
unfolding placed_number
full ns s n h = rw (le-ltb (length ns) 24 h)

module _ (ns : List Number) (s : Bool) (n : ℕ) where
  over : 24 ≤ length ns → gathered (ns ++ (Is s n ∷ [])) ≡ no_numbers
  over h =
      refused (ns ++ (Is s n ∷ []))
      (rw (length-append ns (Is s n ∷ []), lt-leb (length ns + 1) 24 (omega arith)) (and-false (all_numbers (ns ++ (Is s n ∷ [])))))

  more_is : (t : Bool) → all_numbers ns ≡ t → placed_number (gathered ns) s n ≡ gathered (ns ++ (Is s n ∷ []))
  more_is false a = rw (refused ns (rw a), refused (ns ++ (Is s n ∷ [])) (rw (all_more ns (Is s n), a))) (no_more s n)
  more_is true a = go (dec_le (suc (length ns)) 24) (dec_le (length ns) 24)
    where
      go : Dec (length ns < 24) → Dec (length ns ≤ 24) → placed_number (gathered ns) s n ≡ gathered (ns ++ (Is s n ∷ []))
      go (yes h) g =
          rw (
            taken ns (rw (a, le-leb (length ns) 24 (omega arith))),
            taken (ns ++ (Is s n ∷ [])) (rw (all_more ns (Is s n), a, length-append ns (Is s n ∷ []), le-leb (length ns + 1) 24 (omega arith))),
          )
          (place ns s n a h)
      go (no h) (yes g) = rw (taken ns (rw (a, le-leb (length ns) 24 g)), over (omega arith)) (full ns s n (omega arith))
      go (no h) (no g) = rw (refused ns (rw (a, lt-leb (length ns) 24 (omega arith))), over (omega arith)) (no_more s n)

pub gathered_more : (ns : List Number) (n : Number) → with_number (gathered ns) n ≡ gathered (ns ++ (n ∷ []))
gathered_more ns (Is s n) = more_is ns s n (all_numbers ns) refl
gathered_more ns No = sym (refused (ns ++ (No ∷ [])) (rw (all_more ns No, and-false (all_numbers ns))))

-- r and the numbers ns more
abbrev pub gathered_on : LineNumbers → List Number → LineNumbers
gathered_on r [] = r
gathered_on r (n ∷ ns) = gathered_on (with_number r n) ns

pub gathered_on_lem : (ps ns : List Number) → gathered_on (gathered ps) ns ≡ gathered (ps ++ ns)
gathered_on_lem ps [] = ap gathered (sym (append-nil ps))
gathered_on_lem ps (n ∷ ns) =
    ap (λ (r : LineNumbers). gathered_on r ns) (gathered_more ps n) ∙ gathered_on_lem (ps ++ (n ∷ [])) ns ∙ ap gathered (append_snoc ps n ns)

-- the numbers of the fields from `from` on
abbrev pub numbers_from : List ℕ → ℕ → List Number
numbers_from line from = map number_of (parts_from 9 line from)

-- before any number
abbrev pub start : LineNumbers
start = record { ok = true; count = 0; negative = replicate 24 false; magnitude = replicate 24 0 }

pub numbers_start : (line : List ℕ) → line_numbers line ≡ gathered_on start (numbers_from line 0)
unfolding gathered
numbers_start line = rw (parts-start 9 line) (sym (gathered_on_lem [] (map number_of (fields line))))

pub numbers_on : (line : List ℕ) (from e : ℕ) (r : LineNumbers) → from ≤ length line → e ≡ part_end 9 line from
    → gathered_on r (numbers_from line from) ≡ gathered_on (with_number r (number_of (take (e - from) (drop from line)))) (numbers_from line (e + 1))
numbers_on line from e r h g = rw (parts_at 9 line from h, part_is 9 line from e g, g)

pub numbers_end : (line : List ℕ) (from : ℕ) (r : LineNumbers) → length line < from → gathered_on r (numbers_from line from) ≡ r
numbers_end line from r h = rw (parts_past 9 line from h)

-- by the test whether there is room
pub room : (t : Bool) (k : ℕ) → t && ltb k 24 ≡ true → k < 24
room true k e = ltb-true k 24 e
room false k e = let z : ◌≡◌ {A = ℕ} 0 1 = cc in absurd (omega arith)

pub placed_number_lem : (r : LineNumbers) (s : Bool) (n : ℕ) → r.ok && ltb r.count 24 ≡ true
    → record { ok = r.ok; count = r.count + 1; negative = set r.negative r.count s; magnitude = set r.magnitude r.count n } ≡ placed_number r s n
unfolding placed_number
placed_number_lem r s n e = sym (cond_true (r.ok && ltb r.count 24) _ _ e)

pub no_room : (r : LineNumbers) (s : Bool) (n : ℕ) → r.ok && ltb r.count 24 ≡ false → placed_number r s n ≡ no_numbers
unfolding placed_number
no_room r s n e = cond_false (r.ok && ltb r.count 24) _ _ e
