-- Laws of the parts of a text, a byte or a part at a time. Assumes nothing.
use Rattle.std.specs.Prelude.{◌≡◌, refl, List, [], ◌∷◌, Bool, true, false, cond, ◌||◌, ℕ, zero, suc, ◌+◌, ◌-◌, ◌≤◌, ◌<◌, length, drop, take, get_or, leb, eqb}
use Rattle.std.proofs.Common.{ap, ◌∙◌, arith, add-one, drop_of_length-le, length-drop, drop-drop, drop-cons, le-leb, eq-eqb, ne_eqb}
use Rattle.std.proofs.Math.Decide.{dec_le}
use Rattle.std.proofs.Math.Dec.{leb-suc-suc}
use Rattle.std.proofs.lemmas.Bool.{lt-leb, eqb-false}
use Rattle.base_text.specs.Parts.{before, part_end}
use Rattle.base_spec.specs.Parts.{onto, parts}

or_left : (a b : Bool) → (a || b) ≡ false → a ≡ false
or_left true b e = e
or_left false b e = refl

or_right : (a b : Bool) → (a || b) ≡ false → b ≡ false
or_right true true e = e
or_right true false e = refl
or_right false b e = e

module _ (stop : ℕ) where
  module _ (s : List ℕ) (i : ℕ) (h : i < length s) where
    pub before_more : (get_or s i 0 ≡ stop → ⊥) → before stop (drop i s) ≡ get_or s i 0 ∷ before stop (drop (i + 1) s)
    before_more e = rw (add-one, drop-cons s i 0 h, ne_eqb (get_or s i 0) stop e)

    pub before_stop : get_or s i 0 ≡ stop → before stop (drop i s) ≡ []
    before_stop e = rw (drop-cons s i 0 h, eq-eqb (get_or s i 0) stop e)

    part_more : eqb (get_or s i 0) stop ≡ false → part_end stop s i ≡ part_end stop s (i + 1)
    part_more e = omega (arith, ap length (before_more (eqb-false (get_or s i 0) stop e)))

  pub before_end : (s : List ℕ) (i : ℕ) → length s ≤ i → before stop (drop i s) ≡ []
  before_end s i h = rw (drop_of_length-le s h)

  module _ (s : List ℕ) (i : ℕ) where
    -- whether one of these bytes is a stop: byte i and k more
    abbrev stop_among : ℕ → Bool
    stop_among zero = eqb (get_or s i 0) stop
    stop_among (suc k) = stop_among k || eqb (get_or s (i + suc k) 0) stop

    -- a part does not end among bytes that are no stop
    pub none-among : (k : ℕ) → i + k < length s → stop_among k ≡ false → part_end stop s i ≡ part_end stop s (i + suc k)
    none-among zero h e = part_more s i (omega arith) e
    none-among (suc k) h e =
        let q : i + suc k + 1 ≡ i + suc (suc k) = omega arith in
        none-among k (omega arith) (or_left (stop_among k) (eqb (get_or s (i + suc k) 0) stop) e)
        ∙ part_more s (i + suc k) (omega arith) (or_right (stop_among k) (eqb (get_or s (i + suc k) 0) stop) e)
        ∙ ap (part_end stop s) q

  pub take_before : (l : List ℕ) → take (length (before stop l)) l ≡ before stop l
  take_before [] = refl
  take_before (b ∷ bs) = go (eqb b stop) (take_before bs)
    where
      go : (t : Bool) → take (length (before stop bs)) bs ≡ before stop bs
          → take (length (cond t [] (b ∷ before stop bs))) (b ∷ bs) ≡ cond t [] (b ∷ before stop bs)
      go true e = refl
      go false e = ap (λ (x : List ℕ). b ∷ x) e

  -- the part that begins at `from` is what stands before the next stop
  pub part_is : (s : List ℕ) (from e : ℕ) → e ≡ part_end stop s from → take (e - from) (drop from s) ≡ before stop (drop from s)
  part_is s from e g =
      let d : e - from ≡ length (before stop (drop from s)) = omega arith in
      rw d (take_before (drop from s))

  -- the parts from i on; none past the end
  abbrev pub parts_from : List ℕ → ℕ → List (List ℕ)
  parts_from l i = cond (leb i (length l)) (parts stop (drop i l)) []

  pub parts_first : (l : List ℕ) → parts stop l ≡ before stop l ∷ parts_from l (suc (length (before stop l)))
  parts_first [] = refl
  parts_first (b ∷ bs) = go (eqb b stop) (parts_first bs)
    where
      go : (t : Bool) → parts stop bs ≡ before stop bs ∷ parts_from bs (suc (length (before stop bs)))
          → cond t ([] ∷ parts stop bs) (onto b (parts stop bs))
          ≡ cond t [] (b ∷ before stop bs) ∷ parts_from (b ∷ bs) (suc (length (cond t [] (b ∷ before stop bs))))
      go true e = rw (le-leb 1 (suc (length bs)) (omega arith))
      go false e = rw (e, leb-suc-suc (suc (length (before stop bs))) (length bs))

  -- the parts from i on: the one that begins there, and those past its end
  pub parts_at : (l : List ℕ) (i : ℕ) → i ≤ length l → parts_from l i ≡ before stop (drop i l) ∷ parts_from l (part_end stop l i + 1)
  parts_at l i h = rw (le-leb i (length l) h, parts_first (drop i l), on) refl
    where
      n : ℕ
      n = length (before stop (drop i l))

      tests : leb (suc n) (length (drop i l)) ≡ leb (i + n + 1) (length l)
      tests = go (dec_le (suc n) (length l - i))
        where
          go : Dec (suc n ≤ length l - i) → leb (suc n) (length (drop i l)) ≡ leb (i + n + 1) (length l)
          go (yes d) = rw (length-drop, le-leb (suc n) (length l - i) d, le-leb (i + n + 1) (length l) (omega arith))
          go (no d) = rw (length-drop, lt-leb (suc n) (length l - i) (omega arith), lt-leb (i + n + 1) (length l) (omega arith))

      on : parts_from (drop i l) (suc n) ≡ parts_from l (i + n + 1)
      on = let q : i + suc n ≡ i + n + 1 = omega arith in rw (tests, drop-drop (suc n) i l, q)

  pub parts-start : (l : List ℕ) → parts_from l 0 ≡ parts stop l
  parts-start l = rw (le-leb 0 (length l) (omega arith))

  pub parts_past : (l : List ℕ) (i : ℕ) → length l < i → parts_from l i ≡ []
  parts_past l i h = rw (lt-leb i (length l) h)
