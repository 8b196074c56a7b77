-- Laws of blocks: what their places hold, and the address of a line from its block's place. Assumes nothing.
use Rattle.std.specs.Prelude.{◌≡◌, ℕ, zero, suc, ◌+◌, ◌-◌, ◌*◌, ◌/◌, ◌%◌, ◌^◌, ◌<◌, ◌≤◌, Bool, true, false, cond, List, [], ◌∷◌, map, length, take, drop, ◌==◌, slice_index, refl}
use Rattle.std.proofs.Common.{sym, ap, ◌∙◌, arith, length-drop, eq-eqb}
use Rattle.std.proofs.Math.ListN.{get_or-eq_default}
use Rattle.std.proofs.Math.Seq.{take-nil, drop-nil}
use Rattle.base_text.specs.Parts.{part_end}
use Rattle.sheet_spec.specs.Line.{Parsed}
use Rattle.sheet_spec.specs.Sheet.{sized_of, sizes_of, half_of, Sheet, sheet_in, line_count, counts, total, addresses_from, addresses}
use Rattle.sheet_spec.specs.Translate.{in_order, sparse, in_turn, size_outcome, firsts_from}
use Rattle.sheet_facts.specs.Listing.{both_in_order, in_order_zero}
use Rattle.sheet_size_facts.specs.Scratch.{firsts_length, firsts_at, map_firsts}
use Rattle.sheet_size_facts.specs.Outcomes as outcomes
use Rattle.sheet_size_facts.specs.Bounds.{address_is}
use Rattle.sheet_passes.specs.Passes.{parsed_at}
use Rattle.sheet_passes.specs.PassLaws.{sized_least}
use Rattle.sheet_passes.specs.Walks.{lines-inside, parsed_next}
use Rattle.sheet_labels.specs.Labels as labels
use Rattle.sheet_blocks.specs.Blocks.{block_place, line_places, blocks_from, address_held, BlockAt, Blocks}

-- ---- lists
pub map_drop : {A B : Type 0} (f : A → B) (n : ℕ) (l : List A) → map f (drop n l) ≡ drop n (map f l)
map_drop f zero l = refl
map_drop f (suc n) [] = refl
map_drop f (suc n) (x ∷ l) = map_drop f n l

total_split : (cs : List ℕ) (a b : ℕ) → total (take (a + b) cs) ≡ total (take a cs) + total (take b (drop a cs))
total_split [] a b = rw (take-nil (a + b), take-nil a, drop-nil a, take-nil b)
total_split (c ∷ cs) zero b = let e : 0 + b ≡ b = omega arith in rw e (omega arith)
total_split (c ∷ cs) (suc a) b = let e : suc a + b ≡ suc (a + b) = omega arith in rw e (omega (arith, total_split cs a b))

-- ---- the places that the sizes leave
module _ (text : List ℕ) (n : ℕ) where
  abbrev halves : List Parsed → List ℕ
  halves ps = map half_of (map (sized_of n) ps)

  rest_is : (next : ℕ) (p : Parsed) (ps : List Parsed) → parsed_at text next ≡ p ∷ ps → parsed_at text (part_end 10 text next + 1) ≡ ps
  rest_is next p ps e = ap (drop 1) (sym (parsed_next text next (part_end 10 text next) (lines-inside text next (omega (arith, ap length e))) refl) ∙ e)

  first_fine : (k : ℕ) (p : Parsed) (ps : List Parsed) → in_turn size_outcome k (map (sized_of n) (p ∷ ps)) ≡ in_order
      → ((sized_of n p).number ≡ 0) × (in_turn size_outcome (suc k) (map (sized_of n) ps) ≡ in_order)
  first_fine k p ps o =
      let m = sized_of n p in
      let f = both_in_order (size_outcome k m) (in_turn size_outcome (suc k) (map (sized_of n) ps)) o in
      (in_order_zero k m.number m.detail m.value f.0, f.1)

  -- the place of the line j lines on
  pub record From (words : ℕ) (ps : List Parsed) (j place : ℕ) : Type 0 where
    pub lines : parsed_at text (place / 65536) ≡ drop j ps
    pub words_are : place % 65536 ≡ words + total (take j (halves ps))

  places-from : (k : ℕ) (ps : List Parsed) (next words : ℕ) → parsed_at text next ≡ ps → in_turn size_outcome k (map (sized_of n) ps) ≡ in_order → words + total (halves ps) ≤ 65535
      → (j : ℕ) → j < length ps → From words ps j (slice_index (line_places text n next words ps) j)
  places-from k [] next words e o few j h = absurd (omega arith)
  places-from k (p ∷ ps) next words e o few zero h =
      let q : block_place next words / 65536 ≡ next = omega arith in
      rw (eq-eqb (sized_of n p).number 0 (first_fine k p ps o).0) (record { lines = rw q e; words_are = omega arith })
  places-from k (p ∷ ps) next words e o few (suc j) h =
      let m = first_fine k p ps o in
      let f = places-from (suc k) ps (part_end 10 text next + 1) (words + half_of (sized_of n p)) (rest_is next p ps e) m.1 (omega arith) j (omega arith) in
      rw (eq-eqb (sized_of n p).number 0 m.0) (record { lines = f.lines; words_are = omega (arith, f.words_are) })

  -- as many as there are lines, and no more where one is refused
  places_length : (k : ℕ) (ps : List Parsed) (next words : ℕ) → in_turn size_outcome k (map (sized_of n) ps) ≡ in_order → length (line_places text n next words ps) ≡ length ps
  places_length k [] next words o = refl
  places_length k (p ∷ ps) next words o =
      let m = first_fine k p ps o in
      rw (eq-eqb (sized_of n p).number 0 m.0) (ap suc (places_length (suc k) ps (part_end 10 text next + 1) (words + half_of (sized_of n p)) m.1))

  places-most : (ps : List Parsed) (next words : ℕ) → length (line_places text n next words ps) ≤ length ps
  places-most [] next words = omega arith
  places-most (p ∷ ps) next words = go ((sized_of n p).number == 0) (places-most ps (part_end 10 text next + 1) (words + half_of (sized_of n p)))
    where
      go : (t : Bool) → length (line_places text n (part_end 10 text next + 1) (words + half_of (sized_of n p)) ps) ≤ length ps
          → length (cond t (block_place next words ∷ line_places text n (part_end 10 text next + 1) (words + half_of (sized_of n p)) ps) []) ≤ suc (length ps)
      go true h = omega arith
      go false h = omega arith

  -- the addresses that they stand for
  places-addresses : (start k : ℕ) (ps : List Parsed) (next words : ℕ) → in_turn size_outcome k (map (sized_of n) ps) ≡ in_order → words + total (halves ps) ≤ 65535
      → start + 2 * (words + total (halves ps)) ≤ 2 ^ 32 → map (address_held start) (line_places text n next words ps) ≡ addresses_from (start + 2 * words) (halves ps)
  places-addresses start k [] next words o few ends = refl
  places-addresses start k (p ∷ ps) next words o few ends =
      let m = first_fine k p ps o in
      let far : start + 2 * words + 2 * half_of (sized_of n p) ≡ start + 2 * (words + half_of (sized_of n p)) = omega arith in
      let low : block_place next words % 65536 ≡ words = omega arith in
      let here : address_held start (block_place next words) ≡ start + 2 * words = rw low (omega (arith, sized_least n p m.0)) in
      let rest = places-addresses start (suc k) ps (part_end 10 text next + 1) (words + half_of (sized_of n p)) m.1 (omega arith) (omega arith) in
      rw (eq-eqb (sized_of n p).number 0 m.0, far) (λ i. here i ∷ rest i)

  -- ---- the same of blocks
  module _ (from : ℕ) (ps : List Parsed) where
    pub blocks_most : length (blocks_from text n 0 from 0 ps) ≤ sparse.needed (length ps)
    blocks_most = omega (arith, firsts_length 0 (line_places text n from 0 ps), places-most ps from 0)

    module _ (o : in_turn size_outcome 1 (map (sized_of n) ps) ≡ in_order) where
      pub blocks_length : length (blocks_from text n 0 from 0 ps) ≡ sparse.needed (length ps)
      blocks_length = omega (arith, firsts_length 0 (line_places text n from 0 ps), places_length 1 ps from 0 o)

      module _ (few : total (halves ps) ≤ 65535) where
        pub blocks_from_lem : parsed_at text from ≡ ps → (b : ℕ) → 64 * b < length ps → From 0 ps (64 * b) (slice_index (blocks_from text n 0 from 0 ps) b)
        blocks_from_lem e b h =
            rw (firsts_at (line_places text n from 0 ps) b (omega (arith, places_length 1 ps from 0 o))) (places-from 1 ps from 0 e o (omega arith) (64 * b) h)

        pub blocks_addresses : (start : ℕ) → start + 2 * total (halves ps) ≤ 2 ^ 32 → map (address_held start) (blocks_from text n 0 from 0 ps) ≡ firsts_from 0 (addresses_from start (halves ps))
        blocks_addresses start ends =
            let zero : start + 2 * 0 ≡ start = omega arith in
            map_firsts (address_held start) 0 (line_places text n from 0 ps)
            ∙ ap (firsts_from 0) (places-addresses start 1 ps from 0 o (omega arith) (omega arith) ∙ ap (λ (a : ℕ). addresses_from a (halves ps)) zero)

-- ---- a line's address
module _ (text : List ℕ) where
  abbrev S : Sheet
  S = sheet_in text

  counts-from : (lines k place : ℕ) → lines ≡ line_count S → BlockAt text k place → map half_of (map (sized_of lines) (parsed_at text (place / 65536))) ≡ drop k (counts S)
  counts-from lines k place e a = rw (e, a.lines, map_drop (sized_of (line_count S)) k S.lines) (map_drop half_of k (sizes_of S.lines))

  pub few_addresses : {lines start : ℕ} {places : List ℕ} → Blocks text lines start places → length (addresses S) ≤ 4096
  few_addresses z = omega (arith, z.counted, z.few, outcomes.places_length S)

  pub address_none : {lines start : ℕ} {places : List ℕ} → Blocks text lines start places → (k : ℕ) → lines < k → 0 ≡ labels.address_in (addresses S) k
  address_none z k h = sym (get_or-eq_default (0 ∷ addresses S) 0 {n = k} (omega (arith, z.counted, outcomes.places_length S)))

  module _ {lines start : ℕ} {places : List ℕ} (z : Blocks text lines start places) (k : ℕ) (h : 1 ≤ k) (g : k ≤ lines) where
    abbrev place : ℕ
    place = slice_index places ((k - 1) / 64)

    here : BlockAt text (64 * ((k - 1) / 64)) place
    here = z.at ((k - 1) / 64) (omega arith)

    pub inside : (k - 1) / 64 < length places
    inside = omega (arith, z.enough)

    pub lines_left : (k - 1) % 64 ≤ length (parsed_at text (place / 65536))
    lines_left = rw here.lines (rw (length-drop (64 * ((k - 1) / 64)) S.lines) (omega (arith, z.counted)))

    pub address_found : (words : ℕ) → words ≡ total (take ((k - 1) % 64) (map half_of (map (sized_of lines) (parsed_at text (place / 65536)))))
        → start + 2 * (place % 65536 + words) ≡ labels.address_in (addresses S) k
    address_found words e =
        let i : 64 * ((k - 1) / 64) + (k - 1) % 64 ≡ k - 1 = omega arith in
        let w : words ≡ total (take ((k - 1) % 64) (drop (64 * ((k - 1) / 64)) (counts S))) = e ∙ ap (λ (cs : List ℕ). total (take ((k - 1) % 64) cs)) (counts-from lines (64 * ((k - 1) / 64)) place z.counted here) in
        let s : total (take (k - 1) (counts S)) ≡ place % 65536 + words = ap (λ (n : ℕ). total (take n (counts S))) (sym i) ∙ total_split (counts S) (64 * ((k - 1) / 64)) ((k - 1) % 64) ∙ rw (here.words, w) in
        go k h g s
      where
        go : (k : ℕ) → 1 ≤ k → k ≤ lines → {a : ℕ} → total (take (k - 1) (counts S)) ≡ a → start + 2 * a ≡ labels.address_in (addresses S) k
        go zero h g s = absurd (omega arith)
        go (suc k) h g s =
            let one : suc k - 1 ≡ k = omega arith in
            omega (arith, z.started, address_is S (suc k) (omega arith) (omega (arith, z.counted)), rw one at s)
