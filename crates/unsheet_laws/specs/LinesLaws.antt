-- The lines of an image are what follows one another from its first word on, each read at its place, up to its end. Assumes nothing.
use Rattle.std.specs.Prelude.{ℕ, zero, suc, pred, ◌+◌, ◌/◌, ◌≤◌, ◌≡◌, List, [], ◌∷◌, length, drop}
use Rattle.std.proofs.Math.Path.{refl}
use Rattle.std.proofs.Common.{sym, ap, ◌∙◌, subst, arith, drop-drop}
use Rattle.std.proofs.Math.Seq.{drop-length}
use Rattle.read_spec.specs.Reading.{Reading, Read, Short, Nothing}
use Rattle.read_spec.specs.Read.{read_of}
use Rattle.sheet_spec.specs.Translate.{in_order, and_then, in_turn}
use Rattle.sheet_facts.specs.Listing.{refused_not}
use Rattle.unsheet_spec.specs.Lines.{ReadLine, address_at, reading_then, lines_from, lines_in}
use Rattle.unsheet_spec.specs.Unsheet.{reading_outcome, along_lines}
use Rattle.unsheet_spec.specs.Promises.{Successive}
use Rattle.read_facts.specs.Length.{read_words}
use Rattle.unsheet_facts.specs.Lines.{lines_past}

-- ---- what is read without refusal is successive
abbrev Along : List ReadLine → ℕ → Type 0
Along ls j = in_turn (λ k l. reading_outcome l.place l.reading) j ls ≡ in_order

drop_next : (v : List ℕ) (p w : ℕ) (ws : List ℕ) → drop p v ≡ w ∷ ws → drop (suc p) v ≡ ws
drop_next v p w ws e = let q : suc p ≡ p + 1 = omega arith in ap (λ (n : ℕ). drop n v) q ∙ sym (drop-drop 1 p v) ∙ ap (drop 1) e

module _ (start : ℕ) (v : List ℕ) where
  successive : (p k : ℕ) (ws : List ℕ) → drop p v ≡ ws → p + length ws ≡ length v → k ≤ length ws → (j : ℕ) → Along (lines_from start p k ws) j → Successive start v (p + k) (lines_from start p k ws)
  successive p k [] d n h j e = omega arith
  successive p (suc k) (w ∷ ws) d n h j e =
      let q : suc p + k ≡ p + suc k = omega arith in
      subst (λ (m : ℕ). Successive start v m (lines_from start (suc p) k ws)) q (successive (suc p) k ws (drop_next v p w ws d) (omega arith) (omega arith) j e)
  successive p zero (w ∷ ws) d n h j e = go (λ k. successive (suc p) k ws (drop_next v p w ws d) (omega arith)) (read_of (w ∷ ws) (address_at start p)) refl e
    where
      z : p ≡ p + 0
      z = omega arith

      go : ((k : ℕ) → k ≤ length ws → (j : ℕ) → Along (lines_from start (suc p) k ws) j → Successive start v (suc p + k) (lines_from start (suc p) k ws))
          → (r : Reading) → read_of (w ∷ ws) (address_at start p) ≡ r
          → Along (record { place = p; reading = r } ∷ reading_then r (λ taken. lines_from start (suc p) taken ws)) j
          → Successive start v (p + 0) (record { place = p; reading = r } ∷ reading_then r (λ taken. lines_from start (suc p) taken ws))
      go next (Read i m) f e =
          let l = read_words (w ∷ ws) (address_at start p) i m f in
          let q : suc p + pred (m / 2) ≡ p + 0 + m / 2 = omega (arith, l.some) in
          (i, m, ap (λ (x : ℕ). record { place = x; reading = Read i m }) z, subst (λ (x : ℕ). read_of (drop x v) (address_at start x) ≡ Read i m) z (ap (λ (us : List ℕ). read_of us (address_at start p)) d ∙ f), subst (λ (x : ℕ). Successive start v x (lines_from start (suc p) (pred (m / 2)) ws)) q (next (pred (m / 2)) (omega (arith, l.there)) (suc j) e))
      go next Short f e = refused_not e
      go next Nothing f e = refused_not e

  -- ---- and the other way round: what is successive is the lines, read without refusal
  lines_are : (p : ℕ) (ls : List ReadLine) → Successive start v p ls → ls ≡ lines_from start p 0 (drop p v)
  lines_are p [] h = ap (λ (us : List ℕ). lines_from start p 0 us) (sym (ap (λ (n : ℕ). drop n v) h ∙ drop-length v))
  lines_are p (l ∷ ls) (i, n, e, f, c) = go (lines_are (p + n / 2) ls c) (drop p v) refl f
    where
      go : ls ≡ lines_from start (p + n / 2) 0 (drop (p + n / 2) v) → (us : List ℕ) → drop p v ≡ us → read_of us (address_at start p) ≡ Read i n → l ∷ ls ≡ lines_from start p 0 us
      go next [] d f = let b = read_words [] (address_at start p) i n f in absurd (omega (arith, b.some, b.there))
      go next (w ∷ ws) d f =
          let b = read_words (w ∷ ws) (address_at start p) i n f in
          let q : p + n / 2 ≡ suc p + pred (n / 2) = omega (arith, b.some) in
          let x : drop (p + n / 2) v ≡ drop (pred (n / 2)) ws = ap (λ (m : ℕ). drop m v) q ∙ sym (drop-drop (pred (n / 2)) (suc p) v) ∙ ap (drop (pred (n / 2))) (drop_next v p w ws d) in
          let y : ls ≡ lines_from start (suc p) (pred (n / 2)) ws = next ∙ (λ t. lines_from start (q t) 0 (x t)) ∙ sym (lines_past start (suc p) (pred (n / 2)) ws) in
          (λ t. e t ∷ y t)
          ∙ ap (λ (r : Reading). record { place = p; reading = r } ∷ reading_then r (λ taken. lines_from start (suc p) taken ws)) (sym f)

  lines-read : (p : ℕ) (ls : List ReadLine) (j : ℕ) → Successive start v p ls → Along ls j
  lines-read p [] j h = refl
  lines-read p (l ∷ ls) j (i, n, e, f, c) = ap (λ (x : ReadLine). and_then (reading_outcome x.place x.reading) (in_turn (λ k l. reading_outcome l.place l.reading) (suc j) ls)) e ∙ lines-read (p + n / 2) ls (suc j) c

  pub read_successive : along_lines reading_outcome (lines_in start v) ≡ in_order → Successive start v 0 (lines_in start v)
  unfolding lines_in
  read_successive e = successive 0 0 v refl (omega arith) (omega arith) 1 e

  pub successive_read : (ls : List ReadLine) → Successive start v 0 ls → (ls ≡ lines_in start v) × (along_lines reading_outcome ls ≡ in_order)
  unfolding lines_in
  successive_read ls c = (lines_are 0 ls c, lines-read 0 ls 1 c)
