-- The table with the lines' numbers says on which line a target lands.
use Rattle.std.specs.Prelude.{ℕ, suc, ◌+◌, ◌*◌, ◌-◌, ◌/◌, ◌%◌, ◌≤◌, ◌<◌, ◌≡◌, refl, Bool, true, false, cond, List, [], ◌∷◌, map, eqb, length, get_or, set}
use Rattle.std.proofs.Common.{sym, ap, ◌∙◌, arith, length-set, get_or-set_same, get_or-set_other, le-leb, eq-eqb, ne_eqb}
use Rattle.std.proofs.Math.Option
use Rattle.std.proofs.Math.Option.{Option, none, some}
use Rattle.std.proofs.Math.Decide.{dec_le}
use Rattle.std.proofs.lemmas.Bool.{lt-leb}
use Rattle.read_spec.specs.Reading.{Reading, Read, Short, Nothing}
use Rattle.base_facts.specs.Tests.{Eq, same, other, eq?}
use Rattle.unsheet_spec.specs.Lines.{ReadLine, address_at, line_standing_at, landing}
use Rattle.unsheet_facts.specs.Lines.{Spaced}
use Rattle.unsheet_line.specs.Table.{as_line, number_at, lands_in}
use Rattle.unsheet_write.specs.SurveyLaws.{stored_there}
use Rattle.unsheet_write.specs.Survey.{surveyed_by, surveyed, stored_by, numbered}

module _ (start : ℕ) (table : List ℕ) (t : ℕ) where
  number-before : t < start → 0 ≡ number_at start table t
  number-before h = rw (lt-leb start t h)

  number_odd : start ≤ t → ((t - start) % 2 ≡ 0 → ⊥) → 0 ≡ number_at start table t
  number_odd h o = rw (le-leb start t h, ne_eqb ((t - start) % 2) 0 o)

  number_there : start ≤ t → (t - start) % 2 ≡ 0 → get_or table ((t - start) / 2) 0 ≡ number_at start table t
  number_there h e = rw (le-leb start t h, eq-eqb ((t - start) % 2) 0 e)

abbrev places : List ReadLine → List ℕ
places ls = map (λ l. l.place) ls

-- no line stands before the first
before : (ls : List ReadLine) (q k p : ℕ) → Spaced q ls → p < q → line_standing_at k (places ls) p ≡ none
before [] q k p s h = refl
before (l ∷ ls) q k p s h = rw (ne_eqb l.place p (λ e. omega (arith, s.0))) (before ls (q + s.1) (suc k) p s.4 (omega arith))

-- ---- the number that the table then holds at a place
module _ (p : ℕ) where
  next : (l : ReadLine) (ls : List ReadLine) (q k : ℕ) (t : List ℕ) → Spaced q (l ∷ ls) → l.place < length t
      → Option.get_or (line_standing_at (suc (suc k)) (places ls) p) (get_or (set t l.place (suc k)) p 0) ≡ Option.get_or (line_standing_at (suc k) (l.place ∷ places ls) p) (get_or t p 0)
  next l ls q k t s h = go (eq? l.place p)
    where
      go : Eq l.place p → Option.get_or (line_standing_at (suc (suc k)) (places ls) p) (get_or (set t l.place (suc k)) p 0) ≡ Option.get_or (line_standing_at (suc k) (l.place ∷ places ls) p) (get_or t p 0)
      go (same e b) =
          ap (λ (o : Option ℕ). Option.get_or o (get_or (set t l.place (suc k)) p 0)) (before ls (q + s.1) (suc (suc k)) p s.4 (omega (arith, s.0, s.2)))
          ∙ ap (λ (j : ℕ). get_or (set t l.place (suc k)) j 0) (sym e)
          ∙ get_or-set_same t l.place (suc k) 0 h
          ∙ ap (λ (c : Bool). Option.get_or (cond c (some (suc k)) (line_standing_at (suc (suc k)) (places ls) p)) (get_or t p 0)) (sym b)
      go (other n b) =
          ap (λ (x : ℕ). Option.get_or (line_standing_at (suc (suc k)) (places ls) p) x) (get_or-set_other t l.place p (suc k) 0 (λ e. n (sym e)))
          ∙ ap (λ (c : Bool). Option.get_or (cond c (some (suc k)) (line_standing_at (suc (suc k)) (places ls) p)) (get_or t p 0)) (sym b)

  held : (ls : List ReadLine) (q k : ℕ) (t : List ℕ) → Spaced q ls → (surveyed k ls).number ≡ 0 → k + length ls ≤ 4096 → q ≤ 13 * k → 53248 ≤ length t
      → get_or (numbered (suc k) ls t) p 0 ≡ Option.get_or (line_standing_at (suc k) (places ls) p) (get_or t p 0)
  held [] q k t s z few low wide = refl
  held (l ∷ ls) q k t s z few low wide =
      go l.reading refl
      (λ y there. held ls (q + s.1) (suc k) (set t l.place (suc k)) s.4 y (omega arith) (omega (arith, s.3)) (omega (arith, length-set t l.place (suc k))))
    where
      go : (r : Reading) → l.reading ≡ r
          → ((surveyed (suc k) ls).number ≡ 0 → l.place < length t → get_or (numbered (suc (suc k)) ls (set t l.place (suc k))) p 0 ≡ Option.get_or (line_standing_at (suc (suc k)) (places ls) p) (get_or (set t l.place (suc k)) p 0))
          → get_or (numbered (suc k) (l ∷ ls) t) p 0 ≡ Option.get_or (line_standing_at (suc k) (places (l ∷ ls)) p) (get_or t p 0)
      go (Read i n) e later =
          let there : l.place < length t = omega (arith, s.0) in
          let m : stored_by l.reading t l.place (suc k) ≡ set t l.place (suc k) =
          ap (λ (x : Reading). stored_by x t l.place (suc k)) e ∙ sym (stored_there t l.place (suc k) (omega arith) there) in
          ap (λ (u : List ℕ). get_or (numbered (suc (suc k)) ls u) p 0) m ∙ later (sym (ap (λ (x : Reading). (surveyed_by x l.place k (surveyed (suc k) ls)).number) e) ∙ z) there ∙ next l ls q k t s there
      go Short e later = absurd (omega (arith, sym (ap (λ (x : Reading). (surveyed_by x l.place k (surveyed (suc k) ls)).number) e) ∙ z))
      go Nothing e later = absurd (omega (arith, sym (ap (λ (x : Reading). (surveyed_by x l.place k (surveyed (suc k) ls)).number) e) ∙ z))

-- ---- by address
module _ (start : ℕ) where
  abbrev addresses : List ReadLine → List ℕ
  addresses ls = map (λ l. address_at start l.place) ls

  by_place : (ls : List ReadLine) (k p : ℕ) → line_standing_at k (places ls) p ≡ line_standing_at k (addresses ls) (address_at start p)
  by_place [] k p = refl
  by_place (l ∷ ls) k p = go (eq? l.place p) (by_place ls (suc k) p)
    where
      go : Eq l.place p → line_standing_at (suc k) (places ls) p ≡ line_standing_at (suc k) (addresses ls) (address_at start p) → line_standing_at k (places (l ∷ ls)) p ≡ line_standing_at k (addresses (l ∷ ls)) (address_at start p)
      go (same e b) later = rw (b, eq-eqb (address_at start l.place) (address_at start p) (omega (arith, e)))
      go (other n b) later = rw (b, ne_eqb (address_at start l.place) (address_at start p) (λ e. n (omega (arith, e)))) later

  nowhere : (ls : List ReadLine) (k t : ℕ) → ((p : ℕ) → address_at start p ≡ t → ⊥) → none ≡ line_standing_at k (addresses ls) t
  nowhere [] k t h = refl
  nowhere (l ∷ ls) k t h = rw (ne_eqb (address_at start l.place) t (h l.place)) (nowhere ls (suc k) t h)

  some_line : (later : List ℕ) (k t : ℕ) → as_line (Option.get_or (line_standing_at (suc k) later t) 0) ≡ line_standing_at (suc k) later t
  some_line [] k t = refl
  some_line (a ∷ later) k t = go (eqb a t) (some_line later (suc k) t)
    where
      go : (b : Bool) → as_line (Option.get_or (line_standing_at (suc (suc k)) later t) 0) ≡ line_standing_at (suc (suc k)) later t → as_line (Option.get_or (cond b (some (suc k)) (line_standing_at (suc (suc k)) later t)) 0) ≡ cond b (some (suc k)) (line_standing_at (suc (suc k)) later t)
      go true h = refl
      go false h = h

  module _ (ls : List ReadLine) (table : List ℕ) (s : Spaced 0 ls) (z : (surveyed 0 ls).number ≡ 0) (few : length ls ≤ 4096) (wide : 53248 ≤ length table)
      (zeros : (p : ℕ) → get_or table p 0 ≡ 0) where
    there : (t : ℕ) → start ≤ t → (t - start) % 2 ≡ 0 → lands_in start (numbered 1 ls table) t ≡ landing start ls t
    there t h e =
        let p = (t - start) / 2 in
        let a : address_at start p ≡ t = omega arith in
        ap as_line (sym (number_there start (numbered 1 ls table) t h e) ∙ held p ls 0 0 table s z (omega arith) (omega arith) wide
        ∙ ap (λ (x : ℕ). Option.get_or (line_standing_at 1 (places ls) p) x) (zeros p) ∙ ap (λ (o : Option ℕ). Option.get_or o 0) (by_place ls 1 p ∙ ap (line_standing_at 1 (addresses ls)) a))
        ∙ some_line (addresses ls) 0 t

    elsewhere : (t : ℕ) → 0 ≡ number_at start (numbered 1 ls table) t → ((p : ℕ) → address_at start p ≡ t → ⊥) → lands_in start (numbered 1 ls table) t ≡ landing start ls t
    elsewhere t e h = ap as_line (sym e) ∙ nowhere ls 1 t h

    at : (t : ℕ) → lands_in start (numbered 1 ls table) t ≡ landing start ls t
    at t = go (dec_le start t) (eq? ((t - start) % 2) 0)
      where
        go : Dec (start ≤ t) → Eq ((t - start) % 2) 0 → lands_in start (numbered 1 ls table) t ≡ landing start ls t
        go (yes h) (same e b) = there t h e
        go (yes h) (other n b) = elsewhere t (number_odd start (numbered 1 ls table) t h n) (λ p q. n (omega (arith, q)))
        go (no n) e = elsewhere t (number-before start (numbered 1 ls table) t (omega arith)) (λ p q. omega (arith, q))

    pub table_lands : lands_in start (numbered 1 ls table) ≡ landing start ls
    table_lands = λ i t. at t i
