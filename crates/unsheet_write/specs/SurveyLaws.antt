-- Laws of the passes: from a line to the next, and where they stop.
use Rattle.std.specs.Prelude.{ℕ, suc, ◌+◌, ◌/◌, ◌≤◌, ◌<◌, ◌≡◌, Bool, true, false, cond, ◌&&◌, List, [], ◌∷◌, leb, ltb, length, drop, set}
use Rattle.std.proofs.Math.Path.{refl}
use Rattle.std.proofs.Common.{sym, ap, ◌∙◌, arith, le-leb, lt-ltb, le-ltb, length-drop, length-set}
use Rattle.std.proofs.Math.Option.{Option}
use Rattle.std.proofs.lemmas.Bool.{lt-leb}
use Rattle.read_spec.specs.Reading.{Reading, Read, Short, Nothing}
use Rattle.read_spec.specs.Read.{read_of}
use Rattle.read_facts.specs.Length.{read_words}
use Rattle.unsheet_spec.specs.Lines.{ReadLine, address_at, lines_in}
use Rattle.unsheet_facts.specs.Lines.{lines_at, lines_after, lines_next, lines_end}
use Rattle.unsheet_write.specs.declared.Taken.{Taken}
use Rattle.unsheet_write.specs.declared.Surveyed.{Surveyed}
use Rattle.unsheet_write.specs.Survey.{taken_by, surveyed_by, surveyed, stored, stored_by, numbered, lands_by, astray}

pub stored_there : (t : List ℕ) (place k : ℕ) → k ≤ 4096 → place < length t → set t place k ≡ stored t place k
stored_there t place k h g = rw (le-leb k 4096 h, lt-ltb place (length t) g)

pub stored_past : (t : List ℕ) (place k : ℕ) → k ≤ 4096 → length t ≤ place → t ≡ stored t place k
stored_past t place k h g = rw (le-leb k 4096 h, le-ltb place (length t) g)

pub stored-over : (t : List ℕ) (place k : ℕ) → 4096 < k → t ≡ stored t place k
stored-over t place k h = rw (lt-leb k 4096 h)

stored_length : (t : List ℕ) (place k : ℕ) → length (stored t place k) ≡ length t
stored_length t place k = go (leb k 4096 && ltb place (length t))
  where
    go : (b : Bool) → length (cond b (set t place k) t) ≡ length t
    go true = length-set t place k
    go false = refl

module _ (start : ℕ) (image : List ℕ) where
  pub lines-all : lines_in start image ≡ lines_at start image 0
  unfolding lines_in
  lines-all = refl

  module _ (place : ℕ) (h : place < length image) (r : Reading) (e : r ≡ read_of (drop place image) (address_at start place)) where
    pub at_line : lines_at start image place ≡ record { place = place; reading = r } ∷ lines_after start image place r
    at_line = lines_next start image place h r (sym e)

    -- a line that reads
    pub record Goes : Type 0 where
      pub some : 1 ≤ (taken_by r).words
      pub there : place + (taken_by r).words ≤ length image
      pub later : lines_after start image place r ≡ lines_at start image (place + (taken_by r).words)
      pub surveys : (k : ℕ) → surveyed k (lines_at start image place) ≡ surveyed (suc k) (lines_at start image (place + (taken_by r).words))
      pub numbers : (k : ℕ) (t : List ℕ) → numbered k (lines_at start image place) t ≡ numbered (suc k) (lines_at start image (place + (taken_by r).words)) (stored t place k)

    goes_by : (x : Reading) → r ≡ x → (taken_by x).number ≡ 0 → Goes
    goes_by (Read i n) q z =
        let c = read_words (drop place image) (address_at start place) i n (sym e ∙ q) in
        let w : (taken_by r).words ≡ n / 2 = ap (λ (x : Reading). (taken_by x).words) q in
        let l : lines_after start image place r ≡ lines_at start image (place + (taken_by r).words) =
        ap (lines_after start image place) q ∙ ap (λ (m : ℕ). lines_at start image (place + m)) (sym w) in
        record {
          some = omega (arith, w, c.some);
          there = omega (arith, w, c.there, length-drop place image);
          later = l;
          surveys = λ k. ap (surveyed k) at_line ∙ ap (λ (x : Reading). surveyed_by x place k (surveyed (suc k) (lines_after start image place r))) q ∙ ap (surveyed (suc k)) l;
          numbers = λ k t. ap (λ (ls : List ReadLine). numbered k ls t) at_line ∙ ap (λ (x : Reading). numbered (suc k) (lines_after start image place r) (stored_by x t place k)) q
              ∙ ap (λ (ls : List ReadLine). numbered (suc k) ls (stored t place k)) l;
        }
    goes_by Short q z = absurd (omega arith)
    goes_by Nothing q z = absurd (omega arith)

    pub goes : (taken_by r).number ≡ 0 → Goes
    goes z = goes_by r refl z

    -- one that does not
    pub record Stops : Type 0 where
      pub surveys : (k : ℕ) → surveyed k (lines_at start image place) ≡ record { lines = k; number = (taken_by r).number; place = place }
      pub numbers : (k : ℕ) (t : List ℕ) → numbered k (lines_at start image place) t ≡ t
      pub alone : lines_after start image place r ≡ []

    stops_by : (x : Reading) → r ≡ x → ((taken_by x).number ≡ 0 → ⊥) → Stops
    stops_by (Read i n) q z = absurd (z refl)
    stops_by Short q z =
        record {
          surveys = λ k. ap (surveyed k) at_line ∙ ap (λ (x : Reading). surveyed_by x place k (surveyed (suc k) (lines_after start image place r))) q ∙ ap (λ (x : Reading). record { lines = k; number = (taken_by x).number; place = place }) (sym q);
          numbers = λ k t. ap (λ (ls : List ReadLine). numbered k ls t) at_line ∙ ap (λ (x : Reading). numbered (suc k) (lines_after start image place x) (stored_by x t place k)) q;
          alone = ap (lines_after start image place) q;
        }
    stops_by Nothing q z =
        record {
          surveys = λ k. ap (surveyed k) at_line ∙ ap (λ (x : Reading). surveyed_by x place k (surveyed (suc k) (lines_after start image place r))) q ∙ ap (λ (x : Reading). record { lines = k; number = (taken_by x).number; place = place }) (sym q);
          numbers = λ k t. ap (λ (ls : List ReadLine). numbered k ls t) at_line ∙ ap (λ (x : Reading). numbered (suc k) (lines_after start image place x) (stored_by x t place k)) q;
          alone = ap (lines_after start image place) q;
        }

    pub stops : ((taken_by r).number ≡ 0 → ⊥) → Stops
    stops z = stops_by r refl z

    -- a branch that lands, and one that does not
    pub lands_on : (lands : ℕ → Option ℕ) (end : ℕ) → lands_by lands r ≡ true → astray lands end (lines_at start image place) ≡ astray lands end (lines_after start image place r)
    lands_on lands end q = ap (astray lands end) at_line ∙ ap (λ (b : Bool). cond b (astray lands end (lines_after start image place r)) place) q

    pub lands_not : (lands : ℕ → Option ℕ) (end : ℕ) → lands_by lands r ≡ false → astray lands end (lines_at start image place) ≡ place
    lands_not lands end q = ap (astray lands end) at_line ∙ ap (λ (b : Bool). cond b (astray lands end (lines_after start image place r)) place) q

-- ---- the first pass, come to a place: so many lines before it, and the table with their numbers
module _ (start : ℕ) (image table₀ : List ℕ) where
  pub record Surveying (place count : ℕ) (table : List ℕ) : Type 0 where
    pub there : place ≤ length image
    pub fewer : count ≤ place
    pub same : length table ≡ length table₀
    pub surveys : surveyed 0 (lines_in start image) ≡ surveyed count (lines_at start image place)
    pub numbers : numbered 1 (lines_in start image) table₀ ≡ numbered (suc count) (lines_at start image place) table

  pub surveying : Surveying 0 0 table₀
  surveying =
      record { there = omega arith; fewer = omega arith; same = refl; surveys = ap (surveyed 0) (lines-all start image); numbers = ap (λ (ls : List ReadLine). numbered 1 ls table₀) (lines-all start image) }

  -- what the pass answers, and the table then
  abbrev pub Answers : Surveyed → List ℕ → Type 0
  Answers s table = (s ≡ surveyed 0 (lines_in start image)) × (table ≡ numbered 1 (lines_in start image) table₀) × (s.place ≤ length image)

  module _ {place count : ℕ} {table : List ℕ} (s : Surveying place count table) where
    pub surveying_end : length image ≤ place → Answers (record { lines = count; number = 0; place = 0 }) table
    surveying_end h =
        let z = lines_end start image place h in
        (sym (s.surveys ∙ ap (surveyed count) z), sym (s.numbers ∙ ap (λ (ls : List ReadLine). numbered (suc count) ls table) z), omega arith)

    module _ (h : place < length image) {r : Reading} (e : r ≡ read_of (drop place image) (address_at start place)) {l : Taken} (q : l ≡ taken_by r) where
      pub surveying_stop : (l.number ≡ 0 → ⊥) → Answers (record { lines = count; number = l.number; place = place }) table
      surveying_stop z =
          let t = stops start image place h r e (λ n. z (ap (λ (x : Taken). x.number) q ∙ n)) in
          (ap (λ (x : Taken). record { lines = count; number = x.number; place = place }) q ∙ sym (s.surveys ∙ t.surveys count), sym (s.numbers ∙ t.numbers (suc count) table), s.there)

      pub surveying_next : l.number ≡ 0 → {table' : List ℕ} → table' ≡ stored table place (count + 1) → Surveying (place + l.words) (count + 1) table' × (1 ≤ l.words)
      surveying_next z {table'} m =
          let g = goes start image place h r e (sym (ap (λ (x : Taken). x.number) q) ∙ z) in
          let w : (taken_by r).words ≡ l.words = sym (ap (λ (x : Taken). x.words) q) in
          let c : suc count ≡ count + 1 = omega arith in (
            record {
              there = omega (arith, g.there, w);
              fewer = omega (arith, g.some, w, s.fewer);
              same = ap (λ (t : List ℕ). length t) m ∙ stored_length table place (count + 1) ∙ s.same;
              surveys = s.surveys ∙ g.surveys count ∙ ap (λ (k : ℕ). surveyed (suc count) (lines_at start image (place + k))) w ∙ ap (λ (k : ℕ). surveyed k (lines_at start image (place + l.words))) c;
              numbers = s.numbers ∙ g.numbers (suc count) table ∙ ap (λ (k : ℕ). numbered (suc (suc count)) (lines_at start image (place + k)) (stored table place (suc count))) w
                  ∙ ap (λ (k : ℕ). numbered (suc k) (lines_at start image (place + l.words)) (stored table place k)) c
                  ∙ ap (numbered (suc (count + 1)) (lines_at start image (place + l.words))) (sym m);
            },
            omega (arith, g.some, w),
          )

-- ---- the second pass, come to a place: every branch before it lands
module _ (start : ℕ) (image : List ℕ) (lands : ℕ → Option ℕ) where
  abbrev first : List ReadLine → ℕ
  first ls = astray lands (length image) ls

  pub record Landing (place : ℕ) : Type 0 where
    pub there : place ≤ length image
    pub astray : first (lines_in start image) ≡ first (lines_at start image place)

  pub landing : Landing 0
  landing = record { there = omega arith; astray = ap first (lines-all start image) }

  -- what the pass answers
  abbrev pub Astray : ℕ → Type 0
  Astray r = (r ≡ first (lines_in start image)) × (r ≤ length image)

  module _ {place : ℕ} (s : Landing place) where
    pub landing_end : length image ≤ place → Astray (length image)
    landing_end h = (sym (s.astray ∙ ap first (lines_end start image place h)), omega arith)

    module _ (h : place < length image) {r : Reading} (e : r ≡ read_of (drop place image) (address_at start place)) where
      pub landing_not : lands_by lands r ≡ false → Astray place
      landing_not q = (sym (s.astray ∙ lands_not start image place h r e lands (length image) q), omega arith)

      module _ (q : lands_by lands r ≡ true) {l : Taken} (z : l ≡ taken_by r) where
        pub landing_stop : (l.number ≡ 0 → ⊥) → Astray (length image)
        landing_stop n =
            let t = stops start image place h r e (λ m. n (ap (λ (x : Taken). x.number) z ∙ m)) in
            (sym (s.astray ∙ lands_on start image place h r e lands (length image) q ∙ ap first t.alone), omega arith)

        pub landing_next : l.number ≡ 0 → Landing (place + l.words) × (1 ≤ l.words)
        landing_next n =
            let g = goes start image place h r e (sym (ap (λ (x : Taken). x.number) z) ∙ n) in
            let w : (taken_by r).words ≡ l.words = sym (ap (λ (x : Taken). x.words) z) in (
              record {
                there = omega (arith, g.there, w);
                astray = s.astray ∙ lands_on start image place h r e lands (length image) q ∙ ap first g.later ∙ ap (λ (k : ℕ). first (lines_at start image (place + k))) w;
              },
              omega (arith, g.some, w),
            )
