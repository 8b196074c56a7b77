-- Demand 3 from what holds of each line: the two followers stay together.
use Rattle.std.specs.Prelude.{ℕ, zero, suc, pred, ◌+◌, ◌*◌, ◌-◌, ◌/◌, ◌%◌, ◌≤◌, ◌<◌, ◌≡◌, Bool, true, false, List, [], ◌∷◌, ◌++◌, length, drop, get_or}
use Rattle.std.proofs.Common.{sym, ap, ◌∙◌, subst, arith, add-one, take_all, lt-ltb, le-leb, eq-eqb, ne_eqb}
use Rattle.std.proofs.Math.Decide.{dec_le}
use Rattle.std.proofs.lemmas.Bool.{lt-leb}
use Rattle.isa.specs.declared.Instruction.{Instruction}
use Rattle.isa.specs.declared.Encoded.{Encoded}
use Rattle.encode_spec.specs.Encode.{encode_of}
use Rattle.read_spec.specs.Reading.{Read}
use Rattle.read_spec.specs.Plain.{plain}
use Rattle.read_spec.specs.Read.{read_of}
use Rattle.sheet_spec.specs.Line.{Token, says}
use Rattle.sheet_spec.specs.Made.{Line, made}
use Rattle.sheet_spec.specs.Sheet.{Sheet, line_count, counts, total, end_of, line_at, count_of_line, address_of_line, resolved, encoded, encoded_words, image}
use Rattle.sheet_spec.specs.Follow.{Next, on, to, either, stop, next_of, Place, follow, goes, target, line_next, next_with, target_line, come_line, step_line, by_lines, begins, reading_at, come_word, step_word, by_words, Reads, Together, both-ended, both_at}
use Rattle.sheet_size_facts.specs.Says.{line_makes}
use Rattle.sheet_size_facts.specs.Image.{total_suc, total_part, no_words, Counts, words_length, drop_before}
use Rattle.sheet_size_facts.specs.Outcomes.{counts_length, lines_length}
use Rattle.sheet_size_facts.specs.Bounds.{before, address_is}

-- a target is the address t
abbrev pub Aims : Next → ℕ → Type 0
Aims on t = Unit {0}
Aims (to x) t = x ≡ t
Aims (either x) t = x ≡ t
Aims stop t = Unit {0}

-- the named line is one of m
abbrev pub Within : Next → ℕ → ℕ → Type 0
Within on m n = Unit {0}
Within (to x) m n = (1 ≤ n) × (n ≤ m)
Within (either x) m n = (1 ≤ n) × (n ≤ m)
Within stop m n = Unit {0}

-- what is used of each line of an accepted sheet
pub record LineStands (s : Sheet) (n : ℕ) : Type 0 where
  pub some : 1 ≤ count_of_line s n
  pub tokens : List Token
  pub instruction : Instruction
  pub parsed : line_at s n ≡ says tokens
  pub line : Line (resolved s) tokens instruction
  pub entry : get_or (encoded s) (pred n) no_words ≡ encode_of instruction (address_of_line s n)
  pub reads_back : (rest : List ℕ) → read_of (encoded_words (encode_of instruction (address_of_line s n)) ++ rest) (address_of_line s n) ≡ Read (plain instruction) (2 * count_of_line s n)
  pub aims : Aims (next_with (resolved s) s n) (address_of_line s (target_line s n))
  pub within : Within (next_with (resolved s) s n) (line_count s) (target_line s n)

-- ---- the followers of a sheet
module _ (s : Sheet) (tally : Counts (counts s) (encoded s)) (stands : (n : ℕ) → 1 ≤ n → n ≤ line_count s → LineStands s n) where
  -- the address of line n, and past the last line the end
  abbrev at : ℕ → ℕ
  at n = s.start + 2 * before s n

  at_next : (n : ℕ) → 1 ≤ n → n ≤ line_count s → at (n + 1) ≡ address_of_line s n + 2 * count_of_line s n
  at_next zero h g = absurd (omega arith)
  at_next (suc n) h g = rw add-one (omega (arith, address_is s (suc n) h g, total_suc (counts s) n (omega (arith, counts_length s))))

  -- the offset of line n in words, and what stands there
  offset : (n : ℕ) → (at n - s.start) / 2 ≡ before s n
  offset n = omega arith

  pub reads_there : (n : ℕ) (h : 1 ≤ n) (g : n ≤ line_count s) → reading_at s.start (image s) (address_of_line s n) ≡ Read (plain (stands n h g).instruction) (2 * count_of_line s n)
  reads_there n h g =
      let l = stands n h g in
      let d = drop_before (counts s) (encoded s) tally (pred n) (omega (arith, lines_length s)) in
      let o : (address_of_line s n - s.start) / 2 ≡ before s n = omega (arith, address_is s n h g) in
      ap (λ (k : ℕ). read_of (drop k (image s)) (address_of_line s n)) o
      ∙ ap (λ (ws : List ℕ). read_of ws (address_of_line s n)) (d.1 ∙ ap (λ (e : Encoded). encoded_words e ++ d.0) l.entry)
      ∙ l.reads_back d.0

  abbrev pub reads : (n : ℕ) → 1 ≤ n → n ≤ line_count s → Reads s (image s) n
  reads n h g =
      let l = stands n h g in
      record { tokens = l.tokens; instruction = l.instruction; parsed = l.parsed; line = l.line; reads = reads_there n h g }

  before_end : (n : ℕ) → 1 ≤ n → n ≤ line_count s → before s n < length (image s)
  before_end n h g =
      omega (arith, total_part (counts s) (pred n) (omega (arith, counts_length s)), words_length (counts s) (encoded s) tally, (stands n h g).some)

  begins_there : (n : ℕ) → 1 ≤ n → n ≤ line_count s → begins s.start (image s) (at n) ≡ true
  begins_there n h g =
      rw (
        le-leb s.start (at n) (omega arith),
        lt-ltb (at n) (end_of s.start (length (image s))) (omega (arith, before_end n h g)),
        eq-eqb ((at n - s.start) % 2) 0 (omega arith),
      )

  -- both come to line n, or to the end
  comes : (n : ℕ) → 1 ≤ n → n ≤ line_count s + 1 → Together s (image s) (come_line s n) (come_word s.start (image s) (at n))
  comes n h g = go (dec_le n (line_count s))
    where
      go : Dec (n ≤ line_count s) → Together s (image s) (come_line s n) (come_word s.start (image s) (at n))
      go (yes d) =
          let a = address_is s n h d in
          rw (
            le-leb n (line_count s) d,
            ne_eqb (at n) (end_of s.start (length (image s))) (omega (arith, before_end n h d)),
            begins_there n h d,
            sym a,
            reads_there n h d,
          )
          (both_at n h d (reads n h d))
      go (no d) =
          let e : before s n ≡ length (image s) = ap total (take_all (pred n) (counts s) (omega (arith, counts_length s))) ∙ sym (words_length (counts s) (encoded s) tally) in
          rw (lt-leb n (line_count s) (omega arith), eq-eqb (at n) (end_of s.start (length (image s))) (omega (arith, e))) both-ended

  onward : (n : ℕ) → 1 ≤ n → n ≤ line_count s → Together s (image s) (come_line s (n + 1)) (come_word s.start (image s) (address_of_line s n + 2 * count_of_line s n))
  onward n h g = subst (λ (k : ℕ). Together s (image s) (come_line s (n + 1)) (come_word s.start (image s) k)) (at_next n h g) (comes (n + 1) (omega arith) (omega arith))

  aside : (n t : ℕ) → t ≡ address_of_line s n → 1 ≤ n → n ≤ line_count s → Together s (image s) (come_line s n) (come_word s.start (image s) t)
  aside n t e h g = subst (λ (k : ℕ). Together s (image s) (come_line s n) (come_word s.start (image s) k)) (sym (e ∙ address_is s n h g)) (comes n h (omega arith))

  goes_on : (x : Next) (n : ℕ) → 1 ≤ n → n ≤ line_count s → Aims x (address_of_line s (target_line s n)) → Within x (line_count s) (target_line s n) → (c : Bool)
      → Together s (image s) (goes (come_line s) x (n + 1) (target_line s n) c) (goes (come_word s.start (image s)) x (address_of_line s n + 2 * count_of_line s n) (target x) c)
  goes_on on n h g a w c = onward n h g
  goes_on (to t) n h g a w c = aside (target_line s n) t a w.0 w.1
  goes_on (either t) n h g a w true = aside (target_line s n) t a w.0 w.1
  goes_on (either t) n h g a w false = onward n h g
  goes_on stop n h g a w c = both-ended

  next_of_lem : (n : ℕ) (r : Reads s (image s) n) → next_with (resolved s) s n ≡ next_of (plain r.instruction)
  next_of_lem n r = ap line_next (ap (made (resolved s)) r.parsed ∙ line_makes (resolved s) r.tokens r.instruction r.line)

  steps : (p q : Place) (c : Bool) → Together s (image s) p q → Together s (image s) (step_line s p c) (step_word s.start (image s) q c)
  steps p q c both-ended = both-ended
  steps p q c (both_at n h g r) =
      rw (r.reads, sym (next_of_lem n r)) (goes_on (next_with (resolved s) s n) n h g (stands n h g).aims (stands n h g).within c)

  follows : (p q : Place) (cs : List Bool) → Together s (image s) p q → Together s (image s) (follow (step_line s) p cs) (follow (step_word s.start (image s)) q cs)
  follows p q [] t = t
  follows p q (c ∷ cs) t = follows (step_line s p c) (step_word s.start (image s) q c) cs (steps p q c t)

  -- the followers are together after any choices
  pub together : (choices : List Bool) → Together s (image s) (by_lines s choices) (by_words s.start (image s) choices)
  together cs =
      let z : at 1 ≡ s.start = omega arith in
      follows (come_line s 1) (come_word s.start (image s) s.start) cs
      (subst (λ (k : ℕ). Together s (image s) (come_line s 1) (come_word s.start (image s) k)) z (comes 1 (omega arith) (omega arith)))
