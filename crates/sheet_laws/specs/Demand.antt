-- Each line of an accepted sheet stands: its words are there, read back as its plain form, and its target is the named line's address.
use Rattle.std.specs.Prelude.{ℕ, ◌*◌, ◌≤◌, ◌≡◌, true, List, ◌++◌, length}
use Rattle.std.proofs.Common.{sym, ap, ◌∙◌, subst, arith}
use Rattle.isa.specs.declared.Instruction.{Instruction}
use Rattle.encode_spec.specs.Encode.{encode_of, words_of}
use Rattle.read_spec.specs.Reading.{Read}
use Rattle.read_spec.specs.Plain.{plain}
use Rattle.read_spec.specs.Read.{read_of}
use Rattle.read_spec.specs.Accepted as reads
use Rattle.read_laws.specs.ReaderLaws.{complete}
use Rattle.m68k_facts.specs.Laws.{accepted_fine, accepted_words}
use Rattle.numeric_spec.specs.Form.{form_of}
use Rattle.sheet_spec.specs.Made.{made, of_lines}
use Rattle.sheet_spec.specs.Sheet.{Sheet, line_count, line_at, count_of_line, address_of_line, encoded_words}
use Rattle.sheet_spec.specs.Follow.{Next, on, to, either, stop, next_of, target, line_next, target_line}
use Rattle.sheet_spec.specs.Promises.{InGrammar, AcceptedSheet}
use Rattle.sheet_size_facts.specs.Says.{line_makes}
use Rattle.sheet_size_facts.specs.Lawful.{quiet, Goes, quietly, aimed}
use Rattle.sheet_size_facts.specs.Bounds.{up_to, up_to_lem, count_some, names_bounded, line_at_lem, instruction_at, line_there, next_there}
use Rattle.sheet_size_facts.specs.Counted.{encodes, entry_is, count_of, words_counted}
use Rattle.sheet_laws.specs.InTypes.{inside_in_types}
use Rattle.sheet_laws.specs.Follows.{Aims, Within, LineStands}

-- ---- where a line goes: to the address t, and to line k of m
abbrev Lands : Next → ℕ → ℕ → ℕ → Type 0
Lands x t k m = Aims x t × Within x m k

quiet_lands : (x : Next) → quiet x ≡ true → (t k m : ℕ) → Lands x t k m
quiet_lands on h t k m = (tt, tt)
quiet_lands (to u) h t k m = let z : ◌≡◌ {A = ℕ} 0 1 = cc in absurd (omega arith)
quiet_lands (either u) h t k m = let z : ◌≡◌ {A = ℕ} 0 1 = cc in absurd (omega arith)
quiet_lands stop h t k m = (tt, tt)

aimed_lands : (x : Next) (t k m : ℕ) → target x ≡ t → 1 ≤ k → k ≤ m → Lands x t k m
aimed_lands on t k m e p q = (tt, tt)
aimed_lands (to u) t k m e p q = (e, (p, q))
aimed_lands (either u) t k m e p q = (e, (p, q))
aimed_lands stop t k m e p q = (tt, tt)

module _ (s : Sheet) (grammar : (n : ℕ) → InGrammar (line_at s n)) (room : ℕ) (ok : AcceptedSheet s room) where
  module _ (n : ℕ) (h : 1 ≤ n) (g : n ≤ line_count s) where
    abbrev j : Instruction
    j = instruction_at s grammar ok.measured n h g

    abbrev a : ℕ
    a = address_of_line s n

    number : (encode_of j a).number ≡ 0
    number = encodes s grammar room ok n h g

    target_line-is : target_line s n ≡ target (next_of ((line_at_lem s grammar ok.measured n h g).instruction (λ k. k)))
    target_line-is =
        let l = line_at_lem s grammar ok.measured n h g in
        let f = of_lines (line_count s) (λ k. k) in
        ap (λ x. target (line_next x)) (ap (made f) l.parsed ∙ line_makes f l.tokens (l.instruction (λ k. k)) (l.line (λ k. k) (names_bounded s grammar ok.measured)))
        ∙ ap target (l.follows.plain (λ k. k))

    lands : Goes (up_to (line_count s)) (line_at_lem s grammar ok.measured n h g).instruction → Lands (next_of j) (address_of_line s (target_line s n)) (target_line s n) (line_count s)
    lands (quietly q) = quiet_lands (next_of j) (q (address_of_line s)) (address_of_line s (target_line s n)) (target_line s n) (line_count s)
    lands (aimed (m, p, e)) =
        let u = up_to_lem (line_count s) m p in
        subst (λ (k : ℕ). Lands (next_of j) (address_of_line s k) k (line_count s)) (sym (target_line-is ∙ e (λ k. k)))
        (aimed_lands (next_of j) (address_of_line s m) m (line_count s) (e (address_of_line s)) u.0 u.1)

    landing : Lands (next_of j) (address_of_line s (target_line s n)) (target_line s n) (line_count s)
    landing = lands (line_at_lem s grammar ok.measured n h g).follows.goes

    line_accepted : reads.Accepted a j
    unfolding form_of
    line_accepted = (
      inside_in_types j (line_there s grammar ok.measured n h g).inside,
      accepted_fine j a number,
      (line_at_lem s grammar ok.measured n h g).follows.ordinary (address_of_line s),
    )

    words_are : encoded_words (encode_of j a) ≡ words_of j a
    words_are = accepted_words j a number

    counts_are : length (words_of j a) ≡ count_of_line s n
    counts_are = ap length (sym words_are) ∙ words_counted j a ∙ count_of s grammar room ok n h g

    pub line_stands : LineStands s n
    line_stands =
        let l = line_at_lem s grammar ok.measured n h g in
        record {
          some = count_some s grammar ok.measured n h g;
          tokens = l.tokens;
          instruction = j;
          parsed = l.parsed;
          line = line_there s grammar ok.measured n h g;
          entry = entry_is s grammar room ok n h g;
          reads_back = λ rest. ap (λ (ws : List ℕ). read_of (ws ++ rest) a) words_are ∙ complete a j rest line_accepted ∙ ap (λ (k : ℕ). Read (plain j) (2 * k)) counts_are;
          aims = subst (λ (x : Next). Aims x (address_of_line s (target_line s n))) (sym (next_there s grammar ok.measured n h g)) landing.0;
          within = subst (λ (x : Next). Within x (line_count s) (target_line s n)) (sym (next_there s grammar ok.measured n h g)) landing.1;
        }
