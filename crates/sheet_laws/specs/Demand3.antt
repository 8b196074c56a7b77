-- Demand 3 (01, "Following"): an accepted sheet and its image stay together after every list of choices, and each line stands.
use Rattle.std.specs.Prelude.{ℕ, pred, ◌-◌, ◌/◌, ◌≤◌, ◌≡◌, List, take, drop}
use Rattle.std.proofs.Common.{ap, ◌∙◌, arith}
use Rattle.encode_spec.specs.Encode.{encode_of}
use Rattle.sheet_spec.specs.Sheet.{Sheet, sheet_at, line_count, counts, line_at, count_of_line, address_of_line, encoded, encoded_words, image}
use Rattle.sheet_spec.specs.Translate.{ScratchRule, in_order, sheet_outcome, outcome_at}
use Rattle.sheet_spec.specs.Promises.{InGrammar, AcceptedSheet, Demand3}
use Rattle.sheet_facts.specs.Lines.{line_grammar}
use Rattle.sheet_size_facts.specs.Image.{words_stand}
use Rattle.sheet_size_facts.specs.Outcomes.{lines_length, accepted_sheet, accepted}
use Rattle.sheet_size_facts.specs.Bounds.{before, address_is}
use Rattle.sheet_size_facts.specs.Counted.{line_counts}
use Rattle.sheet_laws.specs.Follows.{reads, together}
use Rattle.sheet_laws.specs.Demand.{line_stands}

module _ (s : Sheet) (grammar : (n : ℕ) → InGrammar (line_at s n)) (room : ℕ) (ok : AcceptedSheet s room) where
  words_at : (n : ℕ) (h : 1 ≤ n) (g : n ≤ line_count s) → take (count_of_line s n) (drop ((address_of_line s n - s.start) / 2) (image s)) ≡ encoded_words (encode_of (line_stands s grammar room ok n h g).instruction (address_of_line s n))
  words_at n h g =
      let o : (address_of_line s n - s.start) / 2 ≡ before s n = omega (arith, address_is s n h g) in
      ap (λ (k : ℕ). take (count_of_line s n) (drop k (image s))) o
      ∙ words_stand (counts s) (encoded s) (line_counts s grammar room ok) (pred n) (omega (arith, lines_length s))
      ∙ ap encoded_words (line_stands s grammar room ok n h g).entry

  stands : Demand3 s (image s)
  stands =
      record {
        together = together s (line_counts s grammar room ok) (line_stands s grammar room ok);
        each = λ n h g. record { read = reads s (line_counts s grammar room ok) (line_stands s grammar room ok) n h g; words = words_at n h g };
      }

-- of any sheet with lines in the grammar
pub demand_3 : (s : Sheet) → ((n : ℕ) → InGrammar (line_at s n)) → (room : ℕ) → sheet_outcome s room ≡ in_order → Demand3 s (image s)
demand_3 s grammar room e = stands s grammar room (accepted_sheet s room e)

-- of a text at a start
pub demand_3_text : (rule : ScratchRule) (text : List ℕ) (start places room : ℕ) → outcome_at rule text start places room ≡ in_order → Demand3 (sheet_at start text) (image (sheet_at start text))
demand_3_text rule text start places room e =
    let a = accepted text start places room e in
    stands (sheet_at start text) (line_grammar text) room a.lines
