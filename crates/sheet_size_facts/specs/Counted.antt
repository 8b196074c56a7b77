-- Each line of an accepted sheet lays down as many words as it counts, so the image has the words of all lines.
use Rattle.std.specs.Prelude.{ℕ, suc, pred, ◌≤◌, ◌≡◌, List, length, get_or}
use Rattle.std.proofs.Common.{sym, ap, ◌∙◌, arith, length-take}
use Rattle.isa.specs.declared.Measured.{Measured}
use Rattle.isa.specs.declared.Encoded.{Encoded}
use Rattle.isa.specs.declared.Instruction.{Instruction}
use Rattle.encode_spec.specs.Encode.{encode_of, size_of}
use Rattle.sheet_spec.specs.Made.{Made, makes, made}
use Rattle.sheet_spec.specs.Sheet.{Sheet, sheet_at, line_count, counts, word_count, line_at, count_of_line, addresses, address_of_line, resolved, encoded_line, encoded, encoded_words, image}
use Rattle.sheet_spec.specs.Translate.{ScratchRule, in_order, outcome_at}
use Rattle.sheet_spec.specs.Promises.{InGrammar, MeasuredSheet, AcceptedSheet}
use Rattle.sheet_facts.specs.Lines.{line_grammar}
use Rattle.sheet_size_facts.specs.Image.{no_words, encoded-is, Counts, words_length}
use Rattle.sheet_size_facts.specs.Outcomes.{counts_length, places_length, lines_length, accepted}
use Rattle.sheet_size_facts.specs.Bounds.{line_at_lem, count_size, instruction_at, makes_there}
use Rattle.m68k_facts.specs.Laws.{size_law, places_law, encode_most}

-- the words that count are as many as they say
pub words_counted : (i : Instruction) (a : ℕ) → length (encoded_words (encode_of i a)) ≡ (encode_of i a).count
words_counted i a = omega (arith, places_law i a, encode_most i a, length-take (encode_of i a).count (encode_of i a).words)

-- a measured line that is accepted counts the words that it has
module _ (s : Sheet) (grammar : (n : ℕ) → InGrammar (line_at s n)) (ok : MeasuredSheet s) (n : ℕ) (h : 1 ≤ n) (g : n ≤ line_count s) where
  size_there : size_of (instruction_at s grammar ok n h g) ≡ size_of (line_at_lem s grammar ok n h g).first
  size_there = (line_at_lem s grammar ok n h g).follows.size (address_of_line s)

  pub count_there : (encode_of (instruction_at s grammar ok n h g) (address_of_line s n)).number ≡ 0 → (encode_of (instruction_at s grammar ok n h g) (address_of_line s n)).count ≡ count_of_line s n
  count_there e =
      omega (
        arith,
        count_size s grammar ok n h g,
        ap (λ (m : Measured). m.size) (size_law (instruction_at s grammar ok n h g) (address_of_line s n) e),
        ap (λ (m : Measured). m.size) size_there,
      )

  pub line_count_lem : (encoded_line (address_of_line s n) (made (resolved s) (line_at s n))).number ≡ 0
      → (encoded_line (address_of_line s n) (made (resolved s) (line_at s n))).count ≡ count_of_line s n
  line_count_lem e = let m = makes_there s grammar ok n h g in rw m (count_there (rw m at e))

module _ (s : Sheet) (grammar : (n : ℕ) → InGrammar (line_at s n)) (room : ℕ) (ok : AcceptedSheet s room) where
  module _ (n : ℕ) (h : 1 ≤ n) (g : n ≤ line_count s) where
    -- the line's instruction
    abbrev i : Instruction
    i = instruction_at s grammar ok.measured n h g

    makes_it : made (resolved s) (line_at s n) ≡ makes i
    makes_it = makes_there s grammar ok.measured n h g

    pub encodes : (encode_of i (address_of_line s n)).number ≡ 0
    encodes = sym (ap (λ (m : Made). (encoded_line (address_of_line s n) m).number) makes_it) ∙ ok.encoded n h g

    pub entry_is : get_or (encoded s) (pred n) no_words ≡ encode_of i (address_of_line s n)
    entry_is =
        encoded-is (resolved s) (addresses s) s.lines (places_length s) (pred n) (omega arith)
        ∙ ap (encoded_line (address_of_line s n)) makes_it

    pub count_of : (encode_of i (address_of_line s n)).count ≡ count_of_line s n
    count_of = count_there s grammar ok.measured n h g encodes

  pub line_counts : Counts (counts s) (encoded s)
  line_counts =
      record {
        lines = counts_length s ∙ sym (lines_length s);
        each = λ k h.
            let q : suc k ≤ line_count s = omega (arith, lines_length s) in
            ap (λ (e : Encoded). length (encoded_words e)) (entry_is (suc k) (omega arith) q) ∙ words_counted (i (suc k) (omega arith) q) (address_of_line s (suc k)) ∙ count_of (suc k) (omega arith) q;
      }

  pub image_length : length (image s) ≡ word_count s
  image_length = words_length (counts s) (encoded s) line_counts

-- the image of a text has the words of all lines
pub image-counts : (rule : ScratchRule) (text : List ℕ) (start places room : ℕ) → outcome_at rule text start places room ≡ in_order → length (image (sheet_at start text)) ≡ word_count (sheet_at start text)
image-counts rule text start places room e = image_length (sheet_at start text) (line_grammar text) room (accepted text start places room e).lines
