-- In the last place of 01's table only 2 comes: a measured line is refused there with a field that does not hold its value.
use Rattle.std.specs.Prelude.{ℕ, ◌≤◌, List}
use Rattle.std.proofs.Common.{sym, ap, ◌∙◌, subst}
use Rattle.isa.specs.declared.Measured.{Measured}
use Rattle.encode_spec.specs.Promises.{OnlyOutOfRange}
use Rattle.m68k_facts.specs.Laws.{range_law}
use Rattle.sheet_spec.specs.Made.{Made, made}
use Rattle.sheet_spec.specs.Sheet.{Sheet, sheet_at, line_count, line_at, address_of_line, resolved, encoded_line}
use Rattle.sheet_spec.specs.Promises.{InGrammar, MeasuredSheet}
use Rattle.sheet_facts.specs.Lines.{line_grammar}
use Rattle.sheet_size_facts.specs.Bounds.{line_at_lem, instruction_at, makes_there}

pub only-ranges : (s : Sheet) → ((n : ℕ) → InGrammar (line_at s n)) → MeasuredSheet s → (n : ℕ) → 1 ≤ n → n ≤ line_count s
    → OnlyOutOfRange (encoded_line (address_of_line s n) (made (resolved s) (line_at s n)))
only-ranges s grammar ok n h g =
    let l = line_at_lem s grammar ok n h g in
    subst (λ (m : Made). OnlyOutOfRange (encoded_line (address_of_line s n) m)) (sym (makes_there s grammar ok n h g))
    (range_law (instruction_at s grammar ok n h g) (address_of_line s n) (ap (λ (m : Measured). m.number) (l.follows.size (address_of_line s)) ∙ l.number))

-- of a text at a start
pub only-ranges_text : (text : List ℕ) (start : ℕ) → MeasuredSheet (sheet_at start text) → (n : ℕ) → 1 ≤ n → n ≤ line_count (sheet_at start text)
    → OnlyOutOfRange (encoded_line (address_of_line (sheet_at start text) n) (made (resolved (sheet_at start text)) (line_at (sheet_at start text) n)))
only-ranges_text text start ok n h g = only-ranges (sheet_at start text) (line_grammar text) ok n h g
