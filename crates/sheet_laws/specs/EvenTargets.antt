-- Sheets have even targets, so no line is a short branch of -1 and N5 changes no listing (02, N5). Said before the last place of 01's table, whatever
-- `encode` then says of a line.
use Rattle.std.specs.Prelude.{ℕ, ◌+◌, ◌%◌, ◌^◌, ◌≤◌, ◌≡◌, refl, true, List}
use Rattle.std.proofs.Common.{sym, ap, ◌∙◌, arith}
use Rattle.isa.specs.declared.BranchOperation.{BranchOperation}
use Rattle.isa.specs.declared.BranchOperation.TheVariants.{BRA, BSR}
use Rattle.isa.specs.declared.BranchSize.TheVariants.{Short}
use Rattle.isa.specs.declared.Instruction.{Instruction}
use Rattle.isa.specs.declared.Instruction.TheVariants.{Branch}
use Rattle.base_facts.specs.Tests.{true_not_false}
use Rattle.sheet_spec.specs.Made.{Made, makes, made}
use Rattle.sheet_spec.specs.Sheet.{Sheet, sheet_at, line_count, word_count, line_at, address_of_line, resolved}
use Rattle.sheet_spec.specs.Translate.{ScratchRule, in_order, opening, sizing, closing}
use Rattle.sheet_spec.specs.Follow.{Next, on, to, either, stop, next_of, target, line_next, next_with}
use Rattle.sheet_spec.specs.Promises.{InGrammar, MeasuredSheet, NoMinusOne}
use Rattle.sheet_facts.specs.Lines.{line_grammar}
use Rattle.sheet_size_facts.specs.Lawful.{quiet, Goes, quietly, aimed}
use Rattle.sheet_size_facts.specs.Outcomes.{measured_sheet, even_start}
use Rattle.sheet_size_facts.specs.Bounds.{up_to, up_to_lem, address_is, line_at_lem, instruction_at, next_there}

quiet-target : (x : Next) → quiet x ≡ true → target x ≡ 0
quiet-target on h = refl
quiet-target (to t) h = true_not_false h refl
quiet-target (either t) h = true_not_false h refl
quiet-target stop h = refl

-- a line's address is even, and so is its target, 0 where it has none
pub even_targets : (s : Sheet) → ((n : ℕ) → InGrammar (line_at s n)) → s.start % 2 ≡ 0 → MeasuredSheet s → (n : ℕ) → 1 ≤ n → n ≤ line_count s
    → (address_of_line s n % 2 ≡ 0) × (target (next_with (resolved s) s n) % 2 ≡ 0)
even_targets s grammar even ok n h g = (address_even n h g, ap (λ (x : Next). target x % 2) (next_there s grammar ok n h g) ∙ go (line_at_lem s grammar ok n h g).follows.goes)
  where
    address_even : (m : ℕ) → 1 ≤ m → m ≤ line_count s → address_of_line s m % 2 ≡ 0
    address_even m p q = omega (arith, address_is s m p q, even)

    go : Goes (up_to (line_count s)) (line_at_lem s grammar ok n h g).instruction → target (next_of (instruction_at s grammar ok n h g)) % 2 ≡ 0
    go (quietly q) = ap (λ (t : ℕ). t % 2) (quiet-target (next_of (instruction_at s grammar ok n h g)) (q (address_of_line s)))
    go (aimed (m, p, e)) = let b = up_to_lem (line_count s) m p in ap (λ (t : ℕ). t % 2) (e (address_of_line s)) ∙ address_even m b.0 b.1

pub no_minus-one : (s : Sheet) → ((n : ℕ) → InGrammar (line_at s n)) → s.start % 2 ≡ 0 → MeasuredSheet s → (n : ℕ) → 1 ≤ n → n ≤ line_count s → NoMinusOne s n
no_minus-one s grammar even ok n h g = (branch, λ c e. odd e refl)
  where
    odd : {i : Instruction} → made (resolved s) (line_at s n) ≡ makes i → target (line_next (makes i)) ≡ (address_of_line s n + 1) % 2 ^ 32 → ⊥
    odd {i} e t =
        let b = even_targets s grammar even ok n h g in
        let q : target (line_next (makes i)) % 2 ≡ 0 = sym (ap (λ (m : Made). target (line_next m) % 2) e) ∙ b.1 in
        omega (arith, q, t, b.0)

    branch : (op : BranchOperation) → made (resolved s) (line_at s n) ≡ makes (Branch op ((address_of_line s n + 1) % 2 ^ 32) Short) → ⊥
    branch BRA e = odd e refl
    branch BSR e = odd e refl

-- of a text that comes to the last place
pub no_minus-one_text : (rule : ScratchRule) (text : List ℕ) (start places room : ℕ) → opening rule text start places ≡ in_order → sizing (sheet_at start text).lines ≡ in_order
    → closing start (word_count (sheet_at start text)) room ≡ in_order → (n : ℕ) → 1 ≤ n → n ≤ line_count (sheet_at start text) → NoMinusOne (sheet_at start text) n
no_minus-one_text rule text start places room e f c =
    no_minus-one (sheet_at start text) (line_grammar text) (even_start rule text start places e) (measured_sheet (sheet_at start text) room f c)
