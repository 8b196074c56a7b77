-- Laws of what is printed. Assumes nothing.
use Rattle.std.specs.Prelude.{◌≡◌, refl, true, false, List, [], ◌∷◌, ◌++◌, map, ℕ, ◌+◌, ◌≤◌, ◌<◌, ℤ, pos, negsuc, length, take, get_or}
use Rattle.std.proofs.Common.{sym, ap, ◌∙◌, append_assoc, append-nil, arith, add-one, take-suc}
use Rattle.isa.specs.declared.Instruction.{Instruction}
use Rattle.base_facts.specs.Tests.{cond_true, cond_false}
use Rattle.base_spec.specs.declared.Literal.{Literal}
use Rattle.base_spec.specs.declared.Literals.{Literals}
use Rattle.base_spec.specs.Written.{decimal_of, signed_of}
use Rattle.base_spec.specs.Refused.{tab, not_in_form}
use Rattle.numeric_spec.specs.Entry.{Entry, entry_number}
use Rattle.numeric_spec.specs.Form.{form_of, numbers_of}
use Rattle.numeric_facts.specs.Length.{form_length}
use Rattle.numeric_form.specs.Numbers.{literal_of, zero_literal, numbers_from, literals_held}
use Rattle.numeric_form.specs.PushedLaws.{held_is}
use Rattle.read_runs.specs.declared.Run.{Run}
use Rattle.read_runs.specs.Kept.{run_of, run_text, kept_answer_of}
use Rattle.read_runs.specs.RunLaws.{run_count, run-places}
use Rattle.print_spec.specs.ReadAnswer.{numbers_text, read_text}
use Rattle.read_answers.specs.Put.{literal_text, literals_text, put_text}

-- one number more
text_more : (ls : List Literal) (l : Literal) → literals_text (ls ++ (l ∷ [])) ≡ literals_text ls ++ literal_text l
text_more [] l = append-nil (literal_text l)
text_more (k ∷ ls) l = ap (λ (t : List ℕ). literal_text k ++ t) (text_more ls l) ∙ sym (append_assoc (literal_text k) (literals_text ls) (literal_text l))

pub literals_next : (ls : List Literal) (i : ℕ) → i < length ls → literals_text (take (i + 1) ls) ≡ literals_text (take i ls) ++ literal_text (get_or ls i zero_literal)
literals_next ls i h = rw (add-one, take-suc ls i zero_literal h) (text_more (take i ls) (get_or ls i zero_literal))

-- the literals of an instruction are its numbers
literal_text_lem : (z : ℤ) → literal_text (literal_of z) ≡ signed_of z ++ tab
literal_text_lem (pos n) = refl
literal_text_lem (negsuc n) = refl

pub literals_text_lem : (es : List Entry) → literals_text (map (λ e. literal_of (entry_number e)) es) ≡ numbers_text (map entry_number es)
literals_text_lem [] = refl
literals_text_lem (e ∷ es) =
    let z : ℤ = entry_number e in
    let ls : List ℕ = literals_text (map (λ x. literal_of (entry_number x)) es) in
    let first : literal_text (literal_of z) ++ ls ≡ (signed_of z ++ tab) ++ ls = ap (λ (t : List ℕ). t ++ ls) (literal_text_lem z) in
    first ∙ ap (λ (t : List ℕ). (signed_of z ++ tab) ++ t) (literals_text_lem es)

pub put_text_lem : (i : Instruction) (ns : Literals) (n : ℕ) → ns ≡ numbers_from (form_of i) → put_text (literals_held ns) n ≡ read_text (numbers_of i) n
unfolding put_text read_text numbers_of
put_text_lem i ns n e =
    ap (λ (t : List ℕ). t ++ (61 ∷ 62 ∷ 9 ∷ []) ++ decimal_of n ++ (10 ∷ []))
    (ap literals_text (ap literals_held e ∙ held_is (form_of i) (omega (arith, form_length i))) ∙ literals_text_lem (form_of i))

-- ---- the form
module _ (line : List ℕ) (r : Run) (e : r ≡ run_of line) where
  pub answer_yes : r.ok ≡ true → kept_answer_of line ≡ run_text r
  unfolding kept_answer_of
  answer_yes h = cond_true (run_of line).ok _ _ (rw (sym e) h) ∙ rw e

  pub answer_no : r.ok ≡ false → kept_answer_of line ≡ not_in_form
  unfolding kept_answer_of
  answer_no h = cond_false (run_of line).ok _ _ (rw (sym e) h)

  pub run_room : (r.count ≤ 16) × (r.count ≤ length r.words)
  run_room = rw e (run_count line, omega (arith, run_count line, run-places line))
