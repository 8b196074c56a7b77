-- What is printed for a line that is in the form, and for one that is not.
use Rattle.std.specs.Prelude.{◌≡◌, true, false, List, ℕ}
use Rattle.std.proofs.Common.{sym, ◌∙◌}
use Rattle.base_facts.specs.Tests.{cond_true, cond_false}
use Rattle.base_spec.specs.Refused.{not_in_form}
use Rattle.read_runs.specs.declared.Run.{Run}
use Rattle.read_runs.specs.Kept.{run_of}
use Rattle.m68000_answers.specs.Kept.{run_68000_text, kept_68000_answer_of}

module _ (line : List ℕ) (r : Run) (e : r ≡ run_of line) where
  pub answer_yes : r.ok ≡ true → kept_68000_answer_of line ≡ run_68000_text r
  unfolding kept_68000_answer_of
  answer_yes h = cond_true (run_of line).ok _ _ (rw (sym e) h) ∙ rw e

  pub answer_no : r.ok ≡ false → kept_68000_answer_of line ≡ not_in_form
  unfolding kept_68000_answer_of
  answer_no h = cond_false (run_of line).ok _ _ (rw (sym e) h)
