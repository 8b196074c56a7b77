-- Laws of what is printed. Assumes nothing.
use Rattle.std.specs.Prelude.{◌≡◌, true, false, List, [], ◌∷◌, ◌++◌, ℕ, ◌+◌, ◌<◌, length, take, get_or}
use Rattle.std.proofs.Common.{append_assoc, append-nil, add-one, take-suc}
use Rattle.base_facts.specs.Tests.{cond_true, cond_false}
use Rattle.base_spec.specs.Written.{decimal_of}
use Rattle.base_spec.specs.Refused.{tab, not_in_form}
use Rattle.base_text.specs.declared.LineNumbers.{LineNumbers}
use Rattle.base_text.specs.Numbers.{line_numbers}
use Rattle.values_answers.specs.Asked.{listed_values, asked_text, is_asked, values_answer_of}

-- one value more
pub values_next : (vs : List ℕ) (i : ℕ) → i < length vs → listed_values (take (i + 1) vs) ≡ listed_values (take i vs) ++ (tab ++ decimal_of (get_or vs i 0))
values_next vs i h = rw (add-one, take-suc vs i 0 h) (go (take i vs))
  where
    go : (ls : List ℕ) → listed_values (ls ++ (get_or vs i 0 ∷ [])) ≡ listed_values ls ++ (tab ++ decimal_of (get_or vs i 0))
    go [] = append-nil (tab ++ decimal_of (get_or vs i 0))
    go (v ∷ ls) = rw (go ls, append_assoc)

module _ (line : List ℕ) (n : LineNumbers) (e : n ≡ line_numbers line) where
  pub answer_yes : is_asked n ≡ true → values_answer_of line ≡ asked_text n.magnitude
  unfolding values_answer_of
  answer_yes h = rw (← e) (cond_true (is_asked n) _ _ h)

  pub answer_no : is_asked n ≡ false → values_answer_of line ≡ not_in_form
  unfolding values_answer_of
  answer_no h = rw (← e) (cond_false (is_asked n) _ _ h)
