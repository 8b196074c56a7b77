-- The answer speaks of all the words of a line, though only the first 16 are kept.
use Rattle.std.specs.Prelude.{◌≡◌, refl, Bool, true, false, cond, ◌&&◌, List, [], ◌∷◌, ℕ, take}
use Rattle.std.proofs.Common.{ap, ◌∙◌}
use Rattle.base_spec.specs.Parts.{fields}
use Rattle.base_spec.specs.Number.{number_of}
use Rattle.base_spec.specs.Numbers.{magnitude_of}
use Rattle.base_spec.specs.Lines.{answered_of, step_of}
use Rattle.base_spec.specs.Refused.{not_in_form}
use Rattle.read_laws.specs.Kept.{read_kept}
use Rattle.print_spec.specs.Programs.{answers_output_of}
use Rattle.print_spec.specs.Run.{is_address_field, are_words, field_words}
use Rattle.read_runs.specs.Kept.{kept_run, no_run, run_in, run_of}
use Rattle.read_runs.specs.RunLaws.{kept_words}
use Rattle.m68000_spec.specs.Read68000.{restricted, read_68000_of}
use Rattle.m68000_spec.specs.Answer68000.{reading_68000_text, answer_68000_to, read_68000_answer_of}
use Rattle.m68000_answers.specs.Kept.{run_68000_text, kept_68000_answer_of}

kept_address : (a : ℕ) (ws : List ℕ) → read_68000_of (take 16 ws) (kept_run a ws).address ≡ read_68000_of ws a
unfolding kept_run read_68000_of
kept_address a ws = ap restricted (read_kept ws a)

kept_text : (a : ℕ) (ws : List ℕ) → run_68000_text (kept_run a ws) ≡ reading_68000_text (read_68000_of ws a)
unfolding run_68000_text
kept_text a ws = ap reading_68000_text (ap (λ (us : List ℕ). read_68000_of us (kept_run a ws).address) (kept_words a ws) ∙ kept_address a ws)

kept_ok : (a : ℕ) (ws : List ℕ) → cond (kept_run a ws).ok (run_68000_text (kept_run a ws)) not_in_form ≡ run_68000_text (kept_run a ws)
unfolding kept_run
kept_ok a ws = refl

no_text : cond no_run.ok (run_68000_text no_run) not_in_form ≡ not_in_form
unfolding no_run
no_text = refl

text_if : (t : Bool) (a : ℕ) (ws : List ℕ)
    → cond (cond t (kept_run a ws) no_run).ok (run_68000_text (cond t (kept_run a ws) no_run)) not_in_form ≡ cond t (reading_68000_text (read_68000_of ws a)) not_in_form
text_if true a ws = kept_ok a ws ∙ kept_text a ws
text_if false a ws = no_text

answer_if : (fs : List (List ℕ)) → cond (run_in fs).ok (run_68000_text (run_in fs)) not_in_form ≡ answer_68000_to fs
answer_if [] = no_text
answer_if (f ∷ fs) = text_if (is_address_field (number_of f) && are_words fs) (magnitude_of (number_of f)) (field_words fs)

pub answer_68000_whole : (line : List ℕ) → kept_68000_answer_of line ≡ read_68000_answer_of line
unfolding kept_68000_answer_of run_of read_68000_answer_of
answer_68000_whole line = answer_if (fields line)

-- and so of every line that `answers` answers
pub answers_68000_whole : (need : ℕ) (text : List ℕ) (from room : ℕ)
    → (step_of kept_68000_answer_of need text from room ≡ step_of read_68000_answer_of need text from room) × (answered_of kept_68000_answer_of need text from room ≡ answered_of read_68000_answer_of need text from room)
answers_68000_whole need text from room = ((λ i. step_of (λ line. answer_68000_whole line i) need text from room), (λ i. answered_of (λ line. answer_68000_whole line i) need text from room))

-- and so of all that `read_68000` writes
pub output_68000_whole : (text : List ℕ) → answers_output_of kept_68000_answer_of text ≡ answers_output_of read_68000_answer_of text
output_68000_whole text = λ i. answers_output_of (λ line. answer_68000_whole line i) text
