-- The run of a line in 16 places, and the answer to it. `answer_whole` says that this is the answer to all its words.
use Rattle.std.specs.Prelude.{true, false, cond, ◌&&◌, List, [], ◌∷◌, ◌++◌, ℕ, ◌-◌, min, length, take, replicate}
use Rattle.base_spec.specs.Parts.{fields}
use Rattle.base_spec.specs.Number.{number_of}
use Rattle.base_spec.specs.Numbers.{magnitude_of}
use Rattle.base_spec.specs.Refused.{not_in_form}
use Rattle.read_spec.specs.Read.{read_of}
use Rattle.print_spec.specs.Run.{is_address_field, are_words, field_words}
use Rattle.print_spec.specs.ReadAnswer.{reading_text}
use Rattle.read_runs.specs.declared.Run.{Run}

-- an address and the first 16 of the words ws, in 16 places; the others are 0
unfoldable pub kept_run : ℕ → List ℕ → Run
kept_run address ws =
    record { ok = true; address = address; count = min 16 (length ws); words = take 16 ws ++ replicate (16 - length ws) 0 }

-- what is not in the form
unfoldable pub no_run : Run
no_run = record { ok = false; address = 0; count = 0; words = replicate 16 0 }

-- the run of fields: the first is the address, the others are the words
abbrev pub run_in : List (List ℕ) → Run
run_in [] = no_run
run_in (f ∷ fs) = cond (is_address_field (number_of f) && are_words fs) (kept_run (magnitude_of (number_of f)) (field_words fs)) no_run

-- the run of a line
unfoldable pub run_of : List ℕ → Run
run_of line = run_in (fields line)

-- the answer to a run that is in the form
unfoldable pub run_text : Run → List ℕ
run_text r = reading_text (read_of (take r.count r.words) r.address)

-- the answer to a line
unfoldable pub kept_answer_of : List ℕ → List ℕ
kept_answer_of line = let r = run_of line in cond r.ok (run_text r) not_in_form
