-- The answer to the run of a line that `read_runs` keeps, its first 16 words. `answer_68000_whole` of `m68000_laws` says that this is the answer to all of them.
use Rattle.std.specs.Prelude.{cond, List, ℕ, take}
use Rattle.base_spec.specs.Refused.{not_in_form}
use Rattle.read_runs.specs.declared.Run.{Run}
use Rattle.read_runs.specs.Kept.{run_of}
use Rattle.m68000_spec.specs.Read68000.{read_68000_of}
use Rattle.m68000_spec.specs.Answer68000.{reading_68000_text}

-- the answer to a run that is in the form
unfoldable pub run_68000_text : Run → List ℕ
run_68000_text r = reading_68000_text (read_68000_of (take r.count r.words) r.address)

-- the answer to a line
unfoldable pub kept_68000_answer_of : List ℕ → List ℕ
kept_68000_answer_of line = let r = run_of line in cond r.ok (run_68000_text r) not_in_form
