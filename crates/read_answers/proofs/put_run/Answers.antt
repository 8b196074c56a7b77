use Rattle.read_runs.specs.Kept.{run_text}
use Rattle.read_answers.proofs.put_run.Goals as goal

pub returns : goal.returns
unfolding run_text
returns c = rw c.read.ensures at c.put_reading.ensures
