use Rattle.m68000_answers.specs.Kept.{run_68000_text}
use Rattle.m68000_answers.proofs.put_run.Goals as goal

pub returns : goal.returns
unfolding run_68000_text
returns c = rw c.read_68000.ensures at c.put_reading.ensures
