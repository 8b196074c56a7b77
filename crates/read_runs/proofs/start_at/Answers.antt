use Rattle.read_runs.specs.Step.{start_at}
use Rattle.read_runs.proofs.start_at.Goals as goal

pub returns-then-negative-magnitude : goal.returns-then-negative-magnitude
unfolding start_at
returns-then-negative-magnitude c = rw c.if-negative-magnitude.true

pub returns : goal.returns
unfolding start_at
returns c = rw c.if-negative-magnitude.false c.no_run.ensures
