use Rattle.read_runs.specs.Kept.{no_run}
use mathlib.Core.Path.{refl}
use Rattle.read_runs.proofs.no_run.Goals as goal

pub returns : goal.returns
unfolding no_run
returns c = refl
