use mathlib.Core.Path.{refl}
use Rattle.explain_spec.specs.Refusal.{no_refusal}
use Rattle.explain_refusal.proofs.no_refusal.Goals as goal

pub returns : goal.returns
unfolding no_refusal
returns c = refl
