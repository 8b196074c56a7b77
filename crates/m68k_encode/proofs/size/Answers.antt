use mathlib.Core.Bool.{false}
use Rattle.encode_spec.specs.Encode.{size_of, refusal_of, words_of}
use Rattle.m68k_facts.specs.Laws.{measured_as_lem}
use Rattle.m68k_encode.proofs.size.Goals as goal

pub returns : goal.returns
unfolding size_of
returns c = let a = c.args in rw (c.measure.ensures, c.encoded.ensures.0) (measured_as_lem (refusal_of false a.instruction 0) (words_of a.instruction 0))
