use Rattle.encode_spec.specs.Encode.{encode_of}
use Rattle.m68k_encode.proofs.encode.Goals as goal

pub returns : goal.returns
unfolding encode_of
returns c = c.encoded.ensures.0
