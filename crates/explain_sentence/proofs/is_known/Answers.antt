use Rattle.explain_spec.specs.Sentence.{is_known}
use Rattle.explain_sentence.proofs.is_known.Goals as goal

pub returns : goal.returns
unfolding is_known
returns c = rw (c.knows_detail.ensures, c.has_wrong.ensures)
