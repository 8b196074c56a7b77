use Rattle.std.proofs.Common.{◌∙◌}
use Rattle.sheet_blocks.proofs.Laws.{line_encoded_lem}
use Rattle.sheet_blocks.proofs.encoded.Goals as goal

pub returns : goal.returns
returns c = let a = c.args in c.encoded_as.ensures ∙ line_encoded_lem _ _ a.address c.built-b.result c.built-b.ensures
