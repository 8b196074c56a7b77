use Rattle.std.proofs.Common.{arith}
use Rattle.base_text.specs.WroteLaws.{wrote}
use Rattle.explain_lines.proofs.Laws.{empty_line}
use Rattle.explain_sentence.proofs.Laws.{wrote_as}
use Rattle.explain_lines.proofs.put_empty.Goals as goal

pub returns : goal.returns
returns c = (wrote_as empty_line (wrote c.put_byte.ensures), omega arith)
