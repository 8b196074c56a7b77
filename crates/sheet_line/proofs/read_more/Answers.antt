use Rattle.sheet_line.specs.LineRead.{read_more}
use Rattle.sheet_line.proofs.read_more.Goals as goal

pub returns : goal.returns
unfolding read_more
returns c = rw (c.names_line.ensures, c.says_label.ensures)
