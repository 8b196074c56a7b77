use Rattle.std.proofs.Common.{◌∙◌}
use Rattle.sheet_passes.proofs.Laws.{line_encoded_lem}
use Rattle.sheet_passes.proofs.encoded.Goals as goal

pub returns : goal.returns
returns c =
    let a = c.args in
    let m = c.read_line-made in
    c.encoded_as.ensures ∙ line_encoded_lem a.addresses.now a.line.now a.address _ m.ensures
