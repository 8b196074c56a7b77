use mathlib.Core.Path.{sym}
use Rattle.sheet_field.proofs.Laws.{equal_lengths}
use Rattle.sheet_same.proofs.equal_words.Goals as goal

pub returns-then-v-w : goal.returns-then-v-w
returns-then-v-w c = sym (equal_lengths c.args.v.now c.args.w.now c.if-v-w.true)
