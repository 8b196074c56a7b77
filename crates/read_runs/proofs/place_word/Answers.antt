use Rattle.read_runs.specs.RunLaws.{placed_yes, placed_no}
use Rattle.read_runs.proofs.place_word.Goals as goal

pub returns-then-r-count : goal.returns-then-r-count
returns-then-r-count c = placed_yes c.args.r c.args.w c.if-r-count.true

pub returns : goal.returns
returns c = placed_no c.args.r c.args.w c.if-r-count.false
