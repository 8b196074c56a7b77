use mathlib.Core.Path.{◌∙◌, sym}
use Rattle.base_text.specs.NumbersLaws.{placed_number_lem, no_room}
use Rattle.base_text.proofs.place_number.Goals as goal

pub returns-then-r-count : goal.returns-then-r-count
returns-then-r-count c = placed_number_lem c.args.r c.args.negative c.args.magnitude c.if-r-count.true

pub returns : goal.returns
returns c = c.no_numbers.ensures ∙ sym (no_room c.args.r c.args.negative c.args.magnitude c.if-r-count.false)
