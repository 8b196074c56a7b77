use Rattle.read_spec.specs.Map.{group_at, map}
use Rattle.read_places.specs.Groups.{group_number_of, group_of}
use Rattle.read_layouts.proofs.Laws.{by_rule}
use Rattle.read_layouts.proofs.map.group_number.Goals as goal

pub returns : goal.returns
unfolding group_number_of group_of group_at map
returns c = search (by_rule group_number_of, c.requires)
