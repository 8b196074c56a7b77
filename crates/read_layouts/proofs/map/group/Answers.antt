use lib.Dec.{ltb→lt}
use Rattle.read_places.specs.Groups.{group_number_of, group_number, group_of}
use Rattle.read_places.specs.GroupLaws.{number_group}
use Rattle.read_layouts.proofs.Laws.{numbered}
use Rattle.read_layouts.proofs.map.group.Goals as goal

pub bounds-i-i : goal.bounds-i-i
unfolding group_number_of
bounds-i-i c = rw c.group_number-i.ensures (ltb→lt (group_number (group_of c.args.high)) 35 (numbered (group_of c.args.high)).0)

pub returns : goal.returns
unfolding group_number_of
returns c = rw c.group_number-i.ensures (number_group (group_of c.args.high))
