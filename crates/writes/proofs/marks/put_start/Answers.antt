-- The byte, then the name.
use Rattle.printing.proofs.PieceLaws.{has_room, first_fits, rest_fits, last_put, and_put, all_put}
use Rattle.writes.proofs.ChildLaws.{start_is}
use Rattle.writes.proofs.marks.put_start.Goals as goal

-- The byte, then the name.
pub put_byte-a-requires : goal.put_byte-a-requires
put_byte-a-requires c = first_fits (has_room (start_is c.args.name.now) c.requires)

pub put-requires : goal.put-requires
put-requires c = first_fits (rest_fits (has_room (start_is c.args.name.now) c.requires) c.put_byte-a.ensures.next)

pub returns : goal.returns
returns c = all_put (start_is c.args.name.now) (and_put c.put_byte-a.ensures (last_put c.put.ensures))
