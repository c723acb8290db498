-- The bytes, the name, the byte.
use Rattle.printing.proofs.PieceLaws.{has_room, first_fits, rest_fits, last_put, and_put, all_put}
use Rattle.writes.proofs.ChildLaws.{end_is}
use Rattle.writes.proofs.marks.put_end.Goals as goal

-- The bytes, the name, the byte.
pub put-a-requires : goal.put-a-requires
put-a-requires c = first_fits (has_room (end_is c.args.name.now) c.requires)

pub put-b-requires : goal.put-b-requires
put-b-requires c = first_fits (rest_fits (has_room (end_is c.args.name.now) c.requires) c.put-a.ensures.next)

pub put_byte-requires : goal.put_byte-requires
put_byte-requires c = first_fits (rest_fits (rest_fits (has_room (end_is c.args.name.now) c.requires) c.put-a.ensures.next) c.put-b.ensures.next)

pub returns : goal.returns
returns c = all_put (end_is c.args.name.now) (and_put c.put-a.ensures (and_put c.put-b.ensures (last_put c.put_byte.ensures)))
