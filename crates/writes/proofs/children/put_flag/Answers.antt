-- Nothing, or what starts the tag and what ends it.
use Rattle.std.proofs.Common.{refl}
use Rattle.printing.proofs.PieceLaws.{has_room, first_fits, rest_fits, last_put, and_put, all_put, none_put}
use Rattle.writes.proofs.ChildLaws.{flag_none, flag_is}
use Rattle.writes.proofs.children.put_flag.Goals as goal

-- Nothing, or what starts the tag and what ends it.
pub returns-then-there-eq0 : goal.returns-then-there-eq0
returns-then-there-eq0 c = none_put c.args.out.now c.args.at (flag_none c.args.there c.args.name.now c.if-there-eq0.true)

pub put_start-a-requires : goal.put_start-a-requires
put_start-a-requires c = first_fits (has_room (flag_is c.args.there c.if-there-eq0.false refl) c.requires)

pub put_empty-requires : goal.put_empty-requires
put_empty-requires c = first_fits (rest_fits (has_room (flag_is c.args.there c.if-there-eq0.false refl) c.requires) c.put_start-a.ensures.next)

pub returns : goal.returns
returns c = all_put (flag_is c.args.there c.if-there-eq0.false refl) (and_put c.put_start-a.ensures (last_put c.put_empty.ensures))
