-- What stands in front, the text, what stands behind.
use Rattle.printing.proofs.PieceLaws.{has_room, first_fits, rest_fits, last_put, and_put, all_put}
use Rattle.written_back.proofs.ReplyLaws.{framed_is}
use Rattle.written_back.proofs.framed.put_framed.Goals as goal

-- What stands in front, the text, what stands behind.
pub put-a-requires : goal.put-a-requires
put-a-requires c = first_fits (has_room (framed_is c.args.front.now c.args.text.now c.args.back.now) c.requires)

pub put_escaped-b-requires : goal.put_escaped-b-requires
put_escaped-b-requires c = first_fits (rest_fits (has_room (framed_is c.args.front.now c.args.text.now c.args.back.now) c.requires) c.put-a.ensures.next)

pub put-requires : goal.put-requires
put-requires c = first_fits (rest_fits (rest_fits (has_room (framed_is c.args.front.now c.args.text.now c.args.back.now) c.requires) c.put-a.ensures.next) c.put_escaped-b.ensures.next)

pub returns : goal.returns
returns c = all_put (framed_is c.args.front.now c.args.text.now c.args.back.now) (and_put c.put-a.ensures (and_put c.put_escaped-b.ensures (last_put c.put.ensures)))
