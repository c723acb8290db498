-- The start of the root, the element by its rows, the end of the root.
use Rattle.printing.proofs.PieceLaws.{has_room, first_fits, rest_fits, last_put, and_put, all_put}
use Rattle.writes.proofs.MessageLaws.{message_is}
use Rattle.writes.proofs.messages.put_message.Goals as goal

-- The start of the root, the element by its rows, the end of the root.
pub put-a-requires : goal.put-a-requires
put-a-requires c = first_fits (has_room (message_is c.args.k c.args.values.now.cells.now c.args.values.now.id.now c.args.values.now.texts.now c.requires.0) c.requires.1)

pub put_start-b-requires : goal.put_start-b-requires
put_start-b-requires c = first_fits (rest_fits (has_room (message_is c.args.k c.args.values.now.cells.now c.args.values.now.id.now c.args.values.now.texts.now c.requires.0) c.requires.1) c.put-a.ensures.next)

pub put_rows-c-requires : goal.put_rows-c-requires
put_rows-c-requires c = (c.requires.0.rows.few, first_fits (rest_fits (rest_fits (has_room (message_is c.args.k c.args.values.now.cells.now c.args.values.now.id.now c.args.values.now.texts.now c.requires.0) c.requires.1) c.put-a.ensures.next) c.put_start-b.ensures.next))

pub put_inside-d-requires : goal.put_inside-d-requires
put_inside-d-requires c = (c.requires.0.rows.few, first_fits (rest_fits (rest_fits (rest_fits (has_room (message_is c.args.k c.args.values.now.cells.now c.args.values.now.id.now c.args.values.now.texts.now c.requires.0) c.requires.1) c.put-a.ensures.next) c.put_start-b.ensures.next) c.put_rows-c.ensures.next))

pub put-requires : goal.put-requires
put-requires c = first_fits (rest_fits (rest_fits (rest_fits (rest_fits (has_room (message_is c.args.k c.args.values.now.cells.now c.args.values.now.id.now c.args.values.now.texts.now c.requires.0) c.requires.1) c.put-a.ensures.next) c.put_start-b.ensures.next) c.put_rows-c.ensures.next) c.put_inside-d.ensures.next)

pub returns : goal.returns
returns c = all_put (message_is c.args.k c.args.values.now.cells.now c.args.values.now.id.now c.args.values.now.texts.now c.requires.0) (and_put c.put-a.ensures (and_put c.put_start-b.ensures (and_put c.put_rows-c.ensures (and_put c.put_inside-d.ensures (last_put c.put.ensures)))))
