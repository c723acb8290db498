-- By the chart, then by what writing answers.
use Rattle.handover.proofs.SendLaws.{moved_by_lem, is_not_sent, is_refused, is_sent}
use Rattle.handover.proofs.sending.send_from.Goals as goal

-- By the chart, then by what writing answers.
pub returns-then-moved-ne0 : goal.returns-then-moved-ne0
returns-then-moved-ne0 c = is_not_sent c.args.lane _ c.args.texts.now (moved_by_lem c.args.lane c.args.kind c.args.cells.now c.args.id c.args.texts.now c.named_id-named.ensures c.sent_event-event.ensures c.sent-moved.ensures) c.if-moved-ne0.true c.may_not.ensures c.kept.ensures

pub returns-then-w-ne0 : goal.returns-then-w-ne0
returns-then-w-ne0 c = is_refused c.args.lane _ c.args.texts.now (moved_by_lem c.args.lane c.args.kind c.args.cells.now c.args.id c.args.texts.now c.named_id-named.ensures c.sent_event-event.ensures c.sent-moved.ensures) c.if-moved-ne0.false c.put-w.ensures c.if-w-ne0.true c.kept-then-w-ne0.ensures

pub returns : goal.returns
returns c = is_sent c.args.lane _ c.args.texts.now (moved_by_lem c.args.lane c.args.kind c.args.cells.now c.args.id c.args.texts.now c.named_id-named.ensures c.sent_event-event.ensures c.sent-moved.ensures) c.if-moved-ne0.false c.put-w.ensures c.if-w-ne0.false
