-- What was checked, moved and written, put together.
use native.Mathlib.Omega.{arith}
use Rattle.handover.proofs.ReceiveLaws.{forecast_cells, sound_id, into_all}
use Rattle.handover.proofs.receiving.receive_into.Goals as goal

-- What was checked, moved and written, put together.
pub found-f-requires : goal.found-f-requires
found-f-requires c = c.requires

pub received_event-event-requires : goal.received_event-event-requires
received_event-event-requires c = forecast_cells c.found-f.ensures

pub bounds-cells-0 : goal.bounds-cells-0
bounds-cells-0 c = omega (arith, c.found-f.ensures.long)

pub bounds-cells-1 : goal.bounds-cells-1
bounds-cells-1 c = omega (arith, c.found-f.ensures.long)

pub bounds-cells-3 : goal.bounds-cells-3
bounds-cells-3 c = omega (arith, c.found-f.ensures.long)

pub bounds-cells-4 : goal.bounds-cells-4
bounds-cells-4 c = omega (arith, c.found-f.ensures.long)

pub bounds-cells-5 : goal.bounds-cells-5
bounds-cells-5 c = omega (arith, c.found-f.ensures.long)

pub answer-w-requires : goal.answer-w-requires
answer-w-requires c = sound_id c.args.lane c.found-f.ensures c.received_event-event.ensures c.moved_by-moved.ensures c.asks_reply-asks.ensures c.text_from-alive.ensures

pub returns : goal.returns
returns c = into_all c.args.lane c.found-f.ensures c.received_event-event.ensures c.moved_by-moved.ensures c.asks_reply-asks.ensures c.text_from-alive.ensures c.answer-w.ensures c.finish.ensures
