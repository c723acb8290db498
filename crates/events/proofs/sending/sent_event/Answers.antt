-- The event is that of its forecast.
use Rattle.events.proofs.NameLaws.{given}
use Rattle.events.proofs.sending.sent_event.Goals as goal

pub returns : goal.returns
returns c = given c.sent_forecast.ensures
