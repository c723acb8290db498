-- With a ForecastId, or without.
use Rattle.events.proofs.NameLaws.{got_none, got_one}
use Rattle.events.proofs.receiving.received_event.Goals as goal

-- src/receiving.rt:23:1
pub returns-in-None : goal.returns-in-None
returns-in-None c = got_none c.forecast_words.ensures c.in-None.is

-- src/receiving.rt:23:1
pub returns-in-Some : goal.returns-in-Some
returns-in-Some c = got_one c.forecast_words.ensures c.in-Some.p c.in-Some.is c.read_at.ensures c.requires
