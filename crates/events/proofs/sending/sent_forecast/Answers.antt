-- With a ForecastId, or without.
use native.Mathlib.Omega.{arith}
use Rattle.events.proofs.NameLaws.{sends_none, sends_one}
use Rattle.events.proofs.sending.sent_forecast.Goals as goal

pub returns-in_default : goal.returns-in_default
returns-in_default c = sends_none c.forecast_words.ensures c.in_default.is

pub returns : goal.returns
returns c = sends_one c.forecast_words.ensures c.in-Some.p c.in-Some.is (omega arith) (omega arith) c.kept.ensures
