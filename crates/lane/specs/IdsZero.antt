-- T2.L3: an id not in use is zero bytes in every record that comes with an accepted message or as NotConnected; its forecast has "zeros behind".
-- T2.L4: a message that may not be sent leaves the record as it was, bit for bit.
use Rattle.std.specs.Prelude.{◌≡◌, false, ◌-◌, ◌≤◌, length, drop, replicate}
use Rattle.lane.specs.Ids.{no_forecast, righted}
use Rattle.lane.specs.Record.{no_id, offered_used, running_used, forecast_used}
use Rattle.lane.specs.declared.Lane.{Lane}
use Rattle.lane.specs.declared.ids.Forecast.{Forecast}

pub record IdsZero (l : Lane) : Type 0 where
  pub offered : offered_used l.state ≡ false → l.offered ≡ no_id
  pub running : running_used l.state ≡ false → l.running ≡ no_id
  pub forecast : forecast_used l.state ≡ false → l.forecast ≡ no_forecast
  pub right : righted l.forecast ≡ l.forecast

-- A forecast that reads as it stands: of up to 80 bytes, with zeros behind, 80 in all.
pub record ZerosBehind (f : Forecast) : Type 0 where
  pub short : f.length ≤ 80
  pub long : length f.bytes ≡ 80
  pub behind : drop f.length f.bytes ≡ replicate (80 - f.length) 0
