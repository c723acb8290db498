-- "A lane record holds our side, one of nine states, the offered BoardId and the running BoardId"; with order 3, "the last ForecastId received in a forecast".
-- What a message, received or sent, makes of it; every record has an answer, also one that we never write.
use Rattle.std.specs.Prelude.{List, [], ◌∷◌, Bool, ℕ, eqb, Option, Some, None}
use Rattle.lane.specs.Names.{U, D, NotConnected, Idle, Offered, Ready, Both, Transporting, Stopped, Finished, BoardAvailable, MachineReady, StartTransport, BoardForecast, NoOrder, Run, Cancel, StopNow, Accepted, MayNotBeSent, ProtocolError}
use Rattle.lane.specs.Chart.{pick, both, among, Received, Sent, next}
pub use Rattle.lane.specs.Ids.{no_id, no_forecast, same_forecast}
unfoldable pub use Rattle.lane.specs.Ids.{same_id, righted}
use Rattle.lane.specs.declared.Event.{Event}
use Rattle.lane.specs.declared.Lane.{Lane}
use Rattle.lane.specs.declared.Moved.{Moved}
use Rattle.lane.specs.declared.ids.Forecast.{Forecast}

-- "A new lane of either side starts as NotConnected"
abbrev pub fresh : ℕ → Lane
fresh side = record { side = side; state = NotConnected; offered = no_id; running = no_id; forecast = no_forecast }

-- "The offered id is in use in Offered and Both"
abbrev pub offered_used : ℕ → Bool
offered_used s = among s (Offered ∷ Both ∷ [])

-- "the running id (the one StartTransport named) in the last three states"
abbrev pub running_used : ℕ → Bool
running_used s = among s (Transporting ∷ Stopped ∷ Finished ∷ [])

-- The ids, once a message has led to state n.
abbrev pub offered_in : ℕ → Lane → Event → List ℕ
offered_in n l e = pick (offered_used n) (pick (eqb e.kind BoardAvailable) e.id l.offered) no_id

abbrev pub running_in : ℕ → Lane → Event → List ℕ
running_in n l e = pick (running_used n) (pick (eqb e.kind StartTransport) e.id l.running) no_id

-- "cleared when .. the lane returns to NotConnected": a forecast is in use from Idle on.
abbrev pub forecast_used : ℕ → Bool
forecast_used s = among s (Idle ∷ Offered ∷ Ready ∷ Both ∷ Transporting ∷ Stopped ∷ Finished ∷ [])

-- The forecast that counts before a message.
abbrev pub forecast_held : Lane → Forecast
forecast_held l = pick (forecast_used l.state) (righted l.forecast) no_forecast

-- "The record keeps the last ForecastId received in a forecast (one without an id, or one sent, leaves it)":
-- what is held behind a forecast that passes, received or sent, with the id that it carries.
abbrev pub replaced : Bool → Forecast → Option Forecast → Forecast
replaced received held None = held
replaced received held (Some named) = pick received (righted named) held

-- "cleared when a MachineReady carrying the same id passes": what is held behind it.
abbrev pub cleared : Forecast → Option Forecast → Forecast
cleared held None = held
cleared held (Some named) = pick (same_forecast held (righted named)) no_forecast held

-- The forecast behind a message that passes, received or sent.
abbrev pub forecast_after : Bool → Forecast → Event → Forecast
forecast_after received held e =
    pick (eqb e.kind BoardForecast) (replaced received held e.forecast)
    (pick (eqb e.kind MachineReady) (cleared held e.forecast) held)

-- The forecast, once a message has led to state n.
abbrev pub forecast_in : Bool → ℕ → Lane → Event → Forecast
forecast_in received n l e = pick (forecast_used n) (forecast_after received (forecast_held l) e) no_forecast

-- A message carries the id that it is held against: StartTransport the offered one, Stop and Finished the running one.
abbrev pub carries_own : Lane → Event → Bool
carries_own l e = same_id (pick (eqb e.kind StartTransport) l.offered l.running) e.id

-- "A received StartTransport in Both with the offered id orders the belt to run (1); with another id, or in Ready, it orders cancel (2)"; "Sent, it .. orders run."
abbrev pub start_order : Lane → Event → ℕ
start_order l e = pick (eqb e.kind StartTransport) (pick (both (eqb l.state Both) (carries_own l e)) Run Cancel) NoOrder

-- "Belt order 3, stop now, is given when a refusal that ends the connection meets Transporting, Stopped or Finished. Otherwise 0."
abbrev pub end_order : ℕ → ℕ
end_order s = pick (among s (Transporting ∷ Stopped ∷ Finished ∷ [])) StopNow NoOrder

-- A record comes of another one in three ways: kept, blank, accepted.

-- A refusal that keeps the record: "a kept record keeps them too", bit for bit.
abbrev pub kept : Lane → ℕ → Moved
kept l refusal = record { refusal = refusal; lane = l; order = NoOrder }

-- "a lost connection brings it back" to NotConnected; the rest of the record stays.
abbrev pub blank : Lane → Lane
blank l = record { side = l.side; state = NotConnected; offered = no_id; running = no_id; forecast = no_forecast }

-- An accepted message, received or sent, that leads to state n.
abbrev pub accepted : Bool → ℕ → Lane → Event → Moved
accepted received n l e =
    record {
      refusal = Accepted;
      lane = record {
        side = l.side;
        state = n;
        offered = offered_in n l e;
        running = running_in n l e;
        forecast = forecast_in received n l e;
      };
      order = start_order l e;
    }

-- What an accepted message other than a forecast and MachineReady leaves: the next state, the ids there, and the forecast that was kept.
abbrev pub ordinary : Lane → ℕ → List ℕ → List ℕ → Lane
ordinary l n offered running =
    record {
      side = l.side;
      state = n;
      offered = offered;
      running = running;
      forecast = pick (forecast_used n) (forecast_held l) no_forecast;
    }

-- A refusal that ends the connection: the record becomes NotConnected.
abbrev pub ended : Lane → ℕ → Moved
ended l refusal = record { refusal = refusal; lane = blank l; order = end_order l.state }

-- The answer, by the chart's step: accepted, or else the refusal.
abbrev pub answer : Bool → Option ℕ → Lane → Event → Moved → Moved
answer received (Some n) l e refused = accepted received n l e
answer received None l e refused = refused

-- What we receive, the other side has sent; to a side that is neither U nor D, nobody sends.
abbrev pub other : ℕ → ℕ
other side = pick (eqb side U) D (pick (eqb side D) U 0)

-- The chart's step for a message that is received, and for one that is to be sent.
abbrev pub step_in : Lane → Event → Option ℕ
step_in l e = next l.state e.kind (other l.side) Received (carries_own l e)

abbrev pub step_out : Lane → Event → Option ℕ
step_out l e = next l.state e.kind l.side Sent (carries_own l e)

-- A received message without a transition: "9 .. protocol error | NotConnected".
unfoldable pub received : Lane → Event → Moved
received l e = answer Received (step_in l e) l e (ended l ProtocolError)

-- A message that is to be sent without a transition: "8 | may not be sent | kept".
unfoldable pub sent : Lane → Event → Moved
sent l e = answer Sent (step_out l e) l e (kept l MayNotBeSent)
