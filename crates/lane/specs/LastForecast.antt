-- Order 3: "The record keeps the last ForecastId received in a forecast (one without an id, or one sent, leaves it) ..,
-- cleared when a MachineReady carrying the same id passes or the lane returns to NotConnected."
use Rattle.std.specs.Prelude.{◌≡◌, List, [], ◌∷◌, Bool, ℕ, eqb, Option, Some, None}
use Rattle.std.specs.Option.{option_map}
use Rattle.lane.specs.Names.{MachineReady, BoardForecast, Accepted}
use Rattle.lane.specs.Chart.{pick, both, Received, Sent}
use Rattle.lane.specs.Ids.{same_id, id_of}
use Rattle.lane.specs.Record.{forecast_used, received, sent}
use Rattle.lane.specs.StepForStep.{Happening, gets, sends, ends, loses, after}
use Rattle.lane.specs.declared.Event.{Event}
use Rattle.lane.specs.declared.Lane.{Lane}
use Rattle.lane.specs.declared.ids.Forecast.{Forecast}

-- The ForecastId that a lane keeps; no bytes: none.
abbrev pub id_kept : Lane → List ℕ
id_kept l = pick (forecast_used l.state) (id_of l.forecast) []

-- What a happening says of a ForecastId.
pub data Saying : Type 0 where
  forecasts : List ℕ → Saying
  readies : List ℕ → Saying
  disconnects : Saying
  silent : Saying

-- a message that passes: a forecast with an id, received; a MachineReady with one, received or sent
abbrev pub says : Bool → ℕ → Option Forecast → Saying
says is_received kind None = silent
says is_received kind (Some named) =
    pick (eqb kind MachineReady) (readies (id_of named))
    (pick (both (eqb kind BoardForecast) is_received) (forecasts (id_of named)) silent)

abbrev pub said : Bool → Event → Saying
said is_received e = says is_received e.kind e.forecast

-- on the lane that it meets: what is refused does not pass, and ends the connection if it was received
abbrev pub saying : Lane → Happening → Saying
saying l (gets e) = pick (eqb (received l e).refusal Accepted) (said Received e) disconnects
saying l (sends e) = pick (eqb (sent l e).refusal Accepted) (said Sent e) silent
saying l (ends refusal) = disconnects
saying l loses = disconnects

-- The last id that a run said, and that was not cleared: from an id that was kept before it.
abbrev pub keeps : List ℕ → Saying → List ℕ
keeps id (forecasts new) = new
keeps id (readies named) = pick (same_id id named) [] id
keeps id disconnects = []
keeps id silent = id

abbrev pub last_said : List ℕ → Lane → List Happening → List ℕ
last_said id l [] = id
last_said id l (h ∷ hs) = last_said (keeps id (saying l h)) (after l h) hs

-- A message of a kind, with a ForecastId.
pub record Carries (e : Event) (k : ℕ) (id : List ℕ) : Type 0 where
  pub kind : e.kind ≡ k
  pub named : option_map id_of e.forecast ≡ Some id
