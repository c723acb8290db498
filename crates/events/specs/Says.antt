-- What the functions of the crate promise.
use Rattle.std.specs.Prelude.{◌≡◌, List, Option, cond, ℕ, ◌+◌, ◌≤◌, ◌<◌, length, take, drop, eqb}
use Rattle.lane.specs.Names.{MachineReady, BoardForecast}
use Rattle.lane.specs.declared.Event.{Event}
use Rattle.lane.specs.declared.ids.Forecast.{Forecast}
use Rattle.grammar.specs.Bytes.{Bytes}
use Rattle.value.specs.Text.{Text}
use Rattle.value.specs.declared.text.Span.{Span}
use Rattle.message.specs.Cells.{NUMBERS}
use Rattle.message.specs.Messages.{message_by}
use Rattle.meant.specs.Events.{Carried, no_forecast_case, a_forecast, forecast_of, forecast_told, event_with, forecast_id, Carries, carried_in}

-- where the cell of a ForecastId stands: in a MachineReady the second, in a BoardForecast the first; behind all cells if the kind has none
abbrev pub forecast_cell : ℕ → ℕ
forecast_cell k = cond (eqb k MachineReady) 3 (cond (eqb k BoardForecast) 0 NUMBERS)

-- bytes as a lane keeps them: more than 80 are none
pub record Kept (v : Bytes) (r : Forecast) : Type 0 where
  pub says : length v ≤ 80 → r ≡ forecast_of (a_forecast v)
  pub too_long : 80 < length v → r ≡ forecast_of no_forecast_case

-- the ForecastId that stands at the place p of s
pub record Reads (s : Bytes) (p : Span) (r : Forecast) : Type 0 where
  pub says : (v : Bytes) → Text (take p.len (drop p.start s)) v → p.start + p.len ≤ length s → length v ≤ 80 → r ≡ forecast_of (a_forecast v)

-- the value ForecastId of a message of cells
pub record Names (k : ℕ) (cells : List ℕ) (w : Option Span) : Type 0 where
  pub says : (id : Bytes) → w ≡ forecast_id (message_by k cells id)

-- the event of a message of cells that was received in s, whose BoardId is `id`
pub record Got (s : Bytes) (k : ℕ) (cells : List ℕ) (id : Bytes) (r : Event) : Type 0 where
  pub forecast : Carried
  pub carries : (i : Bytes) → Carries s (forecast_id (message_by k cells i)) forecast
  pub is : r ≡ event_with k id forecast

-- the ForecastId of one to be sent with these texts
pub record Forecasts (texts : Bytes) (k : ℕ) (cells : List ℕ) (r : Option Forecast) : Type 0 where
  pub says : (i : Bytes) → r ≡ forecast_told (carried_in texts (forecast_id (message_by k cells i)))

-- and its event
pub record Given (texts : Bytes) (k : ℕ) (cells : List ℕ) (id : Bytes) (r : Event) : Type 0 where
  pub is : (i : Bytes) → r ≡ event_with k id (carried_in texts (forecast_id (message_by k cells i)))
