-- What the chart looks at in a message.
use Rattle.std.specs.Prelude.{◌≡◌, ◌++◌, Option, Some, None, ◌&&◌, cond, ℕ, ◌+◌, ◌≤◌, length, take, drop, replicate, leb, Bool, true, false}
use Rattle.lane.specs.Record.{no_forecast}
use Rattle.lane.specs.declared.Event.{Event}
use Rattle.lane.specs.declared.ids.Forecast.{Forecast}
use Rattle.grammar.specs.Bytes.{Bytes}
use Rattle.value.specs.Text.{Text}
use Rattle.value.specs.declared.text.Span.{Span}
use Rattle.message.specs.Fields.{the_words}
use Rattle.message.specs.Messages.{id_of, called}
use Rattle.message.specs.declared.cells.Message.{Message}
use Rattle.meant.specs.Meant.{text_at}

-- the ForecastId of a message: none, or these bytes; `ForecastId=""` is an id of no bytes
pub data Carried : Type 0 where
  no_forecast_case : Carried
  a_forecast : (id : Bytes) → Carried

-- "with a length, zeros behind"
abbrev pub forecast_of : Carried → Forecast
forecast_of no_forecast_case = no_forecast
forecast_of (a_forecast id) = record { length = length id; bytes = id ++ drop (length id) (replicate 80 0) }

-- as an event has it
abbrev pub forecast_told : Carried → Option Forecast
forecast_told no_forecast_case = None
forecast_told (a_forecast id) = Some (forecast_of (a_forecast id))

abbrev pub event_with : ℕ → Bytes → Carried → Event
event_with k id f = record { kind = k; id = id; forecast = forecast_told f }

abbrev pub event_of : Message → Carried → Event
event_of m f = event_with m.kind (id_of m) f

-- the value ForecastId of a message
unfoldable pub forecast_id : Message → Option Span
forecast_id m = the_words (called "ForecastId" m)

-- received in s: the bytes that the value reads as
pub data Carries (s : Bytes) (w : Option Span) (f : Carried) : Type 0 where
  carries_none : w ≡ None → f ≡ no_forecast_case → Carries s w f
  carries_one : (p : Span) → w ≡ Some p → (v : Bytes) → Text (take p.len (drop p.start s)) v → f ≡ a_forecast v → Carries s w f

-- to be sent: the part of the texts; one that is too long or runs outside is refused before it is looked at
abbrev pub carried_in : Bytes → Option Span → Carried
carried_in texts None = no_forecast_case
carried_in texts (Some p) = cond (leb p.len 80 && leb (p.start + p.len) (length texts)) (a_forecast (text_at texts p)) no_forecast_case

unfoldable pub carried_by : Message → Bytes → Carried
carried_by m texts = carried_in texts (forecast_id m)

abbrev pub event_sent : Message → Bytes → Event
event_sent m texts = event_of m (carried_by m texts)

-- a text of s that `check` let pass: of at most 80 bytes
abbrev pub Sound : Bytes → Option Span → Type 0
Sound s w = (p : Span) → w ≡ Some p → (v : Bytes) × Text (take p.len (drop p.start s)) v × (p.start + p.len ≤ length s) × (length v ≤ 80)
