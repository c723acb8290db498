-- BoardForecast: its struct and its fields.
use Rattle.std.specs.Prelude.{List, ◌∷◌, drop}
use Rattle.lane.specs.Names.{BoardForecast}
use Rattle.message.specs.Fields.{Field, a_words, a_measure, a_guid, the_words, the_measure, the_id}
use Rattle.message.specs.declared.cells.Message.{Message}
use Rattle.structs.specs.BoardPart.{part_from, part_fields}
use Rattle.structs.specs.OfKind.{nth, of_kind}
use Rattle.structs.specs.declared.forecasts.BoardForecast.{BoardForecast as Forecast}

-- "ForecastId text 80 opt; TimeUntilAvailable positive opt; BoardId GUID opt; BoardIdCreatedBy text 80 opt", and what a BoardAvailable says of the board:
-- the struct of its fields; without fields all is absent
unfoldable pub forecast_from : List Field → Forecast
forecast_from l = record {
  forecast = the_words (nth 0 l);
  until = the_measure (nth 1 l);
  id = the_id (nth 2 l);
  by = the_words (nth 3 l);
  board = part_from (drop 4 l);
}

-- of a message; all is absent if it is of another kind
abbrev pub forecast_in : Message → Forecast
forecast_in m = forecast_from (of_kind BoardForecast m)

-- its fields
unfoldable pub forecast_fields : Forecast → List Field
forecast_fields b = a_words b.forecast ∷ a_measure b.until ∷ a_guid b.id ∷ a_words b.by ∷ part_fields b.board
