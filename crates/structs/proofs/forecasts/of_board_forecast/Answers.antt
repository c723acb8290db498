-- Field by field.
use Rattle.lane.specs.Names.{BoardForecast}
use Rattle.structs.specs.BoardPart.{part_fields}
use Rattle.structs.specs.Celled.{all_laid}
use Rattle.structs.specs.Forecasts.{forecast_fields}
use Rattle.structs.proofs.LayLaws.{message_laid}
use Rattle.structs.proofs.forecasts.of_board_forecast.Goals as goal

-- Field by field.
pub returns : goal.returns
unfolding all_laid forecast_fields part_fields
returns c =
    message_laid BoardForecast (forecast_fields c.args.v)
    (rw (c.put_board-cells.ensures, c.put-cells-3.ensures, c.put_id-cells.ensures, c.put-cells-2.ensures, c.put-cells.ensures))
    c.bytes_in.ensures
