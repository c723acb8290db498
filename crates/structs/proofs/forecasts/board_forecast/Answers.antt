-- Field by field.
use mathlib.Core.Path.{◌≡◌, refl}
use mathlib.Core.List.{[]}
use Rattle.grammar.specs.Bytes.{Bytes}
use Rattle.lane.specs.Names.{BoardForecast}
use Rattle.table.specs.Table.{table, rows_of}
use Rattle.message.specs.Cells.{fields_from, field_by, words_by, whole_by, measure_by, guid_by}
use Rattle.structs.specs.BoardPart.{part_from, part_at}
use Rattle.structs.specs.Celled.{zeros}
use Rattle.structs.specs.Forecasts.{forecast_from}
use Rattle.structs.proofs.KindLaws.{made_of}
use Rattle.structs.proofs.forecasts.board_forecast.Goals as goal

-- Field by field.
-- of zeros as of no fields
none : (id : Bytes) → forecast_from (fields_from (rows_of BoardForecast) 0 zeros id) ≡ forecast_from []
unfolding table forecast_from part_from fields_from field_by words_by whole_by measure_by guid_by
none id = refl

pub returns : goal.returns
unfolding table forecast_from part_from part_at fields_from field_by
returns c =
    rw (c.at.ensures, c.at-2.ensures, c.id_at.ensures, c.at-3.ensures, c.board_at.ensures)
    (made_of forecast_from BoardForecast c.args.m none c.cells_if-cells.ensures)
