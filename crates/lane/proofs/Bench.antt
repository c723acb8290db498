-- The bench cases P11 and P12, cases of records that we never write, and those of order 3, as rows of tables that compute.
use Rattle.std.specs.Prelude.{◌≡◌, refl, [], ◌∷◌}
use Rattle.lane.specs.Names.{Both, Transporting, RevokeBoardAvailable, StartTransport, BoardForecast}
use Rattle.lane.specs.Chart.{next, by_rows, chart}
use Rattle.lane.specs.Record.{same_id, no_forecast, righted, received, sent}
use Rattle.lane.specs.StepForStep.{gets, sends, final}
use Rattle.lane.specs.Bench.{event, a, bench, p, carrying, bare, down, forecasts, answers, wanted}

pub bench_holds : answers bench ≡ wanted bench
unfolding bench received sent same_id righted next by_rows chart
bench_holds = refl

pub forecasts_hold : answers forecasts ≡ wanted forecasts
unfolding forecasts received sent same_id righted next by_rows chart
forecasts_hold = refl

-- "it may cross a StartTransport after a revoke": the running id stays, and the transport goes on
pub crossing :
    final (down Both no_forecast) (sends (event StartTransport a) ∷ gets (bare RevokeBoardAvailable) ∷ gets (carrying BoardForecast p) ∷ []) ≡ down Transporting p
unfolding received sent same_id righted next by_rows chart
crossing = refl
