-- Order 3: forecasts come "from upstream", so that a new upstream lane never keeps a ForecastId.
-- Two lanes that see one handover have the same forecast only if the downstream one keeps none.
use Rattle.std.specs.Prelude.{◌≡◌, refl, List, [], ◌∷◌, Bool, true, false, ℕ, eqb, Option, Some, None}
use Rattle.std.proofs.Common.{ap, ◌∙◌, arith, eqb-true}
use Rattle.lane.specs.Names.{U, D, MachineReady, BoardForecast}
use Rattle.lane.specs.Chart.{pick, both, Received, Sent}
use Rattle.lane.specs.Ids.{no_forecast, righted, same_forecast}
use Rattle.lane.specs.Record.{fresh, forecast_used, forecast_held, replaced, cleared, forecast_after, forecast_in, carries_own, other, step_in, step_out, received, sent}
use Rattle.lane.proofs.Laws.{clash, same_picked, none_right, received_by_lem, sent_by}
use Rattle.lane.specs.StepForStep.{Happening, gets, sends, ends, loses, after, final}
use Rattle.lane.proofs.Forecasts.{forecast_step}
use Rattle.lane.specs.declared.Event.{Event}
use Rattle.lane.specs.declared.Lane.{Lane}
use Rattle.lane.specs.declared.ids.Forecast.{Forecast}

-- by the tests of a message (A: a forecast, B: a MachineReady, C: it carries an id, S: the same one)
by_tests : (A B C S r : Bool) (f : Forecast) → both A r ≡ false
    → pick A (pick (both C r) f no_forecast) (pick B (pick (both C S) no_forecast no_forecast) no_forecast) ≡ no_forecast
by_tests true B C S true f h = clash h
by_tests true B true S false f h = refl
by_tests true B false S false f h = refl
by_tests false B C S r f h = rw (same_picked (both C S) no_forecast) (same_picked B no_forecast)

-- and by whether it carries an id
by_id : (A B r : Bool) (o : Option Forecast) → both A r ≡ false
    → pick A (replaced r no_forecast o) (pick B (cleared no_forecast o) no_forecast) ≡ no_forecast
by_id A B r None h = by_tests A B false false r no_forecast h
by_id A B r (Some f) h = by_tests A B true (same_forecast no_forecast (righted f)) r (righted f) h

-- an upstream lane that keeps none
pub record Bare (l : Lane) : Type 0 where
  pub ours : l.side ≡ U
  pub none : l.forecast ≡ no_forecast

module _ (l : Lane) (bare : Bare l) where
  held_none : forecast_held l ≡ no_forecast
  held_none = rw (bare.none, none_right) (same_picked (forecast_used l.state) no_forecast)

  stays_none : (r : Bool) (n : ℕ) (e : Event) → both (eqb e.kind BoardForecast) r ≡ false → forecast_in r n l e ≡ no_forecast
  stays_none r n e h =
      ap (λ (f : Forecast). pick (forecast_used n) (forecast_after r f e) no_forecast) held_none
      ∙ ap (λ (f : Forecast). pick (forecast_used n) f no_forecast)
      (by_id (eqb e.kind BoardForecast) (eqb e.kind MachineReady) r e.forecast h)
      ∙ same_picked (forecast_used n) no_forecast

  not_taken : (e : Event) (n : ℕ) → step_in l e ≡ Some n → both (eqb e.kind BoardForecast) Received ≡ false
  not_taken e n q = go (eqb e.kind BoardForecast) refl
    where
      go : (z : Bool) → eqb e.kind BoardForecast ≡ z → both z Received ≡ false
      go true w =
          let f = forecast_step l.state e.kind (other l.side) Received (carries_own l e) n (eqb-true e.kind BoardForecast w) q in
          absurd (let x : ◌≡◌ {A = ℕ} D U = rw bare.ours at f.sender in omega arith)
      go false w = refl

  sent_not : (e : Event) → both (eqb e.kind BoardForecast) Sent ≡ false
  sent_not e = go (eqb e.kind BoardForecast)
    where
      go : (z : Bool) → both z Sent ≡ false
      go true = refl
      go false = refl

  bare_after : (h : Happening) → Bare (after l h)
  bare_after (gets e) = go (step_in l e) refl
    where
      go : (st : Option ℕ) → step_in l e ≡ st → Bare (received l e).lane
      go (Some n) q = rw (received_by_lem l e (Some n) q) (record { ours = bare.ours; none = stays_none Received n e (not_taken e n q) })
      go None q = rw (received_by_lem l e None q) (record { ours = bare.ours; none = refl })
  bare_after (sends e) = go (step_out l e) refl
    where
      go : (st : Option ℕ) → step_out l e ≡ st → Bare (sent l e).lane
      go (Some n) q = rw (sent_by l e (Some n) q) (record { ours = bare.ours; none = stays_none Sent n e (sent_not e) })
      go None q = rw (sent_by l e None q) bare
  bare_after (ends refusal) = record { ours = bare.ours; none = refl }
  bare_after loses = record { ours = bare.ours; none = refl }

bare_final : (l : Lane) → Bare l → (hs : List Happening) → Bare (final l hs)
bare_final l b [] = b
bare_final l b (h ∷ hs) = bare_final (after l h) (bare_after l b h) hs

pub upstream_keeps_none : (hs : List Happening) → (final (fresh U) hs).forecast ≡ no_forecast
upstream_keeps_none hs = (bare_final (fresh U) (record { ours = refl; none = refl }) hs).none
