-- Worked examples: the numbers, and what the definitions say for each state and just beyond. They hold by computation.
use Rattle.std.specs.Prelude.{◌≡◌, refl, List, [], ◌∷◌, ◌++◌, true, false, ℕ, replicate}
use Rattle.lane.specs.Names.{U, D, NotConnected, DescribedDown, Idle, Offered, Ready, Both, Transporting, Stopped, Finished, Unknown, ServiceDescription, Notification, BoardAvailable, RevokeBoardAvailable, MachineReady, RevokeMachineReady, StartTransport, StopTransport, TransportFinished, CheckAlive, BoardForecast, NoOrder, Run, Cancel, StopNow, Accepted, MayNotBeSent, ProtocolError}
use Rattle.lane.specs.Record.{no_id, same_id, no_forecast, righted, same_forecast, fresh, blank, offered_used, running_used, forecast_used, offered_in, running_in, carries_own, start_order, end_order, ended, other}
use Rattle.lane.specs.Bench.{event}
use Rattle.lane.specs.declared.Lane.{Lane}
use Rattle.lane.specs.declared.ids.Forecast.{Forecast}

-- the kinds have the attribute table's numbers, orders and refusals those of their tables; the states go in the chart's order, from 0
pub numbers :
    (Unknown ∷ ServiceDescription ∷ Notification ∷ BoardAvailable ∷ RevokeBoardAvailable ∷ MachineReady ∷ RevokeMachineReady ∷ StartTransport ∷ StopTransport ∷ TransportFinished ∷ CheckAlive ∷ BoardForecast ∷ []
    ≡ 0 ∷ 1 ∷ 2 ∷ 3 ∷ 4 ∷ 5 ∷ 6 ∷ 7 ∷ 8 ∷ 9 ∷ 10 ∷ 11 ∷ [])
    × (NotConnected ∷ DescribedDown ∷ Idle ∷ Offered ∷ Ready ∷ Both ∷ Transporting ∷ Stopped ∷ Finished ∷ [] ≡ 0 ∷ 1 ∷ 2 ∷ 3 ∷ 4 ∷ 5 ∷ 6 ∷ 7 ∷ 8 ∷ [])
    × (NoOrder ∷ Run ∷ Cancel ∷ StopNow ∷ [] ≡ 0 ∷ 1 ∷ 2 ∷ 3 ∷ [])
    × (Accepted ∷ MayNotBeSent ∷ ProtocolError ∷ [] ≡ 0 ∷ 8 ∷ 9 ∷ [])
    × (U ∷ D ∷ [] ≡ 1 ∷ 2 ∷ [])
numbers = (refl, refl, refl, refl, refl)

-- f of the nine states, and of a number that is none
abbrev each : {A : Type 0} → (ℕ → A) → List A
each f = f 0 ∷ f 1 ∷ f 2 ∷ f 3 ∷ f 4 ∷ f 5 ∷ f 6 ∷ f 7 ∷ f 8 ∷ f 9 ∷ []

-- "The offered id is in use in Offered and Both, the running id .. in the last three states."; a forecast from Idle on
pub ids_in_use :
    (each offered_used ≡ false ∷ false ∷ false ∷ true ∷ false ∷ true ∷ false ∷ false ∷ false ∷ false ∷ [])
    × (each running_used ≡ false ∷ false ∷ false ∷ false ∷ false ∷ false ∷ true ∷ true ∷ true ∷ false ∷ [])
    × (each forecast_used ≡ false ∷ false ∷ true ∷ true ∷ true ∷ true ∷ true ∷ true ∷ true ∷ false ∷ [])
ids_in_use = (refl, refl, refl)

-- "stop now, is given when a refusal that ends the connection meets Transporting, Stopped or Finished. Otherwise 0."
pub end_orders : each end_order ≡ 0 ∷ 0 ∷ 0 ∷ 0 ∷ 0 ∷ 0 ∷ 3 ∷ 3 ∷ 3 ∷ 0 ∷ []
end_orders = refl

-- what one side receives, the other sends; nobody else sends
pub others : (other 0 ≡ 0) × (other U ≡ D) × (other D ≡ U) × (other 3 ≡ 0)
others = (refl, refl, refl, refl)

-- three ids: a and c differ in the last byte
abbrev a : List ℕ
a = replicate 36 97

abbrev b : List ℕ
b = 98 ∷ replicate 35 97

abbrev c : List ℕ
c = replicate 35 97 ++ 98 ∷ []

-- 36 zero bytes are no id; one byte that differs, first or last, makes another id
pub ids :
    (no_id ≡ 0 ∷ 0 ∷ 0 ∷ 0 ∷ 0 ∷ 0 ∷ 0 ∷ 0 ∷ 0 ∷ 0 ∷ 0 ∷ 0 ∷ 0 ∷ 0 ∷ 0 ∷ 0 ∷ 0 ∷ 0 ∷ 0 ∷ 0 ∷ 0 ∷ 0 ∷ 0 ∷ 0 ∷ 0 ∷ 0 ∷ 0 ∷ 0 ∷ 0 ∷ 0 ∷ 0 ∷ 0 ∷ 0 ∷ 0 ∷ 0 ∷ 0 ∷ [])
    × (same_id a a ≡ true)
    × (same_id a b ≡ false)
    × (same_id a c ≡ false)
    × (same_id a (97 ∷ a) ≡ false)
    × (same_id [] [] ≡ true)
unfolding same_id
ids = (refl, refl, refl, refl, refl, refl)

-- "with a length, zeros behind": 80 bytes of which a length counts; a length above 80 is none
abbrev forecast : ℕ → List ℕ → Forecast
forecast n bytes = record { length = n; bytes = bytes }

abbrev full : List ℕ
full = replicate 80 97

pub forecast_ids :
    (no_forecast ≡ forecast 0 (replicate 80 0))
    × (righted (forecast 0 full) ≡ no_forecast)
    × (righted (forecast 3 full) ≡ forecast 3 (97 ∷ 97 ∷ 97 ∷ replicate 77 0))
    × (righted (forecast 80 full) ≡ forecast 80 full)
    × (righted (forecast 81 full) ≡ no_forecast)
    × (same_forecast (forecast 3 full) (forecast 3 full) ≡ true)
    × (same_forecast (forecast 3 full) (forecast 4 full) ≡ false)
    × (same_forecast (forecast 3 full) (forecast 3 (97 ∷ 97 ∷ 98 ∷ replicate 77 97)) ≡ false)
unfolding righted same_id
forecast_ids = (refl, refl, refl, refl, refl, refl, refl, refl)

-- a lane with both ids, in a state
abbrev lane : ℕ → Lane
lane s = record { side = D; state = s; offered = a; running = b; forecast = no_forecast }

-- BoardAvailable names the offered id, StartTransport the running one; another message keeps the one in use, and none is kept out of use
pub ids_in_lem :
    (offered_in Offered (lane Idle) (event BoardAvailable c) ≡ c)
    × (offered_in Both (lane Offered) (event MachineReady c) ≡ a)
    × (offered_in Idle (lane Idle) (event Notification c) ≡ no_id)
    × (running_in Transporting (lane Both) (event StartTransport c) ≡ c)
    × (running_in Finished (lane Transporting) (event TransportFinished c) ≡ b)
    × (running_in Both (lane Both) (event CheckAlive c) ≡ no_id)
ids_in_lem = (refl, refl, refl, refl, refl, refl)

-- a start is held against the offered id, a stop and a finish against the running one
pub own_ids :
    (carries_own (lane Both) (event StartTransport a) ≡ true)
    × (carries_own (lane Both) (event StartTransport b) ≡ false)
    × (carries_own (lane Transporting) (event StopTransport b) ≡ true)
    × (carries_own (lane Transporting) (event StopTransport a) ≡ false)
    × (carries_own (lane Transporting) (event TransportFinished b) ≡ true)
    × (carries_own (lane Transporting) (event TransportFinished a) ≡ false)
unfolding same_id
own_ids = (refl, refl, refl, refl, refl, refl)

-- a start runs the belt in Both with the offered id, and cancels else; the other kinds order nothing
pub start_orders :
    (each (λ s. start_order (lane s) (event StartTransport a)) ≡ 2 ∷ 2 ∷ 2 ∷ 2 ∷ 2 ∷ 1 ∷ 2 ∷ 2 ∷ 2 ∷ 2 ∷ [])
    × (each (λ s. start_order (lane s) (event StartTransport b)) ≡ replicate 10 2)
    × (each (λ s. start_order (lane s) (event MachineReady a)) ≡ replicate 10 0)
    × (each (λ s. start_order (lane s) (event StopTransport b)) ≡ replicate 10 0)
    × (each (λ s. start_order (lane s) (event CheckAlive a)) ≡ replicate 10 0)
unfolding same_id
start_orders = (refl, refl, refl, refl, refl)

-- "A new lane of either side starts as NotConnected, and a lost connection brings it back there", with the ids zero
pub starts :
    (fresh U ≡ record { side = 1; state = 0; offered = replicate 36 0; running = replicate 36 0; forecast = no_forecast })
    × (blank (lane Both) ≡ fresh D)
    × (ended (lane Stopped) 4 ≡ record { refusal = 4; lane = fresh D; order = 3 })
    × (ended (lane Both) 9 ≡ record { refusal = 9; lane = fresh D; order = 0 })
starts = (refl, refl, refl, refl)
