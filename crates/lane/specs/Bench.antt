-- The bench cases P11 and P12, cases of records that we never write, and those of order 3, as rows of tables that compute.
use Rattle.std.specs.Prelude.{List, [], ◌∷◌, ◌++◌, ℕ, replicate, Some, None}
use Rattle.lane.specs.Names.{U, D, NotConnected, DescribedDown, Idle, Offered, Ready, Both, Transporting, Stopped, Finished, ServiceDescription, BoardAvailable, RevokeBoardAvailable, MachineReady, StartTransport, StopTransport, CheckAlive, BoardForecast, NoOrder, Cancel, StopNow, Accepted, MayNotBeSent, ProtocolError}
use Rattle.lane.specs.Chart.{pick}
use Rattle.lane.specs.Record.{no_id, no_forecast, fresh, offered_used, running_used, received, sent}
use Rattle.lane.specs.declared.Event.{Event}
use Rattle.lane.specs.declared.Lane.{Lane}
use Rattle.lane.specs.declared.Moved.{Moved}
use Rattle.lane.specs.declared.ids.Forecast.{Forecast}

-- A case: what a call answers, and what it is to answer.
pub record Case : Type 0 where
  pub answer : Moved
  pub wanted : Moved

infix 70 ◌gives◌
abbrev ◌gives◌ : Moved → Moved → Case
m gives w = record { answer = m; wanted = w }

abbrev keeping : Forecast → ℕ → ℕ → List ℕ → List ℕ → Lane
keeping f side state offered running = record { side = side; state = state; offered = offered; running = running; forecast = f }

abbrev lane : ℕ → ℕ → List ℕ → List ℕ → Lane
lane = keeping no_forecast

abbrev moved : ℕ → Lane → ℕ → Moved
moved refusal l order = record { refusal = refusal; lane = l; order = order }

abbrev pub event : ℕ → List ℕ → Event
event kind id = record { kind = kind; id = id; forecast = None }

-- two ids
abbrev pub a : List ℕ
a = replicate 36 97

abbrev b : List ℕ
b = replicate 36 98

-- no side, state or kind of ours
abbrev strange : ℕ
strange = 200

unfoldable pub bench : List Case
bench =
    -- P11 "StartTransport received in Ready: Transporting, order 2."
    received (lane U Ready no_id no_id) (event StartTransport a) gives moved Accepted (lane U Transporting no_id a) Cancel ∷
    -- P12 "StopTransport for another id in Transporting: 9, order 3."
    received (lane U Transporting no_id a) (event StopTransport b) gives moved ProtocolError (lane U NotConnected no_id no_id) StopNow ∷
    -- a revoked offer does not start the belt, though its id is still in the record
    received (lane U Ready a no_id) (event StartTransport a) gives moved Accepted (lane U Transporting no_id a) Cancel ∷
    -- an unknown state: no transition, and no board is under way; a free kind passes, and ids not in use become zero
    received (lane U strange a b) (event MachineReady a) gives moved ProtocolError (lane U NotConnected no_id no_id) NoOrder ∷
    received (lane U strange a b) (event CheckAlive a) gives moved Accepted (lane U strange no_id no_id) NoOrder ∷
    sent (lane U strange a b) (event BoardAvailable a) gives moved MayNotBeSent (lane U strange a b) NoOrder ∷
    -- an unknown side: neither sender
    received (lane 0 Idle a b) (event MachineReady a) gives moved ProtocolError (lane 0 NotConnected no_id no_id) NoOrder ∷
    sent (lane 0 Idle a b) (event BoardAvailable a) gives moved MayNotBeSent (lane 0 Idle a b) NoOrder ∷
    -- a number above 11 is no kind: no transition
    received (lane U Transporting no_id a) (event strange a) gives moved ProtocolError (lane U NotConnected no_id no_id) StopNow ∷
    sent (lane D Both a no_id) (event strange a) gives moved MayNotBeSent (lane D Both a no_id) NoOrder ∷
    []

-- Order 3: two ForecastIds of five bytes
abbrev forecast : ℕ → List ℕ → Forecast
forecast n bytes = record { length = n; bytes = bytes }

abbrev pub p : Forecast
p = forecast 5 (replicate 5 112 ++ replicate 75 0)

abbrev q : Forecast
q = forecast 5 (replicate 5 113 ++ replicate 75 0)

-- p with a byte more, and with a zero more
abbrev longer : Forecast
longer = forecast 6 (replicate 6 112 ++ replicate 74 0)

abbrev zero_more : Forecast
zero_more = forecast 6 (replicate 5 112 ++ replicate 75 0)

-- p with rubbish behind
abbrev rubbish : Forecast
rubbish = forecast 5 (replicate 80 112)

-- a length that is never written
abbrev over : Forecast
over = forecast 81 (replicate 80 112)

-- a message with a ForecastId, and one without
abbrev pub carrying : ℕ → Forecast → Event
carrying kind f = record { kind = kind; id = no_id; forecast = Some f }

abbrev pub bare : ℕ → Event
bare kind = record { kind = kind; id = no_id; forecast = None }

-- a lane of either side, with the ids that its state uses
abbrev pub down : ℕ → Forecast → Lane
down s f = keeping f D s (pick (offered_used s) a no_id) (pick (running_used s) a no_id)

abbrev up : ℕ → Forecast → Lane
up s f = keeping f U s (pick (offered_used s) a no_id) (pick (running_used s) a no_id)

-- a forecast: taken, refused with an order, sent, not sent
abbrev taken : ℕ → Case
taken s = received (down s p) (carrying BoardForecast q) gives moved Accepted (down s q) NoOrder

abbrev refused : ℕ → ℕ → Case
refused s order = received (down s p) (carrying BoardForecast q) gives moved ProtocolError (fresh D) order

abbrev goes : ℕ → Case
goes s = sent (up s p) (carrying BoardForecast q) gives moved Accepted (up s p) NoOrder

abbrev stays : ℕ → Case
stays s = sent (up s p) (carrying BoardForecast q) gives moved MayNotBeSent (up s p) NoOrder

unfoldable pub forecasts : List Case
forecasts =
    -- "Received, it is also taken in Transporting and Stopped"; "elsewhere a forecast is 9 received"
    taken Idle ∷
    taken Ready ∷
    taken Transporting ∷
    taken Stopped ∷
    refused NotConnected NoOrder ∷
    refused DescribedDown NoOrder ∷
    refused Offered NoOrder ∷
    refused Both NoOrder ∷
    refused Finished StopNow ∷
    refused strange NoOrder ∷
    received (up Idle p) (carrying BoardForecast q) gives moved ProtocolError (fresh U) NoOrder ∷
    -- "It is sent in Idle and Ready only"; "one sent, leaves it"; "8 sent"
    goes Idle ∷
    goes Ready ∷
    stays NotConnected ∷
    stays DescribedDown ∷
    stays Offered ∷
    stays Both ∷
    stays Transporting ∷
    stays Stopped ∷
    stays Finished ∷
    stays strange ∷
    sent (down Idle p) (carrying BoardForecast q) gives moved MayNotBeSent (down Idle p) NoOrder ∷
    -- "one without an id .. leaves it"; an id of no bytes is an id, and nothing is kept; rubbish behind an id, and an id that is too long
    received (down Ready q) (bare BoardForecast) gives moved Accepted (down Ready q) NoOrder ∷
    received (down Idle p) (carrying BoardForecast no_forecast) gives moved Accepted (down Idle no_forecast) NoOrder ∷
    received (down Idle q) (carrying BoardForecast rubbish) gives moved Accepted (down Idle p) NoOrder ∷
    received (down Idle q) (carrying BoardForecast over) gives moved Accepted (down Idle no_forecast) NoOrder ∷
    -- "cleared when a MachineReady carrying the same id passes": not with another id, a longer one, or none; not if it may not be sent
    sent (down Idle p) (carrying MachineReady p) gives moved Accepted (down Ready no_forecast) NoOrder ∷
    sent (down Idle p) (carrying MachineReady rubbish) gives moved Accepted (down Ready no_forecast) NoOrder ∷
    sent (down Idle p) (carrying MachineReady q) gives moved Accepted (down Ready p) NoOrder ∷
    sent (down Idle p) (carrying MachineReady longer) gives moved Accepted (down Ready p) NoOrder ∷
    sent (down Idle p) (carrying MachineReady zero_more) gives moved Accepted (down Ready p) NoOrder ∷
    sent (down Idle p) (carrying MachineReady no_forecast) gives moved Accepted (down Ready p) NoOrder ∷
    sent (down Offered p) (bare MachineReady) gives moved Accepted (down Both p) NoOrder ∷
    sent (down Ready p) (carrying MachineReady p) gives moved MayNotBeSent (down Ready p) NoOrder ∷
    received (up Offered p) (carrying MachineReady p) gives moved Accepted (up Both no_forecast) NoOrder ∷
    received (up Offered p) (carrying MachineReady q) gives moved Accepted (up Both p) NoOrder ∷
    received (up Idle p) (bare MachineReady) gives moved Accepted (up Ready p) NoOrder ∷
    -- other messages leave it, and what stands before Idle does not count
    received (down Both p) (carrying RevokeBoardAvailable p) gives moved Accepted (down Ready p) NoOrder ∷
    sent (down NotConnected p) (bare ServiceDescription) gives moved Accepted (down DescribedDown no_forecast) NoOrder ∷
    received (down DescribedDown p) (bare ServiceDescription) gives moved Accepted (down Idle no_forecast) NoOrder ∷
    -- a record that we never write is put right by an accepted message, and kept bit for bit by a refusal
    received (down Idle over) (bare CheckAlive) gives moved Accepted (down Idle no_forecast) NoOrder ∷
    sent (down Idle over) (carrying MachineReady over) gives moved Accepted (down Ready no_forecast) NoOrder ∷
    sent (down Idle over) (bare BoardForecast) gives moved MayNotBeSent (down Idle over) NoOrder ∷
    received (down Idle rubbish) (bare CheckAlive) gives moved Accepted (down Idle p) NoOrder ∷
    sent (down Idle rubbish) (bare BoardForecast) gives moved MayNotBeSent (down Idle rubbish) NoOrder ∷
    []

abbrev pub answers : List Case → List Moved
answers [] = []
answers (c ∷ cs) = c.answer ∷ answers cs

abbrev pub wanted : List Case → List Moved
wanted [] = []
wanted (c ∷ cs) = c.wanted ∷ wanted cs
