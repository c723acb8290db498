-- Messages passed between two lanes, one after the other, and the handover of one board.
use Rattle.std.specs.Prelude.{◌≡◌, List, [], ◌∷◌, ◌++◌, cond, ℕ, ◌≤◌, eqb, length, take}
use Rattle.lane.specs.Names.{U, D, DescribedDown, Idle, Offered, Ready, Both, Transporting, Finished, ServiceDescription, BoardAvailable, MachineReady, StartTransport, StopTransport, TransportFinished, BoardForecast, NoOrder, Run}
use Rattle.lane.specs.Record.{no_id, no_forecast, righted, other}
use Rattle.lane.specs.declared.Event.{Event}
use Rattle.lane.specs.declared.Lane.{Lane}
use Rattle.grammar.specs.Bytes.{Bytes}
use Rattle.message.specs.declared.cells.Message.{Message}
use Rattle.meant.specs.Meant.{refusal_of}
use Rattle.meant.specs.Written.{written_of}
use Rattle.meant.specs.Events.{Carried, no_forecast_case, a_forecast, forecast_of, forecast_told, event_sent}
use Rattle.promises.specs.Receiving.{Receives}
use Rattle.promises.specs.Sending.{Sends}
use Rattle.promises.specs.declared.Received.{Received}
use Rattle.promises.specs.declared.Sent.{Sent}

-- a message that one side sends and the other receives
pub record Passing : Type 0 where
  pub message : Message
  pub texts : Bytes
  -- the sender's buffer before and after, and what its call answers
  pub out : Bytes
  pub filled : Bytes
  pub sent : Sent
  -- what stands behind the message at the receiver, its buffer before and after, and what its call answers
  pub rest : Bytes
  pub back : Bytes
  pub replied : Bytes
  pub got : Received

-- both calls keep their promises, on the sender's lane l and the receiver's l', for a message that is not refused, with room enough:
-- nothing that is written back is longer than 525 bytes
pub record Passes (l l' : Lane) (p : Passing) : Type 0 where
  pub sends : Sends l p.message p.texts p.out p.filled p.sent
  pub receives : Receives l' (take p.sent.written p.filled ++ p.rest) p.back p.replied p.got
  pub good : refusal_of p.message p.texts ≡ 0
  pub fits : length (written_of p.message p.texts) ≤ length p.out
  pub wide : 525 ≤ length p.back

-- a line of a handover: what the message is for the chart; the state and the BoardIds of both lanes behind it, and the ForecastId that the downstream
-- lane keeps; the belt order of both sides
pub record Line : Type 0 where
  pub event : Event
  pub state : ℕ
  pub offered : Bytes
  pub running : Bytes
  pub forecast : Carried
  pub order : ℕ

-- "sender (U upstream, D downstream)"
pub data Said : Type 0 where
  from_u from_d : Line → Said

abbrev pub line_of : Said → Line
line_of (from_u x) = x
line_of (from_d x) = x

-- forecasts come from upstream, so that an upstream lane keeps none
abbrev pub lane_at : ℕ → Line → Lane
lane_at side x =
    record { side = side; state = x.state; offered = x.offered; running = x.running; forecast = cond (eqb side D) (righted (forecast_of x.forecast)) no_forecast }

-- the message is the line's
abbrev pub Says : Line → Message → Bytes → Type 0
Says x m texts = event_sent m texts ≡ x.event

-- an upstream lane u and a downstream lane d pass the lines' messages; each is met by the records that the one before left
abbrev pub Exchanges : Lane → Lane → List Said → List Passing → Type 0
Exchanges u d [] [] = Unit {0}
Exchanges u d [] (p ∷ ps) = ⊥
Exchanges u d (x ∷ xs) [] = ⊥
Exchanges u d (from_u x ∷ xs) (p ∷ ps) = Says x p.message p.texts × Passes u d p × Exchanges p.sent.lane p.got.lane xs ps
Exchanges u d (from_d x ∷ xs) (p ∷ ps) = Says x p.message p.texts × Passes d u p × Exchanges p.got.lane p.sent.lane xs ps

-- both calls accept, give the line's order and leave the line's lanes; what was written is used
pub record Goes (side : ℕ) (x : Line) (p : Passing) : Type 0 where
  pub sent : p.sent.refusal ≡ 0
  pub got : p.got.refusal ≡ 0
  pub sent_order : p.sent.order ≡ x.order
  pub got_order : p.got.order ≡ x.order
  pub sent_lane : p.sent.lane ≡ lane_at side x
  pub got_lane : p.got.lane ≡ lane_at (other side) x
  pub used : p.got.used ≡ p.sent.written

abbrev pub AllGo : List Said → List Passing → Type 0
AllGo [] [] = Unit {0}
AllGo [] (p ∷ ps) = ⊥
AllGo (x ∷ xs) [] = ⊥
AllGo (from_u x ∷ xs) (p ∷ ps) = Goes U x p × AllGo xs ps
AllGo (from_d x ∷ xs) (p ∷ ps) = Goes D x p × AllGo xs ps

abbrev line : ℕ → Bytes → Carried → ℕ → Bytes → Bytes → Carried → ℕ → Line
line kind board said state offered running held order =
    record { event = record { kind = kind; id = board; forecast = forecast_told said }; state = state; offered = offered; running = running; forecast = held; order = order }

-- one board from the first message of two new lanes to Idle: kind, board, ForecastId; state, offered and running id, kept ForecastId; order
abbrev pub handover : Bytes → List Said
handover id =
    from_d (line ServiceDescription no_id no_forecast_case DescribedDown no_id no_id no_forecast_case NoOrder)
    ∷ from_u (line ServiceDescription no_id no_forecast_case Idle no_id no_id no_forecast_case NoOrder)
    ∷ from_u (line BoardAvailable id no_forecast_case Offered id no_id no_forecast_case NoOrder)
    ∷ from_d (line MachineReady no_id no_forecast_case Both id no_id no_forecast_case NoOrder)
    ∷ from_d (line StartTransport id no_forecast_case Transporting no_id id no_forecast_case Run)
    ∷ from_u (line TransportFinished id no_forecast_case Finished no_id id no_forecast_case NoOrder)
    ∷ from_d (line StopTransport id no_forecast_case Idle no_id no_id no_forecast_case NoOrder)
    ∷ []

-- the same with a changeover before it: a forecast with an id, which may announce a board, and MachineReady with the same id once the rails are wide enough
abbrev pub changeover : Bytes → Bytes → Bytes → List Said
changeover id announced forecast =
    from_d (line ServiceDescription no_id no_forecast_case DescribedDown no_id no_id no_forecast_case NoOrder)
    ∷ from_u (line ServiceDescription no_id no_forecast_case Idle no_id no_id no_forecast_case NoOrder)
    ∷ from_u (line BoardForecast announced (a_forecast forecast) Idle no_id no_id (a_forecast forecast) NoOrder)
    ∷ from_d (line MachineReady no_id (a_forecast forecast) Ready no_id no_id no_forecast_case NoOrder)
    ∷ from_u (line BoardAvailable id no_forecast_case Both id no_id no_forecast_case NoOrder)
    ∷ from_d (line StartTransport id no_forecast_case Transporting no_id id no_forecast_case Run)
    ∷ from_u (line TransportFinished id no_forecast_case Finished no_id id no_forecast_case NoOrder)
    ∷ from_d (line StopTransport id no_forecast_case Idle no_id no_id no_forecast_case NoOrder)
    ∷ []
