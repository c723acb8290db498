-- The state chart: which message makes which transition.
use Rattle.std.specs.Prelude.{List, [], ◌∷◌, Bool, true, false, ℕ, eqb, Option, Some, None}
use Rattle.lane.specs.Names.{U, D, NotConnected, DescribedDown, Idle, Offered, Ready, Both, Transporting, Stopped, Finished, Unknown, ServiceDescription, Notification, BoardAvailable, RevokeBoardAvailable, MachineReady, RevokeMachineReady, StartTransport, StopTransport, TransportFinished, CheckAlive, BoardForecast}

abbrev pub pick : {A : Type 0} → Bool → A → A → A
pick true a b = a
pick false a b = b

abbrev pub both : Bool → Bool → Bool
both true b = b
both false b = false

abbrev pub either : Bool → Bool → Bool
either true b = true
either false b = b

-- n is one of a list
abbrev pub among : ℕ → List ℕ → Bool
among n [] = false
among n (x ∷ xs) = either (eqb n x) (among n xs)

-- Whether a message was received or sent.
abbrev pub Received : Bool
Received = true

abbrev pub Sent : Bool
Sent = false

-- "State | Message, sender (U upstream, D downstream) | Next"
pub record Row : Type 0 where
  pub state : ℕ
  pub message : ℕ
  pub sender : ℕ
  pub may_be_sent : Bool
  pub next : ℕ

infix 70 ◌·◌from◌⇒◌
abbrev ◌·◌from◌⇒◌ : ℕ → ℕ → ℕ → ℕ → Row
s · k from u ⇒ n = record { state = s; message = k; sender = u; may_be_sent = true; next = n }

-- "received only"
infix 70 ◌·◌received_from◌⇒◌
abbrev ◌·◌received_from◌⇒◌ : ℕ → ℕ → ℕ → ℕ → Row
s · k received_from u ⇒ n = record { state = s; message = k; sender = u; may_be_sent = false; next = n }

unfoldable pub chart : List Row
chart =
    NotConnected · ServiceDescription from D ⇒ DescribedDown ∷
    DescribedDown · ServiceDescription from U ⇒ Idle ∷
    Idle · BoardAvailable from U ⇒ Offered ∷
    Idle · MachineReady from D ⇒ Ready ∷
    Offered · RevokeBoardAvailable from U ⇒ Idle ∷
    Offered · MachineReady from D ⇒ Both ∷
    Ready · RevokeMachineReady from D ⇒ Idle ∷
    Ready · BoardAvailable from U ⇒ Both ∷
    Both · RevokeBoardAvailable from U ⇒ Ready ∷
    Both · RevokeMachineReady from D ⇒ Offered ∷
    Both · StartTransport from D ⇒ Transporting ∷
    Ready · StartTransport received_from D ⇒ Transporting ∷
    Transporting · StopTransport from D ⇒ Stopped ∷
    Transporting · TransportFinished from U ⇒ Finished ∷
    Transporting · RevokeBoardAvailable received_from U ⇒ Transporting ∷
    Stopped · RevokeBoardAvailable received_from U ⇒ Stopped ∷
    Stopped · TransportFinished from U ⇒ Idle ∷
    Finished · StopTransport from D ⇒ Idle ∷
    -- order 3: "It is sent in Idle and Ready only. Received, it is also taken in Transporting and Stopped"
    Idle · BoardForecast from U ⇒ Idle ∷
    Ready · BoardForecast from U ⇒ Ready ∷
    Transporting · BoardForecast received_from U ⇒ Transporting ∷
    Stopped · BoardForecast received_from U ⇒ Stopped ∷
    []

-- A row is for a state and a message of its sender; one that is "received only" not for a sent one.
abbrev pub is_for : Row → ℕ → ℕ → ℕ → Bool → Bool
is_for x s k u received = both (eqb s x.state) (both (eqb k x.message) (both (either x.may_be_sent received) (eqb u x.sender)))

-- "Anything else, or a message from the wrong side, is no transition."
unfoldable pub by_rows : List Row → ℕ → ℕ → ℕ → Bool → Option ℕ
by_rows [] s k u received = None
by_rows (x ∷ xs) s k u received = pick (is_for x s k u received) (Some x.next) (by_rows xs s k u received)

-- "Notification, CheckAlive and kind 0 come from either side in every state and change neither the state nor an id in use"
abbrev pub is_free : ℕ → Bool
is_free k = among k (Notification ∷ CheckAlive ∷ Unknown ∷ [])

-- "kind 0 can't be sent (8)"
abbrev pub may_pass : ℕ → Bool → Bool
may_pass k received = pick (eqb k Unknown) received true

-- "Sent, [StartTransport] must carry the offered id"; "Stop and Finished with an id other than the running one are no transition."
abbrev pub may_name : ℕ → Bool → Bool → Bool
may_name k received same =
    pick (eqb k StartTransport) (either received same) (pick (among k (StopTransport ∷ TransportFinished ∷ [])) same true)

-- What a message does to the state: of kind k, from side u, received or sent, with the id in use (same) or another.
unfoldable pub next : ℕ → ℕ → ℕ → Bool → Bool → Option ℕ
next s k u received same =
    pick (is_free k) (pick (may_pass k received) (Some s) None)
    (pick (may_name k received same) (by_rows chart s k u received) None)
