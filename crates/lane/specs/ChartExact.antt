-- T2.L1: `next` has exactly the paper's rows. What it answers for the nine states, the twelve kinds, both senders, received and sent,
-- with the id in use and with another, is the table below, written out from the paper; beyond these numbers nothing moves.
use Rattle.std.specs.Prelude.{◌≡◌, List, [], ◌∷◌, Bool, true, false, ℕ, ◌+◌, ◌≤◌, Option, Some, None}
use Prim.Native.Char.{code}
use Prim.Native.String.{String, [] as none, ◌∷◌ as ◌then◌}
use Rattle.lane.specs.Names.{U, D, NotConnected, DescribedDown, Idle, Offered, Ready, Both, Transporting, Stopped, Finished, Unknown, ServiceDescription, Notification, BoardAvailable, RevokeBoardAvailable, MachineReady, RevokeMachineReady, StartTransport, StopTransport, TransportFinished, CheckAlive, BoardForecast}
use Rattle.lane.specs.Chart.{among, Received, Sent, next}

unfoldable pub text : String → List ℕ
text none = []
text (c then s) = code c ∷ text s

-- A line: a state and a sender, and for the kinds 0 to 11 the next state's digit, or `-` for no transition:
-- received with the id in use, received with another id, sent with the id in use, sent with another id.
pub record Line : Type 0 where
  pub state : ℕ
  pub sender : ℕ
  pub received : List ℕ
  pub received_other : List ℕ
  pub sent : List ℕ
  pub sent_other : List ℕ

unfoldable pub line : ℕ → ℕ → String → String → String → String → Line
line s u a b c d = record { state = s; sender = u; received = text a; received_other = text b; sent = text c; sent_other = text d }

-- The columns of a quoted word are the kinds 0 1 2 3 4 5 6 7 8 9 10 11.
unfoldable pub expected : List Line
expected =
    line NotConnected U "0-0-------0-" "0-0-------0-" "--0-------0-" "--0-------0-" ∷
    line NotConnected D "010-------0-" "010-------0-" "-10-------0-" "-10-------0-" ∷
    line DescribedDown U "121-------1-" "121-------1-" "-21-------1-" "-21-------1-" ∷
    line DescribedDown D "1-1-------1-" "1-1-------1-" "--1-------1-" "--1-------1-" ∷
    line Idle U "2-23------22" "2-23------22" "--23------22" "--23------22" ∷
    line Idle D "2-2--4----2-" "2-2--4----2-" "--2--4----2-" "--2--4----2-" ∷
    line Offered U "3-3-2-----3-" "3-3-2-----3-" "--3-2-----3-" "--3-2-----3-" ∷
    line Offered D "3-3--5----3-" "3-3--5----3-" "--3--5----3-" "--3--5----3-" ∷
    line Ready U "4-45------44" "4-45------44" "--45------44" "--45------44" ∷
    line Ready D "4-4---26--4-" "4-4---26--4-" "--4---2---4-" "--4---2---4-" ∷
    line Both U "5-5-4-----5-" "5-5-4-----5-" "--5-4-----5-" "--5-4-----5-" ∷
    line Both D "5-5---36--5-" "5-5---36--5-" "--5---36--5-" "--5---3---5-" ∷
    line Transporting U "6-6-6----866" "6-6-6-----66" "--6------86-" "--6-------6-" ∷
    line Transporting D "6-6-----7-6-" "6-6-------6-" "--6-----7-6-" "--6-------6-" ∷
    line Stopped U "7-7-7----277" "7-7-7-----77" "--7------27-" "--7-------7-" ∷
    line Stopped D "7-7-------7-" "7-7-------7-" "--7-------7-" "--7-------7-" ∷
    line Finished U "8-8-------8-" "8-8-------8-" "--8-------8-" "--8-------8-" ∷
    line Finished D "8-8-----2-8-" "8-8-------8-" "--8-----2-8-" "--8-------8-" ∷
    []

-- The same lines, computed by `next`.
unfoldable pub shown : Option ℕ → ℕ
shown (Some n) = n + code "0"
shown None = code "-"

unfoldable pub cells : ℕ → ℕ → Bool → Bool → List ℕ → List ℕ
cells s u received same [] = []
cells s u received same (k ∷ ks) = shown (next s k u received same) ∷ cells s u received same ks

unfoldable pub kinds : List ℕ
kinds =
    Unknown ∷
    ServiceDescription ∷
    Notification ∷
    BoardAvailable ∷
    RevokeBoardAvailable ∷
    MachineReady ∷
    RevokeMachineReady ∷
    StartTransport ∷
    StopTransport ∷
    TransportFinished ∷
    CheckAlive ∷
    BoardForecast ∷
    []

unfoldable pub computed : ℕ → ℕ → Line
computed s u =
    record {
      state = s;
      sender = u;
      received = cells s u Received true kinds;
      received_other = cells s u Received false kinds;
      sent = cells s u Sent true kinds;
      sent_other = cells s u Sent false kinds;
    }

unfoldable pub lines : List ℕ → List Line
lines [] = []
lines (s ∷ ss) = computed s U ∷ computed s D ∷ lines ss

unfoldable pub states : List ℕ
states = NotConnected ∷ DescribedDown ∷ Idle ∷ Offered ∷ Ready ∷ Both ∷ Transporting ∷ Stopped ∷ Finished ∷ []

pub record Named (s k u n : ℕ) : Type 0 where
  pub state : s ≤ Finished
  pub next : n ≤ Finished
  pub kind : k ≤ BoardForecast
  pub sender : among u (U ∷ D ∷ []) ≡ true
