-- The numbers that stand for document 01's words.
use Rattle.std.specs.Prelude.{ℕ}

-- "sender (U upstream, D downstream)"
abbrev pub U : ℕ
U = 1

abbrev pub D : ℕ
D = 2

-- The nine states, in the order of the table.
abbrev pub NotConnected : ℕ
NotConnected = 0

abbrev pub DescribedDown : ℕ
DescribedDown = 1

abbrev pub Idle : ℕ
Idle = 2

abbrev pub Offered : ℕ
Offered = 3

abbrev pub Ready : ℕ
Ready = 4

abbrev pub Both : ℕ
Both = 5

abbrev pub Transporting : ℕ
Transporting = 6

abbrev pub Stopped : ℕ
Stopped = 7

abbrev pub Finished : ℕ
Finished = 8

-- The kinds of message, as the attribute table numbers them; "a name not in the attribute table is kind 0".
abbrev pub Unknown : ℕ
Unknown = 0

abbrev pub ServiceDescription : ℕ
ServiceDescription = 1

abbrev pub Notification : ℕ
Notification = 2

abbrev pub BoardAvailable : ℕ
BoardAvailable = 3

abbrev pub RevokeBoardAvailable : ℕ
RevokeBoardAvailable = 4

abbrev pub MachineReady : ℕ
MachineReady = 5

abbrev pub RevokeMachineReady : ℕ
RevokeMachineReady = 6

abbrev pub StartTransport : ℕ
StartTransport = 7

abbrev pub StopTransport : ℕ
StopTransport = 8

abbrev pub TransportFinished : ℕ
TransportFinished = 9

abbrev pub CheckAlive : ℕ
CheckAlive = 10

abbrev pub BoardForecast : ℕ
BoardForecast = 11

-- Belt orders: "run (1)", "cancel (2)", "Belt order 3, stop now", "Otherwise 0".
abbrev pub NoOrder : ℕ
NoOrder = 0

abbrev pub Run : ℕ
Run = 1

abbrev pub Cancel : ℕ
Cancel = 2

abbrev pub StopNow : ℕ
StopNow = 3

-- Refusal numbers: "accepted", "may not be sent", "protocol error".
abbrev pub Accepted : ℕ
Accepted = 0

abbrev pub MayNotBeSent : ℕ
MayNotBeSent = 8

abbrev pub ProtocolError : ℕ
ProtocolError = 9
