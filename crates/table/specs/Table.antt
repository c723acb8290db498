-- The attribute table of document 01, "Message | Attributes in order (opt = may be missing)", of order 1 (Route, BatchId) and of order 3 (BoardForecast,
-- MachineReady's ForecastId).
use Rattle.std.specs.Prelude.{List, [], ◌∷◌, ◌++◌, Bool, true, false, ◌||◌, cond, ℕ, ◌+◌, ◌*◌, eqb}
use Prim.Native.String.{String}
use Rattle.lane.specs.Names.{Unknown, ServiceDescription, Notification, BoardAvailable, RevokeBoardAvailable, MachineReady, RevokeMachineReady, StartTransport, StopTransport, TransportFinished, CheckAlive, BoardForecast}
use Rattle.grammar.specs.Bytes.{Bytes, text, same}

-- what a value must be
pub data Form : Type 0 where
  -- "text 80"
  words : ℕ → Form
  -- "non-empty text 80"
  some_words : ℕ → Form
  -- "1..65535"
  whole : ℕ → ℕ → Form
  -- "GUID", "Version", "positive"
  guid version positive : Form
  -- "child SupportedFeatures"
  features : Form

-- whether it must be there
pub data Need : Type 0 where
  required : Need
  -- "opt = may be missing"
  optional : Need
  -- required if the attribute n is there, and ignored if not
  required_with : (n : Bytes) → Need
  -- not looked at: absent, whatever stands there
  ignored : Need

pub record Row : Type 0 where
  pub name : Bytes
  pub form : Form
  pub need : Need

infix 70 ◌is◌
abbrev pub ◌is◌ : String → Form → Row
n is t = record { name = text n; form = t; need = required }

-- "opt"
infix 70 ◌opt◌
abbrev pub ◌opt◌ : String → Form → Row
n opt t = record { name = text n; form = t; need = optional }

-- a row that is required if the attribute n is there
abbrev pub if_there : String → Row → Row
if_there n r = record { name = r.name; form = r.form; need = required_with (text n) }

pub record Entry : Type 0 where
  pub kind : ℕ
  pub name : Bytes
  pub rows : List Row

abbrev pub entry : ℕ → String → List Row → Entry
entry k n l = record { kind = k; name = text n; rows = l }

-- "8 StopTransport, 9 TransportFinished | TransferState 1..3; BoardId GUID"
abbrev transferred : List Row
transferred = "TransferState" is whole 1 3 ∷ "BoardId" is guid ∷ []

-- what a BoardAvailable and a BoardForecast say of the board, behind its id and who gave it
abbrev board_rows : List Row
board_rows =
    "FailedBoard" is whole 0 2
    ∷ "ProductTypeId" opt words 254
    ∷ "FlippedBoard" is whole 0 2
    ∷ "TopBarcode" opt words 254
    ∷ "BottomBarcode" opt words 254
    ∷ "Length" opt positive
    ∷ "Width" opt positive
    ∷ "Thickness" opt positive
    ∷ "ConveyorSpeed" opt positive
    ∷ "TopClearanceHeight" opt positive
    ∷ "BottomClearanceHeight" opt positive
    ∷ "Weight" opt positive
    ∷ "WorkOrderId" opt words 80
    ∷ []

-- "Take them in after WorkOrderId: Route an int 0 to 65535, optional; BatchId text 80, optional"
abbrev route_rows : List Row
route_rows = "Route" opt whole 0 65535 ∷ "BatchId" opt words 80 ∷ []

unfoldable pub table : List Entry
table =
    entry ServiceDescription "ServiceDescription"
    ("MachineId" is words 80 ∷ "LaneId" is whole 1 65535 ∷ "Version" is version ∷ "SupportedFeatures" is features ∷ [])
    ∷ entry Notification "Notification" ("NotificationCode" is whole 1 65535 ∷ "Severity" is whole 1 4 ∷ "Description" is words 254 ∷ [])
    ∷ entry BoardAvailable "BoardAvailable" ("BoardId" is guid ∷ "BoardIdCreatedBy" is some_words 80 ∷ (board_rows ++ route_rows))
    ∷ entry RevokeBoardAvailable "RevokeBoardAvailable" []
    ∷ entry MachineReady "MachineReady" ("FailedBoard" is whole 0 2 ∷ "ForecastId" opt words 80 ∷ [])
    ∷ entry RevokeMachineReady "RevokeMachineReady" []
    ∷ entry StartTransport "StartTransport" ("BoardId" is guid ∷ "ConveyorSpeed" opt positive ∷ [])
    ∷ entry StopTransport "StopTransport" transferred
    ∷ entry TransportFinished "TransportFinished" transferred
    ∷ entry CheckAlive "CheckAlive" ("Type" opt whole 1 2 ∷ "Id" opt words 80 ∷ [])
    ∷ entry BoardForecast "BoardForecast" ("ForecastId" opt words 80 ∷ "TimeUntilAvailable" opt positive ∷ "BoardId" opt guid ∷ "BoardIdCreatedBy" opt words 80 ∷ board_rows)
    ∷ []

-- "The root's child names the message; a name not in the attribute table is kind 0."
abbrev pub kind_in : List Entry → Bytes → ℕ
kind_in [] n = Unknown
kind_in (e ∷ l) n = cond (same e.name n) e.kind (kind_in l n)

abbrev pub kind_of : Bytes → ℕ
kind_of n = kind_in table n

-- the numbers that are kinds: those that an entry has
abbrev pub is_kind_in : List Entry → ℕ → Bool
is_kind_in [] k = false
is_kind_in (e ∷ l) k = eqb e.kind k || is_kind_in l k

abbrev pub is_kind : ℕ → Bool
is_kind k = is_kind_in table k

-- the rows of a kind; kind 0 and numbers that are no kind have none
abbrev pub rows_in : List Entry → ℕ → List Row
rows_in [] k = []
rows_in (e ∷ l) k = cond (eqb e.kind k) e.rows (rows_in l k)

abbrev pub rows_of : ℕ → List Row
rows_of k = rows_in table k

-- the name of a kind; a number that is no kind has none
abbrev pub name_in : List Entry → ℕ → Bytes
name_in [] k = []
name_in (e ∷ l) k = cond (eqb e.kind k) e.name (name_in l k)

-- rows where it is known which attributes are there: none of them is required with another one
abbrev pub settled_need : (Bytes → Bool) → Need → Need
settled_need there required = required
settled_need there optional = optional
settled_need there (required_with n) = cond (there n) required ignored
settled_need there ignored = ignored

abbrev pub settled : (Bytes → Bool) → List Row → List Row
settled there [] = []
settled there (r ∷ l) = record { name = r.name; form = r.form; need = settled_need there r.need } ∷ settled there l

-- where the cell of the first GUID among rows stands, of three numbers a cell, the first of which has the cell i; `none` if no row is one
abbrev pub is_guid : Form → Bool
is_guid (words n) = false
is_guid (some_words n) = false
is_guid (whole lo hi) = false
is_guid guid = true
is_guid version = false
is_guid positive = false
is_guid features = false

abbrev pub guid_cell_in : ℕ → List Row → ℕ → ℕ
guid_cell_in none [] i = none
guid_cell_in none (r ∷ l) i = cond (is_guid r.form) (3 * i) (guid_cell_in none l (i + 1))
